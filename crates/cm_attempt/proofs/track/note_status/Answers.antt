use Rattle.std.proofs.Common.{◌≡◌, Some, option_map, sym, refl}
use Rattle.std.specs.Str.{bytes_eq}
use Rattle.cm_attempt.specs.Rows.{attempt_row}
use Rattle.cm_attempt.specs.Table.{cursor_after_step, with_finished_step}
use Rattle.indexmap.proofs.CallerLemmas.{index_map_len-with_value_at}
use Rattle.cm_refs.proofs.EntryLemmas.{first_entry}
use Rattle.cm_attempt.proofs.track.note_status.Goals as goal

pub returns-clause-rows : goal.returns-clause-rows
returns-clause-rows c id here =
    let at = first_entry attempt_row id (λ r. bytes_eq id r.id) (λ t v. refl) c.args.attempts.now.entries
    c.args.place c.index_mut-attempt.result.now here c.index_mut-attempt.ensures.value in
    let old = c.index_mut-attempt.result.now in
    let next : option_map cursor_after_step old.cursor ≡ Some c.args.next = rw c.index_mut-attempt.ensures.value at c.requires.next in
    sym (at.changed (with_finished_step c.args.status)
    (record old { cursor = Some c.args.next; worst = Some c.worst_with.result }) (rw (next, c.worst_with.ensures) refl))

pub returns-clause-len : goal.returns-clause-len
returns-clause-len c = index_map_len-with_value_at c.args.attempts.now c.args.place _
