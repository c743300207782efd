use Rattle.std.proofs.Common.{sym, refl}
use Rattle.std.specs.Str.{bytes_eq}
use Rattle.cm_attempt.specs.Rows.{attempt_row}
use Rattle.cm_attempt.specs.Table.{ended_attempt}
use Rattle.indexmap.proofs.CallerLemmas.{index_map_len-with_value_at}
use Rattle.cm_refs.proofs.EntryLemmas.{first_entry}
use Rattle.cm_attempt.proofs.track.set_ended.Goals as goal

pub returns-clause-rows : goal.returns-clause-rows
returns-clause-rows c id here =
    let at = first_entry attempt_row id (λ r. bytes_eq id r.id) (λ t v. refl) c.args.attempts.now.entries
    c.args.place c.index_mut-ending.result.now here c.index_mut-ending.ensures.value in
    sym (at.changed ended_attempt _ refl)

pub returns-clause-len : goal.returns-clause-len
returns-clause-len c = index_map_len-with_value_at c.args.attempts.now c.args.place _
