use Rattle.std.proofs.Common.{sym, refl}
use Rattle.std.specs.Str.{bytes_eq}
use Rattle.cm_attempt.specs.Rows.{attempt_row}
use Rattle.cm_attempt.specs.Table.{with_running_step}
use Rattle.indexmap.proofs.CallerLemmas.{index_map_len-with_value_at}
use Rattle.cm_refs.proofs.EntryLemmas.{first_entry}
use Rattle.cm_attempt.proofs.track.set_running.Goals as goal

pub returns-clause-rows : goal.returns-clause-rows
returns-clause-rows c id here =
    let at = first_entry attempt_row id (λ r. bytes_eq id r.id) (λ t v. refl) c.args.attempts.now.entries
    c.args.place c.index_mut-running.result.now here c.index_mut-running.ensures.value in
    sym (at.changed with_running_step
    (record (c.index_mut-running.result.now) { cursor = c.started-running.result }) (rw (c.started-running.ensures) refl))

pub returns-clause-len : goal.returns-clause-len
returns-clause-len c = index_map_len-with_value_at c.args.attempts.now c.args.place _
