use Rattle.std.proofs.Common.{rules, refl, sym}
use Rattle.std.specs.Str.{bytes_eq}
use Rattle.cm_attempt.specs.Table.{AttemptRow, running_cursor, with_running_step}
use Rattle.cm_attempt.specs.Rows.{attempt_rows}
use Rattle.cm_attempt.proofs.IdLaws.{distinct_after_change}
use Rattle.cm_attempt.proofs.TableLaws.{count_kept, is_open, open_kept}
use Rattle.cm_attempt.proofs.track.Track.step_started.Goals as goal

pub returns-clause-open_count : goal.returns-clause-open_count
returns-clause-open_count c =
    rw (← c.self.view_is, c.set_running.ensures.rows c.args.attempt.now (sym c.in-Some.ensures.place))
    (count_kept (λ r. bytes_eq c.args.attempt.now r.id) is_open with_running_step (λ a. open_kept running_cursor a.cursor) _)

pub returns-clause-ok : goal.returns-clause-ok
returns-clause-ok c =
    let rows = c.set_running.ensures.rows c.args.attempt.now (sym c.in-Some.ensures.place) in
    search rules

pub invariant_of-self : goal.invariant_of-self
invariant_of-self c = (
  search rules,
  record {
    of_cases = c.self.invariant.1.of_cases;
    of_attempts = distinct_after_change {X = AttemptRow} (λ r. r.id) (λ r. bytes_eq c.args.attempt.now r.id) with_running_step (λ r. refl) (attempt_rows c.self.inside.attempts.entries) (attempt_rows c.set_running.new.attempts.entries)
        (c.set_running.ensures.rows c.args.attempt.now (sym c.in-Some.ensures.place)) c.self.invariant.1.of_attempts;
  },
)

pub returns-in_err-check_start-clause-answer : goal.returns-in_err-check_start-clause-answer
returns-in_err-check_start-clause-answer c = rw (← c.self.view_is, ← c.in-Some.ensures.row) (search rules)
