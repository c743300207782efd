use Rattle.std.proofs.Common.{rules, refl, sym}
use Rattle.std.specs.Str.{bytes_eq}
use Rattle.cm_attempt.specs.Table.{AttemptRow, cursor_after_step, with_finished_step}
use Rattle.cm_attempt.specs.Rows.{attempt_rows}
use Rattle.cm_attempt.proofs.IdLaws.{distinct_after_change}
use Rattle.cm_attempt.proofs.TableLaws.{count_kept, is_open, open_kept}
use Rattle.cm_attempt.proofs.track.Track.step_finished.Goals as goal

pub returns-clause-open_count : goal.returns-clause-open_count
returns-clause-open_count c =
    rw (← c.self.view_is, c.note_status.ensures.rows c.args.attempt.now (sym c.in-Some.ensures.place))
    (count_kept (λ r. bytes_eq c.args.attempt.now r.id) is_open (with_finished_step c.args.status) (λ a. open_kept cursor_after_step a.cursor) _)

pub invariant_of-self : goal.invariant_of-self
invariant_of-self c = (
  search rules,
  record {
    of_cases = c.self.invariant.1.of_cases;
    of_attempts = distinct_after_change {X = AttemptRow} (λ r. r.id) (λ r. bytes_eq c.args.attempt.now r.id) (with_finished_step c.args.status) (λ r. refl) (attempt_rows c.self.inside.attempts.entries) (attempt_rows c.note_status.new.attempts.entries)
        (c.note_status.ensures.rows c.args.attempt.now (sym c.in-Some.ensures.place)) c.self.invariant.1.of_attempts;
  },
)

pub returns-clause-ok : goal.returns-clause-ok
returns-clause-ok c =
    let rows = c.note_status.ensures.rows c.args.attempt.now (sym c.in-Some.ensures.place) in
    search rules

pub returns-in_err-next-clause-answer : goal.returns-in_err-next-clause-answer
returns-in_err-next-clause-answer c = rw (← c.self.view_is, ← c.in-Some.ensures.row) (search rules)
