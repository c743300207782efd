use Rattle.std.proofs.Common.{rules, refl}
use Rattle.std.specs.Str.{bytes_eq}
use Rattle.cm_attempt.specs.Rows.{attempt_rows, case_rows}
use Rattle.cm_attempt.specs.Table.{AttemptRow, CaseRow, new_attempt, with_open_attempt}
use Rattle.cm_attempt.proofs.IdLaws.{distinct_after_change, distinct_after_push}
use Rattle.cm_attempt.proofs.track.Track.start.Goals as goal

pub invariant_of-self-2 : goal.invariant_of-self-2
invariant_of-self-2 c = (
  search rules,
  record {
    of_cases = distinct_after_change {X = CaseRow} (λ r. r.id) (λ r. bytes_eq c.args.case.now r.id) with_open_attempt (λ r. refl) (case_rows c.self.inside.cases.entries) (case_rows c.open_case.new.cases.entries)
        (c.open_case.ensures.rows c.args.case.now (search rules)) c.self.invariant.1.of_cases;
    of_attempts = distinct_after_push {X = AttemptRow} (λ r. r.id) (new_attempt c.args.id.now c.args.case.now) (attempt_rows c.self.inside.attempts.entries) (attempt_rows c.add_attempt.new.attempts.entries)
        c.in_ok-add_attempt.ensures.ok (search rules) c.self.invariant.1.of_attempts;
  },
)

pub returns-clause-ok : goal.returns-clause-ok
returns-clause-ok c =
    let cases = c.open_case.ensures.rows c.args.case.now (search rules) in
    search rules
