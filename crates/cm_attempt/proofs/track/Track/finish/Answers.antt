use Rattle.std.proofs.Common.{rules, ◌≡◌, refl, sym, true, []}
use Rattle.std.specs.Str.{bytes_eq}
use Rattle.kept_texts.specs.Kept.{bytes_of}
use Rattle.cm_attempt.specs.Rows.{attempt_row, attempt_rows, case_rows, table_of}
use Rattle.cm_attempt.specs.Table.{AttemptRow, CaseRow, ended_attempt, with_last}
use Rattle.cm_attempt.proofs.IdLaws.{distinct_after_change}
use Rattle.cm_attempt.proofs.TableLaws.{count_ended, is_open, open_before_end}
use Rattle.cm_attempt.proofs.track.Track.finish.Goals as goal

pub returns-clause-closes : goal.returns-clause-closes
returns-clause-closes c =
    let row = attempt_row c.args.attempt.now c.in-Some.found.now in
    let live : is_open row ≡ true = open_before_end (table_of 0 c.self.inside.cases.entries []) row c.check_end.result (search rules) (search rules) in
    rw (← c.self.view_is, c.set_ended.ensures.rows c.args.attempt.now (sym c.in-Some.ensures.place))
    (count_ended (λ r. bytes_eq c.args.attempt.now r.id) row _ (search rules) live)

pub invariant_of-self : goal.invariant_of-self
invariant_of-self c = (
  search rules,
  record {
    of_cases = distinct_after_change {X = CaseRow} (λ r. r.id) (λ r. bytes_eq (bytes_of c.in-Some.found.now.case_id) r.id) (with_last c.outcome-last.result) (λ r. refl) (case_rows c.self.inside.cases.entries) (case_rows c.close_case.new.cases.entries)
        (c.close_case.ensures.rows (bytes_of c.in-Some.found.now.case_id) (search rules)) c.self.invariant.1.of_cases;
    of_attempts = distinct_after_change {X = AttemptRow} (λ r. r.id) (λ r. bytes_eq c.args.attempt.now r.id) ended_attempt (λ r. refl) (attempt_rows c.self.inside.attempts.entries) (attempt_rows c.set_ended.new.attempts.entries)
        (c.set_ended.ensures.rows c.args.attempt.now (sym c.in-Some.ensures.place)) c.self.invariant.1.of_attempts;
  },
)

pub returns-clause-ok : goal.returns-clause-ok
returns-clause-ok c =
    let cases = c.close_case.ensures.rows (bytes_of c.in-Some.found.now.case_id) (search rules) in
    let attempts = c.set_ended.ensures.rows c.args.attempt.now (sym c.in-Some.ensures.place) in
    search rules
