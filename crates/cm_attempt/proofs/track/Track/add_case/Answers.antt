use Rattle.std.proofs.Common.{rules, ap, ◌∙◌, ◌++◌, ◌∷◌, []}
use Rattle.std.specs.String.{string_bytes}
use Rattle.cm_attempt.specs.Rows.{case_rows}
use Rattle.cm_attempt.specs.Table.{CaseRow, new_case}
use Rattle.cm_attempt.proofs.IdLaws.{distinct_after_push}
use Rattle.cm_refs.specs.StepIds.{ids_in}
use Rattle.cm_attempt.proofs.track.Track.add_case.Goals as goal

pub invariant_of-self-2 : goal.invariant_of-self-2
invariant_of-self-2 c = (
  search rules,
  record {
    of_cases = distinct_after_push {X = CaseRow} (λ r. r.id) (new_case (string_bytes c.args.id) (ids_in c.in-Some.steps)) (case_rows c.self.inside.cases.entries) (case_rows c.add_case.new.cases.entries)
        (c.in_ok-add_case.ensures.ok ∙ ap (λ t. case_rows c.self.inside.cases.entries ++ new_case t (ids_in c.in-Some.steps) ∷ []) c.as_str-2.ensures.value) (search rules) c.self.invariant.1.of_cases;
    of_attempts = c.self.invariant.1.of_attempts;
  },
)
