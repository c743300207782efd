use Rattle.std.proofs.Common.{◌∙◌, ap, sym, ◌++◌, append_assoc, List, ℕ, string_bytes}
use Rattle.std.specs.Prelude.{codes}
use Rattle.cm_cases.proofs.ListingLemmas.{on_ok}
use Rattle.cm_steps.specs.Steps.{named_case_step}
use Rattle.cm_causes.proofs.CaseLemmas.{step_told}
use Rattle.cm_causes.proofs.causes.add_last_step.Goals as goal

pub returns : goal.returns
returns c =
    on_ok c.add_named_step.result c.add_named_step.ensures
    (λ added es is quiet.
    let case = c.args.case.now in
    let step = c.in-Some-step_with.step.now in
    let old = string_bytes c.args.text.now in
    added es is
    ∙ ap (λ (t : List ℕ). t ++ named_case_step es case step) c.in_ok-push_str.ensures.bytes
    ∙ append_assoc old (codes " ") (named_case_step es case step)
    ∙ ap (λ (t : List ℕ). old ++ t) (sym (step_told es case c.in-Some.attempt.now step c.args.status (c.in-Some.ensures es is) (c.in-Some-step_with.ensures es is quiet))))
