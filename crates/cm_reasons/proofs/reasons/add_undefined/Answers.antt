use Rattle.std.proofs.Common.{◌≡◌, ◌∙◌, ap, ◌++◌, append_assoc, List, ℕ, string_bytes}
use Rattle.std.specs.Prelude.{codes}
use Rattle.cm_cases.proofs.ListingLemmas.{on_ok}
use Rattle.cm_cases.specs.Places.{case_scenario}
use Rattle.cm_steps.specs.Steps.{named_case_step}
use Rattle.cm_reasons.proofs.reasons.add_undefined.Goals as goal

in_turn : (old word case space step : List ℕ) → (((old ++ word) ++ case) ++ space) ++ step ≡ old ++ (((word ++ case) ++ space) ++ step)
in_turn old word case space step =
    ap (λ (t : List ℕ). (t ++ space) ++ step) (append_assoc old word case)
    ∙ ap (λ (t : List ℕ). t ++ step) (append_assoc old (word ++ case) space)
    ∙ append_assoc old ((word ++ case) ++ space) step

pub returns : goal.returns
returns c =
    on_ok c.add_named_step.result c.add_named_step.ensures
    (λ told es places steps.
    let case : List ℕ = case_scenario es c.args.case.now in
    let step : List ℕ = named_case_step es c.args.case.now c.args.step.now in
    let h : string_bytes c.add_named_step.new.text ≡ string_bytes c.args.text.now ++ (((codes "UNDEFINED" ++ case) ++ codes " ") ++ step) =
    told es steps
    ∙ ap (λ (t : List ℕ). t ++ step)
    (c.in_ok-push_str-2.ensures.bytes
    ∙ ap (λ (t : List ℕ). t ++ codes " ") (c.in_ok-add_case_scenario.ensures es places ∙ ap (λ (t : List ℕ). t ++ case) c.in_ok-push_str.ensures.bytes))
    ∙ in_turn (string_bytes c.args.text.now) (codes "UNDEFINED") case (codes " ") step in
    h)
