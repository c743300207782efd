use Rattle.std.proofs.Common.{◌∙◌, ◌++◌, ap, append_assoc, codes, string_bytes, List, ℕ}
use Rattle.cm_cases.specs.Places.{case_scenario}
use Rattle.cm_fault_reasons.proofs.scenario.add_case_line.Goals as goal

pub returns : goal.returns
returns c es is =
    let old = string_bytes c.args.text.now in
    let shown = case_scenario es c.args.case.now in
    c.in_ok-push_str-2.ensures.bytes
    ∙ ap (λ (l : List ℕ). l ++ codes "\n") (c.in_ok-add_case_scenario.ensures es is ∙ ap (λ (l : List ℕ). l ++ shown) c.in_ok-push_str.ensures.bytes)
    ∙ append_assoc (old ++ codes "case") shown (codes "\n") ∙ append_assoc old (codes "case") (shown ++ codes "\n")
