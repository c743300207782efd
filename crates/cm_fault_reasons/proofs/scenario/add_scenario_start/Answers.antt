use Rattle.std.proofs.Common.{◌∙◌, ap, ◌++◌, List, ℕ}
use Rattle.cm_cases.proofs.ListingLemmas.{on_ok}
use Rattle.cm_fault_reasons.specs.AttemptLines.{attempt_line}
use Rattle.cm_fault_reasons.proofs.scenario.add_scenario_start.Goals as goal

pub returns : goal.returns
returns c =
    on_ok c.add_attempt.result c.add_attempt.ensures
    (λ added es is. added ∙ ap (λ (text : List ℕ). text ++ attempt_line c.args.number) (c.in_ok-add_of_case.ensures es is))
