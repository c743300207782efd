use Rattle.std.proofs.Common.{◌∙◌, ap, sym, append-nil, ◌++◌, List, ℕ, Some, None, string_bytes}
use Rattle.cm_cases.specs.Firsts.{entry_scenario}
use Rattle.cm_cases.proofs.ListingLemmas.{on_ok}
use Rattle.cm_cases.proofs.PlaceLemmas.{case_scenario_shown}
use Rattle.cm_cases.proofs.places.Places.add_case_scenario.Goals as goal

pub returns-in-Some : goal.returns-in-Some
returns-in-Some c =
    on_ok c.add_scenario.result c.add_scenario.ensures
    (λ h es is.
    h ∙ ap (λ (t : List ℕ). string_bytes c.args.text.now ++ t)
    (sym (append-nil (entry_scenario c.args.self.now c.in-Some.pickle.now)) ∙ case_scenario_shown c.args.self.now es c.args.case.now (Some c.in-Some.pickle.now) is c.in-Some.ensures))

pub returns-in-None : goal.returns-in-None
returns-in-None c es is =
    sym (append-nil (string_bytes c.args.text.now)) ∙ ap (λ (t : List ℕ). string_bytes c.args.text.now ++ t) (case_scenario_shown c.args.self.now es c.args.case.now None is c.in-None.ensures)
