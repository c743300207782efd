use Rattle.std.proofs.Common.{◌∙◌, ap, sym, append-nil, ◌++◌, List, ℕ, Some, None, string_bytes}
use Rattle.cm_cases.specs.Firsts.{entry_text}
use Rattle.cm_cases.proofs.ListingLemmas.{on_ok}
use Rattle.cm_cases.proofs.PlaceLemmas.{case_shown}
use Rattle.cm_cases.proofs.places.Places.add_case.Goals as goal

pub returns-in-Some : goal.returns-in-Some
returns-in-Some c =
    on_ok c.add_entry.result c.add_entry.ensures
    (λ h es is.
    h ∙ ap (λ (t : List ℕ). string_bytes c.args.text.now ++ t)
    (sym (append-nil (entry_text c.args.self.now c.in-Some.pickle.now)) ∙ case_shown c.args.self.now es c.args.case.now (Some c.in-Some.pickle.now) is c.in-Some.ensures))

pub returns-in-None : goal.returns-in-None
returns-in-None c es is =
    sym (append-nil (string_bytes c.args.text.now)) ∙ ap (λ (t : List ℕ). string_bytes c.args.text.now ++ t) (case_shown c.args.self.now es c.args.case.now None is c.in-None.ensures)
