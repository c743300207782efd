use Rattle.std.proofs.Common.{◌≡◌, ◌∙◌, ap, refl, sym, append-nil, ◌++◌, List, ℕ, Some, None, string_bytes}
use Rattle.cm_cases.specs.Firsts.{entry_of, entry_values, times_in}
use Rattle.cm_cases.specs.JsonLines.{json_line}
use Rattle.cm_cases.specs.declared.listing.Listing.{Listing}
use Rattle.cm_cases.proofs.JsonLemmas.{case_said}
use Rattle.cm_cases.proofs.ListingLemmas.{on_ok}
use Rattle.cm_cases.proofs.json_lines.JsonLines.add_case.Goals as goal

pub returns-in-Some : goal.returns-in-Some
returns-in-Some c =
    let same : c.self.inside.places ≡ c.args.self.now = c.self.invariant.0 ∙ c.self.view_is in
    let count = c.count_of-attempts.ensures ∙ c.self.invariant.1 c.args.case.now ∙ ap (λ (l : Listing). times_in l.starts c.args.case.now) c.self.view_is in
    on_ok c.add_entry.result c.add_entry.ensures
    (λ h es is.
    h ∙ ap (λ (t : List ℕ). string_bytes c.args.text.now ++ t)
    (sym (append-nil (json_line (entry_values c.args.self.now c.count_of-attempts.result c.args.status.now c.in-Some.pickle.now)))
    ∙ case_said c.args.self.now es c.args.case.now c.args.status.now c.count_of-attempts.result (Some c.in-Some.pickle.now) is count (c.in-Some.ensures ∙ ap (λ (l : Listing). entry_of l c.args.case.now) same)))

pub returns-in-None : goal.returns-in-None
returns-in-None c es is =
    let same : c.self.inside.places ≡ c.args.self.now = c.self.invariant.0 ∙ c.self.view_is in
    sym (append-nil (string_bytes c.args.text.now))
    ∙ ap (λ (t : List ℕ). string_bytes c.args.text.now ++ t)
    (case_said c.args.self.now es c.args.case.now c.args.status.now _ None is refl (c.in-None.ensures ∙ ap (λ (l : Listing). entry_of l c.args.case.now) same))
