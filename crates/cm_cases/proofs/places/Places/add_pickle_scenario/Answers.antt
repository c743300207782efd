use Rattle.std.proofs.Common.{◌∙◌, ap, sym, append-nil, ◌++◌, List, ℕ, Some, None, string_bytes}
use Rattle.std.specs.Prelude.{find}
use Rattle.std.specs.Str.{bytes_eq}
use Rattle.cm_cases.specs.Firsts.{entry_scenario}
use Rattle.cm_cases.specs.declared.listing.Listing.{Listing}
use Rattle.cm_cases.proofs.FirstLemmas.{got_same}
use Rattle.cm_cases.proofs.ListingLemmas.{on_ok}
use Rattle.cm_cases.proofs.PlaceLemmas.{pickle_scenario_shown}
use Rattle.cm_cases.proofs.places.Places.add_pickle_scenario.Goals as goal

pub returns-in-Some : goal.returns-in-Some
returns-in-Some c =
    let found =
    got_same (λ x. x.now) (λ x. x.id) c.self.inside.listing.now.pickles c.self.inside.pickles c.args.id.now (Some c.in-Some.pickle.now) c.self.invariant.2 c.in-Some.ensures.value
    ∙ ap (λ (l : Listing). find (λ p. bytes_eq c.args.id.now p.id) l.pickles) c.self.view_is in
    on_ok c.add_scenario.result c.add_scenario.ensures
    (λ h es is.
    h ∙ ap (λ (t : List ℕ). string_bytes c.args.text.now ++ t)
    (sym (append-nil (entry_scenario c.args.self.now c.in-Some.pickle.now.now)) ∙ pickle_scenario_shown c.args.self.now es c.args.id.now (Some c.in-Some.pickle.now.now) is found))

pub returns-in-None : goal.returns-in-None
returns-in-None c es is =
    let found =
    got_same (λ x. x.now) (λ x. x.id) c.self.inside.listing.now.pickles c.self.inside.pickles c.args.id.now None c.self.invariant.2 c.in-None.ensures.value
    ∙ ap (λ (l : Listing). find (λ p. bytes_eq c.args.id.now p.id) l.pickles) c.self.view_is in
    sym (append-nil (string_bytes c.args.text.now)) ∙ ap (λ (t : List ℕ). string_bytes c.args.text.now ++ t) (pickle_scenario_shown c.args.self.now es c.args.id.now None is found)
