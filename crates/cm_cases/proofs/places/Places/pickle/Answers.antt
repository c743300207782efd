use Rattle.std.proofs.Common.{◌∙◌, ap, Some, None}
use Rattle.std.specs.Prelude.{find}
use Rattle.std.specs.Str.{bytes_eq}
use Rattle.cm_stream.specs.Texts.{Utf8}
use Rattle.cm_cases.proofs.FirstLemmas.{entry_found, got_same, no_entry}
use Rattle.cm_cases.proofs.places.Places.pickle.Goals as goal

pub returns-in_err-case : goal.returns-in_err-case
returns-in_err-case c =
    rw (← c.self.view_is)
    (rw c.from_residual.ensures
    (no_entry c.self.inside.listing.now c.args.case.now (got_same (λ x. x.now) (λ x. x.id) c.self.inside.listing.now.cases c.self.inside.cases c.args.case.now None c.self.invariant.0 c.in_err-case.ensures.value)))

pub returns-in_err-pickle : goal.returns-in_err-pickle
returns-in_err-pickle c =
    let found = got_same (λ x. x.now) (λ x. x.id) c.self.inside.listing.now.cases c.self.inside.cases c.args.case.now (Some c.in_ok-case.case.now) c.self.invariant.0 c.in_ok-case.ensures.value in
    let none = got_same (λ x. x.now) (λ x. x.id) c.self.inside.listing.now.pickles c.self.inside.pickles c.as_str.result.now None c.self.invariant.2 c.in_err-pickle.ensures.value in
    rw (← c.self.view_is)
    (rw c.from_residual-in_err-pickle.ensures
    (entry_found c.self.inside.listing.now c.args.case.now c.in_ok-case.case.now.now None found (none ∙ ap (λ (t : Utf8). find (λ p. bytes_eq t p.id) c.self.inside.listing.now.pickles) c.as_str.ensures)))

pub returns : goal.returns
returns c =
    let found = got_same (λ x. x.now) (λ x. x.id) c.self.inside.listing.now.cases c.self.inside.cases c.args.case.now (Some c.in_ok-case.case.now) c.self.invariant.0 c.in_ok-case.ensures.value in
    let some = got_same (λ x. x.now) (λ x. x.id) c.self.inside.listing.now.pickles c.self.inside.pickles c.as_str.result.now (Some c.in_ok-pickle.pickle.now) c.self.invariant.2 c.in_ok-pickle.ensures.value in
    rw (← c.self.view_is)
    (entry_found c.self.inside.listing.now c.args.case.now c.in_ok-case.case.now.now (Some c.in_ok-pickle.pickle.now.now) found (some ∙ ap (λ (t : Utf8). find (λ p. bytes_eq t p.id) c.self.inside.listing.now.pickles) c.as_str.ensures))
