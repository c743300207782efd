use Rattle.std.proofs.Common.{sym}
use Rattle.std.proofs.lemmas.Result.{IfOk-at_ok}
use Rattle.cm_cases.proofs.places.Places.of.Goals as goal

pub invariant_of-result : goal.invariant_of-result
invariant_of-result c =
    let maps = c.in_ok-cases.ensures in
    let of_cases = IfOk-at_ok _ (maps.0) c.both.ensures in
    let others = IfOk-at_ok _ (maps.1) c.both-2.ensures in (
      rw (sym c.as_slice.ensures) (IfOk-at_ok _ (of_cases.0) c.firsts_of-cases.ensures),
      rw (sym c.as_slice-2.ensures) (IfOk-at_ok _ (of_cases.1) c.firsts_of-named.ensures),
      rw (sym c.as_slice-3.ensures) (IfOk-at_ok _ (others.0) c.firsts_of-pickles.ensures),
      rw (sym c.as_slice-4.ensures) (IfOk-at_ok _ (others.1) c.places_by_uri-documents.ensures),
    )
