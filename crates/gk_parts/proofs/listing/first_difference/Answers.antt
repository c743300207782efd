use Rattle.gk_parts.proofs.Found.{parts_shown, none_found, first_found}
use Rattle.gk_parts.proofs.listing.first_difference.Goals as goal

pub returns-clause-none : goal.returns-clause-none
returns-clause-none c =
    none_found _ _ c.args.expected.now c.args.found.now (parts_shown _ _ c.args.expected.now c.deref.ensures.value c.in_ok-expected.ensures) (parts_shown _ _ c.args.found.now c.deref-2.ensures.value c.in_ok-found.ensures)
    c.first_unlike.result c.first_unlike.ensures

pub returns-clause-first : goal.returns-clause-first
returns-clause-first c =
    first_found _ _ c.args.expected.now c.args.found.now (parts_shown _ _ c.args.expected.now c.deref.ensures.value c.in_ok-expected.ensures) (parts_shown _ _ c.args.found.now c.deref-2.ensures.value c.in_ok-found.ensures)
    c.first_unlike.result c.first_unlike.ensures
