use Rattle.std.proofs.Common.{refl}
use Rattle.gk_pickle.proofs.Replacing.{none_found, one_found, cut_after}
use Rattle.gk_pickle.proofs.filling.cut_at_first.Goals as goal

pub returns-in_err-start-clause-none : goal.returns-in_err-start-clause-none
returns-in_err-start-clause-none c =
    rw c.from_residual.ensures (λ cell. none_found _ _ _ _ cell c.as_bytes.ensures.value c.requires c.in_err-start.ensures)

pub range_from-requires : goal.range_from-requires
range_from-requires c = λ _. cut_after _ _ _ _ _ c.as_bytes.ensures.value c.requires c.in_ok-start.ensures.1 c.utf8.text

pub returns-clause-some : goal.returns-clause-some
returns-clause-some c cell =
    rw (c.range.ensures.value, c.range_from.ensures.value) (one_found _ _ _ _ cell _ _ c.as_bytes.ensures.value c.requires c.in_ok-start.ensures.0 c.in_ok-start.ensures.1 refl)
