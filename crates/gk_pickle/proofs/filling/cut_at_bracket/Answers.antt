use Rattle.gk_pickle.proofs.Plain.{none_found, front_found, cut_after, cut_around}
use Rattle.std.proofs.Common.{ap, arith, length}
use Rattle.gk_pickle.proofs.filling.cut_at_bracket.Goals as goal

pub range_from-requires : goal.range_from-requires
range_from-requires c = λ _. cut_after _ _ c.in_ok-at.at c.as_bytes.ensures.value c.in_ok-at.ensures.0 c.in_ok-at.ensures.1 c.utf8.text

pub returns-clause-plain : goal.returns-clause-plain
returns-clause-plain c = front_found _ _ c.in_ok-at.at _ c.as_bytes.ensures.value c.in_ok-at.ensures.0 c.range.ensures.value

pub returns-in_err-at-clause-none : goal.returns-in_err-at-clause-none
returns-in_err-at-clause-none c = rw c.from_residual.ensures (none_found _ _ c.as_bytes.ensures.value c.in_err-at.ensures)

pub returns-clause-some : goal.returns-clause-some
returns-clause-some c =
    let below = c.in_ok-at.ensures.0.high in
    cut_around _ _ _ _ c.in_ok-at.at c.as_bytes-2.ensures.value (omega (arith, ap length c.as_bytes.ensures.value)) c.range.ensures.value c.range_from.ensures.value

pub returns-clause-bracket : goal.returns-clause-bracket
returns-clause-bracket c = rw (c.as_bytes-2.ensures.value, ← c.as_bytes.ensures.value) c.in_ok-at.ensures.1
