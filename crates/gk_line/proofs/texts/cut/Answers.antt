use Rattle.std.proofs.Common.{Some, None, subst, arith}
use Rattle.std.proofs.lemmas.Str.{IsCharBoundary-after_ascii}
use Rattle.std.proofs.lemmas.Bool.{eqb-true, eq-eqb}
use Rattle.memchr.specs.Find.{IsFirstByte, is_byte}
use Rattle.gk_line.proofs.LineLemmas.{none_from_text, cut-found}
use Rattle.gk_line.proofs.texts.cut.Goals as goal
use native.Mathlib.Nat.{sub-zero}

pub returns-in_err-place-clause-place : goal.returns-in_err-place-clause-place
returns-in_err-place-clause-place c =
    let none = subst (λ bytes. IsFirstByte (is_byte c.args.at) bytes None) c.as_bytes.ensures.value c.in_err-place.ensures in
    rw c.from_residual.ensures
    (none_from_text c.args.at c.args.text.now c.utf8.text c.requires (λ k l e. none k (omega arith) l (eq-eqb _ c.args.at e)))

pub range_from-requires : goal.range_from-requires
range_from-requires c = λ _.
    let found = subst (λ bytes. IsFirstByte (is_byte c.args.at) bytes (Some c.in_ok-place.place)) c.as_bytes.ensures.value c.in_ok-place.ensures in
    IsCharBoundary-after_ascii c.args.text.now c.in_ok-place.place c.utf8.text found.0.high (omega (arith, eqb-true _ c.args.at found.1, c.requires))

pub returns-clause-place : goal.returns-clause-place
returns-clause-place c =
    let found = subst (λ bytes. IsFirstByte (is_byte c.args.at) bytes (Some c.in_ok-place.place)) c.as_bytes.ensures.value c.in_ok-place.ensures in
    rw (c.range.ensures.value, c.range_from.ensures.value, sub-zero) (cut-found c.args.at c.args.text.now c.in_ok-place.place c.utf8.text c.requires found)
