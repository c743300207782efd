use Rattle.std.proofs.Common.{Some, None, subst, arith}
use Rattle.std.proofs.lemmas.Str.{IsCharBoundary-after_ascii}
use Rattle.std.proofs.lemmas.Bool.{eqb-true}
use Rattle.memchr.specs.Find.{IsFirstByte, is_byte}
use Rattle.gk_line.proofs.LineLemmas.{lines-found, lines-missed}
use Rattle.gk_line.proofs.line_ends.first_line.Goals as goal
use native.Mathlib.Nat.{sub-zero}
use Rattle.gk_line.specs.Characters.{line_feed}

pub range_from-requires : goal.range_from-requires
range_from-requires c = λ _.
    let found = subst (λ bytes. IsFirstByte (is_byte line_feed) bytes (Some c.in-Some.end)) c.as_bytes.ensures.value c.in-Some.ensures in
    IsCharBoundary-after_ascii c.args.text.now c.in-Some.end c.utf8.text found.0.high (omega (arith, eqb-true _ line_feed found.1))

pub returns-in-Some-clause-value : goal.returns-in-Some-clause-value
returns-in-Some-clause-value c =
    let found = subst (λ bytes. IsFirstByte (is_byte line_feed) bytes (Some c.in-Some.end)) c.as_bytes.ensures.value c.in-Some.ensures in
    rw (c.without_return.ensures.value, c.range.ensures.value, c.range_from.ensures.value, sub-zero)
    (lines-found c.args.text.now c.in-Some.end c.utf8.text found)

pub returns-in-None-clause-value : goal.returns-in-None-clause-value
returns-in-None-clause-value c =
    lines-missed c.args.text.now c.utf8.text c.requires (subst (λ bytes. IsFirstByte (is_byte line_feed) bytes None) c.as_bytes.ensures.value c.in-None.ensures)
