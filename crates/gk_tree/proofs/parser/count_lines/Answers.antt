use Rattle.std.proofs.Common.{◌≡◌, ◌∙◌, ◌<◌, ◌≤◌, ◌==◌, ℕ, zero, suc, false, List, [], Option, Some, None, Bor, length, length-drop, refl, sym, ap, subst, arith}
use Rattle.std.specs.Prelude.{MatchOption, unwrap_or}
use Rattle.std.specs.Str.{chars}
use Rattle.std.specs.Str.Lines.{lines}
use Rattle.std.specs.Str.Pattern.{FindsCharPrefix, StripsPrefix}
use Rattle.std.proofs.lemmas.Bool.{eqb-true, false≢true}
use Rattle.std.proofs.lemmas.List.FromFn.{length-enumerate_from}
use Rattle.std.proofs.lemmas.Str.{chars-nil, IsCharBoundary-after_ascii}
use Rattle.memchr.specs.Find.{IsFirstByte, is_byte}
use Rattle.gk_line.specs.Lines.{lines_of, numbered_lines, without_mark}
use Rattle.gk_line.specs.Characters.{byte_order_mark, line_feed}
use Rattle.gk_line.proofs.LineLemmas.{without_mark-chars, lines-found, lines-missed}
use Rattle.gk_line.proofs.TextLemmas.{nil_from_empty}
use Rattle.gk_tree.proofs.parser.count_lines.Goals as goal

-- the text without the mark is no longer than the text
shorter : (bs : List ℕ) (r : Option (Bor (List ℕ))) (d t : Bor (List ℕ)) → d.now ≡ bs → MatchOption r (FindsCharPrefix byte_order_mark bs None) (λ x. StripsPrefix (FindsCharPrefix byte_order_mark) bs x.now) → t ≡ unwrap_or r d → length t.now ≤ length bs
shorter bs None d t is lacks e = omega (arith, ap (λ (x : Bor (List ℕ)). length x.now) e, ap length is)
shorter bs (Some x) d t is (n, at, rest, len) e =
    omega (arith, ap (λ (x : Bor (List ℕ)). length x.now) e, ap length rest, length-drop n bs)

pub loop-end-init : goal.loop-end-init
loop-end-init c =
    let unmarked = without_mark-chars c.args.text.now c.strip_prefix.result c.args.text c.unwrap_or-rest.result c.utf8.text refl c.strip_prefix.ensures.cases c.unwrap_or-rest.ensures in
    record {
      utf8 = c.unwrap_or-rest.utf8;
      short = omega (arith, shorter c.args.text.now c.strip_prefix.result c.args.text c.unwrap_or-rest.result refl c.strip_prefix.ensures.cases c.unwrap_or-rest.ensures, c.requires);
      counted = omega (arith, ap (λ (z : List ℕ). length (lines z)) unmarked);
    }

pub range_from-rest-requires : goal.range_from-rest-requires
range_from-rest-requires c = λ _.
    let found = subst (λ (bytes : List ℕ). IsFirstByte (is_byte line_feed) bytes (Some c.in-Some.end)) c.as_bytes.ensures.value c.in-Some.ensures in
    IsCharBoundary-after_ascii c.loop-end.rest.now c.in-Some.end c.loop-end.invariant.utf8 found.0.high (omega (arith, eqb-true _ line_feed found.1))

pub loop-end-preserved : goal.loop-end-preserved
loop-end-preserved c =
    let rest = c.loop-end.rest.now in
    let found = subst (λ (bytes : List ℕ). IsFirstByte (is_byte line_feed) bytes (Some c.in-Some.end)) c.as_bytes.ensures.value c.in-Some.ensures in
    let one = ap length (lines-found rest c.in-Some.end c.loop-end.invariant.utf8 found) in
    let left = ap (λ (z : List ℕ). length (lines (chars z))) c.range_from-rest.ensures.value in
    let inside : c.in-Some.end < length rest = found.0.high in
    record {
      utf8 = c.range_from-rest.utf8;
      short = omega (arith, c.loop-end.invariant.short, c.range_from-rest.ensures.len, inside);
      counted = omega (arith, c.loop-end.invariant.counted, one, left);
    }

no_lines : (rest : List ℕ) → rest ≡ [] → length (lines (chars rest)) ≡ 0
no_lines rest e = ap (λ (z : List ℕ). length (lines (chars z))) e ∙ ap (λ (z : List ℕ). length (lines z)) chars-nil

positive : (n : ℕ) → (n == 0) ≡ false → 0 < n
positive zero h = absurd (false≢true (sym h))
positive (suc n) h = omega arith

pub returns-then-is_empty : goal.returns-then-is_empty
unfolding lines_of numbered_lines
returns-then-is_empty c =
    let rest = c.loop-end.rest.now in
    let none = no_lines rest (nil_from_empty rest (eqb-true (length rest) 0 (sym c.is_empty.ensures ∙ c.if-is_empty.true))) in
    omega (arith, c.loop-end.invariant.counted, none, length-enumerate_from 1 (lines (without_mark (chars c.args.text.now))))

pub returns-else-is_empty : goal.returns-else-is_empty
unfolding lines_of numbered_lines
returns-else-is_empty c =
    let rest = c.loop-end.rest.now in
    let missed = subst (λ (bytes : List ℕ). IsFirstByte (is_byte line_feed) bytes None) c.as_bytes.ensures.value (subst (λ (o : Option ℕ). IsFirstByte (is_byte line_feed) c.as_bytes.result.now o) c.in_default.is c.memchr.ensures) in
    let some : 0 < length rest = positive (length rest) (sym c.is_empty.ensures ∙ c.if-is_empty.false) in
    let one = ap length (lines-missed rest c.loop-end.invariant.utf8 some missed) in
    let none = no_lines [] refl in
    omega (arith, c.loop-end.invariant.counted, one, none, length-enumerate_from 1 (lines (without_mark (chars c.args.text.now))))
