use Rattle.std.proofs.Common.{◌≡◌, sym, ap, ◌∙◌, subst, arith, ℕ, List, take, length, ◌<◌, ◌+◌, ◌-◌}
use Rattle.std.specs.Prelude.{map, reverse}
use Rattle.std.proofs.lemmas.List.{reverse-reverse}
use Rattle.gk_grammar.specs.Token.{Line}
use Rattle.gk_grammar.specs.Grammar.{from_text}
use Rattle.gk_tree.specs.Views.{kept_line}
use Rattle.gk_tree.proofs.LineLemmas.{turn_last_text, turn_last_blank}
use Rattle.gk_tree.proofs.description.without_last_blanks.Goals as goal

pub returns-then-not-is_blank : goal.returns-then-not-is_blank
returns-then-not-is_blank c =
    let lines = c.args.lines.now in
    let x = c.index-lines-end.result in
    let back : (c.loop-end.end - 1) + 1 ≡ c.loop-end.end = omega arith in
    let within : c.loop-end.end - 1 < length lines = omega arith in
    let text = sym c.is_blank.ensures.value ∙ c.if-not-is_blank.true in
    let is = subst (λ (n : ℕ). from_text (reverse (map kept_line (take n lines))) ≡ reverse (map kept_line (take n lines))) back (turn_last_text lines (c.loop-end.end - 1) x within text) in
    sym (reverse-reverse (map kept_line (take c.loop-end.end lines))) ∙ ap (λ (z : List Line). reverse z) (sym is ∙ c.loop-end.invariant.same)

pub loop-end-preserved : goal.loop-end-preserved
loop-end-preserved c =
    let lines = c.args.lines.now in
    let x = c.index-lines-end.result in
    let back : (c.loop-end.end - 1) + 1 ≡ c.loop-end.end = omega arith in
    let within : c.loop-end.end - 1 < length lines = omega arith in
    let blank = sym c.is_blank.ensures.value ∙ c.if-not-is_blank.false in
    let is = subst (λ (n : ℕ). from_text (reverse (map kept_line (take n lines))) ≡ from_text (reverse (map kept_line (take (c.loop-end.end - 1) lines)))) back (turn_last_blank lines (c.loop-end.end - 1) x within blank) in
    record { within = omega arith; same = sym is ∙ c.loop-end.invariant.same }
