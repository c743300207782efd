use Rattle.std.proofs.Common.{◌≡◌, sym, ap, ◌∙◌, subst, arith, false, true, List, length, ◌<◌}
use Rattle.std.specs.Prelude.{map}
use Rattle.gk_line.specs.Tokens.{is_blank_line}
use Rattle.gk_line.specs.Views.{line_chars}
use Rattle.gk_tree.specs.declared.token.IndentedLine.{IndentedLine}
use Rattle.gk_tree.specs.Views.{kept_line}
use Rattle.gk_tree.proofs.LineLemmas.{all_left, turn_text, turn_blank}
use Rattle.gk_tree.proofs.description.without_first_blanks.Goals as goal

pub returns-then-not-is_blank : goal.returns-then-not-is_blank
returns-then-not-is_blank c =
    let lines = c.args.lines.now in
    let x = c.index-lines-i.result in
    let within : c.loop-i.i < length lines = omega arith in
    let text = subst (λ (z : IndentedLine). is_blank_line (line_chars z.line) ≡ false) c.index-lines-i.is (sym c.is_blank.ensures.value ∙ c.if-not-is_blank.true) in
    ap (λ (z : List IndentedLine). map kept_line z) (all_left lines c.loop-i.i) ∙ sym (turn_text lines c.loop-i.i x within text) ∙ c.loop-i.invariant

pub loop-i-preserved : goal.loop-i-preserved
loop-i-preserved c =
    let lines = c.args.lines.now in
    let x = c.index-lines-i.result in
    let within : c.loop-i.i < length lines = omega arith in
    let blank = subst (λ (z : IndentedLine). is_blank_line (line_chars z.line) ≡ true) c.index-lines-i.is (sym c.is_blank.ensures.value ∙ c.if-not-is_blank.false) in
    sym (turn_blank lines c.loop-i.i x within blank) ∙ c.loop-i.invariant
