use Rattle.std.proofs.Common.{List, ap, arith, length, map, ◌<◌, ◌∙◌}
use Rattle.std.specs.List.{join_with_byte}
use Rattle.std.proofs.lemmas.List.{take_all}
use Rattle.std.specs.String.{string_bytes}
use Rattle.gk_grammar.specs.Token.{bytes}
use Rattle.gk_tree.specs.declared.token.IndentedLine.{IndentedLine}
use Rattle.gk_tree.specs.Views.{text_of, kept_line}
use Rattle.gk_tree.proofs.TextLemmas.{turn_lines}
use Rattle.gk_tree.proofs.description.joined.Goals as goal

pub loop-i-preserved : goal.loop-i-preserved
loop-i-preserved c =
    let x = c.index-lines-i.result in
    let within : c.loop-i.i < length c.args.lines.now = omega arith in
    turn_lines bytes c.args.lines.now c.loop-i.i x (string_bytes c.loop-i.text) (string_bytes c.push_line.new.text) (text_of x.line.text.now) within c.loop-i.invariant
    (ap (λ (z : IndentedLine). bytes (kept_line z)) c.index-lines-i.is) c.in_ok-push_line.ensures

pub returns : goal.returns
returns c =
    c.from.ensures ∙ c.loop-i.invariant
    ∙ ap (λ (lines : List IndentedLine). join_with_byte 10 (map bytes (map kept_line lines))) (take_all c.loop-i.i c.args.lines.now c.loop-i-test.false)
