use Rattle.std.proofs.Common.{List, length, length-append, map, ap, arith}
use Rattle.std.proofs.lemmas.List.{length-map}
use Rattle.gk_line.specs.LinesLeft.{lines_left}
use Rattle.gk_grammar.specs.Token.{line_of}
use Rattle.gk_grammar.specs.Documents.{lines_read}
use Rattle.gk_grammar.proofs.Bytes.{lines_fewer}
use Rattle.gk_plain.specs.Plain.{kind_of}
use Rattle.gk_plain.specs.declared.plain.Kind.{Kind}
use Rattle.gk_plain.proofs.plain.kinds.Goals as goal

pub returns-clause-few : goal.returns-clause-few
returns-clause-few c =
    let text = c.args.text.now in
    let left = map kind_of (map line_of (lines_left c.loop-line.line-iterator)) in
    let all = ap (λ (z : List Kind). length z) c.loop-line.invariant in
    let parts = length-append c.loop-line.all.items left in
    let lines = length-map (lines_read text) kind_of in
    let few = lines_fewer text c.utf8.text in
    omega (arith, all, parts, lines, few, c.requires.short)
