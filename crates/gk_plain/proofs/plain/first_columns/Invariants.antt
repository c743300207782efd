use Rattle.std.proofs.Common.{◌≡◌, ◌++◌, map}
use Rattle.gk_line.specs.LinesLeft.{lines_left}
use Rattle.gk_grammar.specs.Token.{line_of}
use Rattle.gk_grammar.specs.Documents.{lines_read}
use Rattle.gk_plain.specs.PlainFaults.{first_column}
use Rattle.gk_plain.proofs.plain.first_columns.Given as goal

abbrev pub invariant-loop-line : goal.invariant-loop-line
invariant-loop-line l = l.all.items ++ map first_column (map line_of (lines_left l.line-iterator)) ≡ map first_column (lines_read l.text)
