use Rattle.std.proofs.Common.{◌≡◌, ◌≤◌, ◌+◌, ◌*◌, length}
use Rattle.std.specs.Prelude.{map}
use Rattle.gk_line.specs.LinesLeft.{lines_left}
use Rattle.gk_grammar.specs.Token.{line_of}
use Rattle.gk_grammar.specs.Documents.{lines_read}
use Rattle.gk_grammar.specs.Machine.{run, initial_state}
use Rattle.gk_tree.specs.Views.{state_in}
use Rattle.gk_tree.proofs.parser.read_lines.Given as goal

abbrev pub invariant-loop-line : goal.invariant-loop-line
invariant-loop-line l = record {
  rest : run initial_state (lines_read l.text) ≡ run (state_in l.progress l.phase) (map line_of (lines_left l.line-iterator));
  room : l.progress.nodes + 16_777_217 * length (lines_left l.line-iterator) ≤ 16_777_217_000_000;
}
