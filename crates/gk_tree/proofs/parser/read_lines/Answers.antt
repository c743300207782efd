use Rattle.std.proofs.Common.{arith, ap, length, List, ℕ}
use Rattle.gk_line.specs.LinesLeft.{lines_left}
use Rattle.gk_line.specs.Views.{numbered_line}
use Rattle.gk_grammar.specs.Machine as machine
use Rattle.gk_grammar.specs.Documents.{lines_read}
use Rattle.gk_tree.specs.Views.{state_in}
use Rattle.gk_tree.proofs.NodeLemmas.{nodes_rise}
use Rattle.gk_tree.proofs.EndLemmas.{turn_run}
use Rattle.gk_tree.proofs.parser.read_lines.Goals as goal

pub loop-line-preserved : goal.loop-line-preserved
loop-line-preserved c =
    let x = c.in-Some.line in
    let steps = c.in-Some.ensures.steps in
    let before = state_in c.loop-line.progress c.loop-line.phase in
    let later = state_in c.read_line.new.progress c.in_ok-phase.phase in
    let rise = nodes_rise before later x.number 16_777_216 x.text.now steps.1.0 c.in_ok-phase.ensures in
    let fewer = ap (λ (z : List (ℕ × List ℕ)). length z) steps.0 in
    record {
      rest = turn_run (machine.run machine.initial_state (lines_read c.args.text.now)) before later (lines_left c.loop-line.line-iterator) (lines_left c.next.new.self) (numbered_line x) c.loop-line.invariant.rest steps.0 c.in_ok-phase.ensures;
      room = omega arith;
    }
