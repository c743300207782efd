use Rattle.std.proofs.Common.{drop}
use Rattle.gk_pickle.specs.SinglePass.{HaveNoBracket}
use Rattle.gk_pickle.proofs.filling.have_no_bracket.Given as goal

abbrev pub invariant-loop-cell : goal.invariant-loop-cell
invariant-loop-cell l = HaveNoBracket (drop l.cell-index l.cells) → HaveNoBracket l.cells
