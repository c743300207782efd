use Rattle.std.proofs.Common.{◌∙◌}
use Rattle.gk_line.specs.Cells.{cells_of}
use Rattle.gk_line.specs.Views.{line_chars}
use Rattle.gk_tree.proofs.TokenLemmas.{cells_same}
use Rattle.gk_tree.proofs.rows.row_cells.Goals as goal

pub returns : goal.returns
returns c = c.from.ensures ∙ cells_same c.in_ok-cells.cells.items (cells_of (line_chars c.args.line)) c.in_ok-cells.ensures.utf8 c.in_ok-cells.ensures.value
