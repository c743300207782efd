use Rattle.gk_line.proofs.ColumnLemmas as columns
use Rattle.gk_line.proofs.laws.columns_rise.Goals as goal

pub returns-clause-tags : goal.returns-clause-tags
returns-clause-tags c = columns.tag_columns_rise

pub returns-clause-cells : goal.returns-clause-cells
returns-clause-cells c = columns.cell_columns_rise
