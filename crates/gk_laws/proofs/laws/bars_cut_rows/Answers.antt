use Rattle.gk_laws.proofs.CellTexts as texts
use Rattle.gk_laws.proofs.RowCuts as rows
use Rattle.gk_laws.proofs.laws.bars_cut_rows.Goals as goal

pub returns-clause-exist : goal.returns-clause-exist
returns-clause-exist c = rows.rows_are_cut

pub returns-clause-unique : goal.returns-clause-unique
returns-clause-unique c = rows.row_cut_is_one

pub returns-clause-cells : goal.returns-clause-cells
returns-clause-cells c = rows.cells_are_cut

pub returns-clause-trimmed : goal.returns-clause-trimmed
returns-clause-trimmed c = texts.cells_are_trimmed
