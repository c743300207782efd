use Rattle.gk_laws.proofs.FenceCuts as fences
use Rattle.gk_laws.proofs.laws.escaped_fences_cut_lines.Goals as goal

pub returns-clause-fences : goal.returns-clause-fences
returns-clause-fences c = fences.fences_cut_texts

pub returns-clause-indent : goal.returns-clause-indent
returns-clause-indent c = fences.indent_is_lost

pub returns-clause-line : goal.returns-clause-line
returns-clause-line c = fences.doc_lines_are_read
