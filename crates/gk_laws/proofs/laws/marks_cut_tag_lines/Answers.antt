use Rattle.gk_laws.proofs.TagCuts as tags
use Rattle.gk_laws.proofs.laws.marks_cut_tag_lines.Goals as goal

pub returns-clause-comment : goal.returns-clause-comment
returns-clause-comment c = tags.comments_are_cut

pub returns-clause-pieces : goal.returns-clause-pieces
returns-clause-pieces c = tags.pieces_are_cut
