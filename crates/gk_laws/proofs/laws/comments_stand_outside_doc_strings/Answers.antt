use Rattle.gk_laws.proofs.OutsideLines.{comments_outside_holds}
use Rattle.gk_laws.proofs.laws.comments_stand_outside_doc_strings.Goals as goal

pub returns : goal.returns
returns c = comments_outside_holds
