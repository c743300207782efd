use Rattle.gk_laws.proofs.OneAnswer.{each_text_has_one_answer_holds}
use Rattle.gk_laws.proofs.laws.each_text_has_one_answer.Goals as goal

pub returns : goal.returns
returns c = each_text_has_one_answer_holds
