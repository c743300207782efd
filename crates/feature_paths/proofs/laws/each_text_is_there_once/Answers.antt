use Rattle.feature_paths.proofs.Onces.{are_once}
use Rattle.feature_paths.proofs.laws.each_text_is_there_once.Goals as goal

pub returns : goal.returns
returns c = are_once
