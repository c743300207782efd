use Rattle.gk_pickle.proofs.Characters.{fills_characters}
use Rattle.gk_pickle.proofs.laws.characters_law.Goals as goal

pub returns : goal.returns
returns c = fills_characters
