use Rattle.ck_commands.proofs.FeaturesStrict.{features_passed}
use Rattle.ck_commands.proofs.laws.strict_features_passed.Goals as goal

pub returns : goal.returns
returns c = features_passed
