use Rattle.gk_pickle.specs.Pickles.{pickles}
use Rattle.gk_pickle.specs.Rest.{rest_of}
use Rattle.gk_pickle.proofs.PlaceLemmas.{whole_feature}
use Rattle.gk_pickle.proofs.next_pickles.PicklePlace.first.Goals as goal

pub returns : goal.returns
unfolding rest_of pickles
returns c = λ d. whole_feature d.feature
