use Rattle.std.proofs.Common.{◌≡◌, ◌++◌, map, drop}
use Rattle.gk_pickle.specs.Pickles.{pickle_tag}
use Rattle.gk_pickle.proofs.pickles.add_tags.Given as goal

abbrev pub invariant-loop-tag : goal.invariant-loop-tag
invariant-loop-tag l = l.made.items ++ map pickle_tag (drop l.tag-index l.tags) ≡ l.initial.made.items ++ map pickle_tag l.tags
