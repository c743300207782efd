use Rattle.std.proofs.Common.{◌≡◌, ◌-◌, Some, length}
use Rattle.gk_pickle.specs.Rest.{groups, rest_in}
use Rattle.gk_pickle.proofs.next_pickles.next_in_feature.Given as goal

abbrev pub invariant-loop-group : goal.invariant-loop-group
invariant-loop-group l = rest_in (Some l.feature) l.place ≡ rest_in (Some l.feature) l.initial.place

abbrev pub decreases-loop-group : goal.decreases-loop-group
decreases-loop-group l = length (groups l.feature) - l.place.group
