use Rattle.std.proofs.Common.{◌≡◌, ◌-◌, length}
use Rattle.gk_pickle.specs.Rest.{rest_of_group}
use Rattle.gk_pickle.proofs.next_pickles.next_in_group.Given as goal

abbrev pub invariant-loop-place : goal.invariant-loop-place
invariant-loop-place l = record {
  same :
      rest_of_group l.group l.place.scenario l.place.block l.place.row
      ≡ rest_of_group l.group l.initial.place.scenario l.initial.place.block l.initial.place.row;
  group : l.place.group ≡ l.initial.place.group;
}

abbrev pub decreases-loop-place : goal.decreases-loop-place
decreases-loop-place l = length l.scenarios - l.place.scenario
