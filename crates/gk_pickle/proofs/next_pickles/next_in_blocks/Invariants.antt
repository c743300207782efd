use Rattle.std.proofs.Common.{◌≡◌, ◌-◌, length}
use Rattle.gk_pickle.specs.Rest.{rest_of_blocks}
use Rattle.gk_pickle.proofs.next_pickles.next_in_blocks.Given as goal

abbrev pub invariant-loop-block : goal.invariant-loop-block
invariant-loop-block l =
    rest_of_blocks l.scenario l.blocks l.block l.row ≡ rest_of_blocks l.scenario l.blocks l.initial.block l.initial.row

abbrev pub decreases-loop-block : goal.decreases-loop-block
decreases-loop-block l = length l.blocks - l.block
