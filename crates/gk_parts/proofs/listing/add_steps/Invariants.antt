use Rattle.std.proofs.Common.{◌≡◌, ◌++◌, drop, map}
use Rattle.gk_parts.specs.Parts.{StepPart, part_view}
use Rattle.gk_parts.proofs.listing.add_steps.Given as goal

abbrev pub invariant-loop-step : goal.invariant-loop-step
invariant-loop-step l =
    map part_view l.made.items ++ map StepPart (drop l.step-index l.steps) ≡ map part_view l.initial.made.items ++ map StepPart l.steps
