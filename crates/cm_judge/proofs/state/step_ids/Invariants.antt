use Rattle.std.proofs.Common.{◌≡◌, map}
use Rattle.std.specs.String.{string_bytes}
use Rattle.cm_judge.proofs.state.step_ids.Given as goal

abbrev pub invariant-loop-step : goal.invariant-loop-step
invariant-loop-step g l = map string_bytes l.ids.items ≡ map g.Step.HasId.id l.yielded
