use Rattle.std.proofs.Common.{◌≡◌, ◌++◌, ℕ, List, length}
use Rattle.cm_envelope.specs.Device.{Writes}
use Rattle.cm_envelope.proofs.device.write_all.Given as goal

abbrev pub invariant-writes : goal.invariant-writes
invariant-writes g l = record {
  no_failure : (g.W.ByteSink.output l.sink).failed_calls ≡ (g.W.ByteSink.output l.initial.sink).failed_calls;
  written : (front : List ℕ) × (l.bytes ≡ front ++ l.rest) × Writes (g.W.ByteSink.output l.initial.sink) (g.W.ByteSink.output l.sink) front;
}

abbrev pub decreases-writes : goal.decreases-writes
decreases-writes g l = length l.rest
