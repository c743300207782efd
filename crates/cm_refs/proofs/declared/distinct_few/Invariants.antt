use Rattle.std.proofs.Common.{◌≡◌, false, map}
use Rattle.std.specs.String.{string_bytes}
use Rattle.cm_refs.specs.Declarations.{has_repeat}
use Rattle.cm_refs.proofs.declared.distinct_few.Given as goal

abbrev pub invariant-loop-text : goal.invariant-loop-text
invariant-loop-text l = (l.few ≡ map string_bytes l.yielded) × (has_repeat (map string_bytes l.yielded) ≡ false)
