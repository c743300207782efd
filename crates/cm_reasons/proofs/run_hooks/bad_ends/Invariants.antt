use Rattle.std.proofs.Common.{◌≡◌, take}
use Rattle.cm_cases.specs.Firsts.{value_at}
use Rattle.cm_stream.specs.Texts.{Utf8}
use Rattle.cm_reasons.specs.RunKept.{bad_end_in}
use Rattle.cm_reasons.proofs.run_hooks.bad_ends.Given as goal

abbrev pub invariant-loop-end : goal.invariant-loop-end
invariant-loop-end l = (id : Utf8) → value_at l.bad id ≡ bad_end_in l.fn.policy (take l.end-index l.ends) id
