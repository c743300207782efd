use Rattle.std.proofs.Common.{◌≡◌, filter, take}
use Rattle.cm_causes.specs.Told.{is_bad}
use Rattle.cm_causes.proofs.causes.bad_results.Given as goal

abbrev pub invariant-loop-case : goal.invariant-loop-case
invariant-loop-case l = l.bad.items ≡ filter (λ r. is_bad l.policy r.status) (take l.case-index l.case-items)
