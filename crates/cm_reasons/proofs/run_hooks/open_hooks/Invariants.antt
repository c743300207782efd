use Rattle.std.proofs.Common.{◌≡◌, map, not, take}
use Rattle.std.specs.List.{filter}
use Rattle.cm_reasons.specs.RunKept.{is_finished_in}
use Rattle.cm_reasons.proofs.run_hooks.open_hooks.Given as goal

abbrev pub invariant-loop-hook : goal.invariant-loop-hook
invariant-loop-hook l = map (λ h. h.now) l.unfinished.items ≡ filter (λ h. not (is_finished_in l.run h)) (take l.hook-index l.hook-items)
