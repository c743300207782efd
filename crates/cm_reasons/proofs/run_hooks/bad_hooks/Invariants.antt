use Rattle.std.proofs.Common.{◌≡◌, map, take}
use Rattle.cm_reasons.specs.RunKept.{bad_entry_lines, bad_line}
use Rattle.cm_reasons.proofs.run_hooks.bad_hooks.Given as goal

abbrev pub invariant-loop-hook : goal.invariant-loop-hook
invariant-loop-hook l = map bad_line l.bad.items ≡ bad_entry_lines l.fn.policy l.run.ends (take l.hook-index l.hook-items)
