use Rattle.std.proofs.Common.{take}
use Rattle.cm_cases.specs.Firsts.{HasFirsts}
use Rattle.cm_release.proofs.undefined_steps.unmatched_by_case.Given as goal

abbrev pub invariant-loop-case : goal.invariant-loop-case
invariant-loop-case l = HasFirsts (λ s. s) (λ c. c.unmatched) (λ c. c.id) (take l.case-index l.cases) l.map
