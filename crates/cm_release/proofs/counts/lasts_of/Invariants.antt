use Rattle.std.proofs.Common.{◌≡◌, List, ℕ, take}
use Rattle.std.specs.Prelude.{option_map}
use Rattle.cm_cases.specs.Firsts.{value_at}
use Rattle.cm_release.specs.Counts.{last_start}
use Rattle.cm_release.proofs.counts.lasts_of.Given as goal

abbrev pub invariant-loop-start : goal.invariant-loop-start
invariant-loop-start l =
    (test_case : List ℕ) → option_map (λ s. s.now) (value_at l.lasts test_case) ≡ last_start (take l.start-index l.starts) test_case
