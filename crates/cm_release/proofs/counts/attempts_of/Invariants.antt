use Rattle.std.proofs.Common.{◌≡◌, List, ℕ, take}
use Rattle.cm_cases.specs.Firsts.{value_at}
use Rattle.cm_release.specs.Counts.{attempts_in, some_or_more}
use Rattle.cm_release.proofs.counts.attempts_of.Given as goal

abbrev pub invariant-loop-start : goal.invariant-loop-start
invariant-loop-start l =
    (pickle : List ℕ) → value_at l.seen pickle ≡ some_or_more (attempts_in l.kept.cases pickle (take l.start-index l.start-items))
