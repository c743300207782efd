use Rattle.std.proofs.Common.{◌≡◌, ◌&&◌, List, ℕ, take}
use Rattle.std.specs.List.{list_any}
use Rattle.cm_release.specs.Counts.{has_step, is_end_by, is_undefined_by}
use Rattle.cm_release.proofs.undefined_steps.passed_steps.Given as goal

abbrev pub invariant-loop-finish : goal.invariant-loop-finish
invariant-loop-finish l =
    (test_case id : List ℕ) → has_step l.steps.keys test_case id ≡ list_any (λ f. is_undefined_by l.starts l.cases l.policy f && is_end_by l.starts test_case id f) (take l.finish-index l.finishes)
