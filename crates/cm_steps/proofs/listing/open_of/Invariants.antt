use Rattle.std.proofs.Common.{◌≡◌, ◌&&◌, ℕ, List, not, take}
use Rattle.std.specs.Prelude.{is_some}
use Rattle.std.specs.List.{list_any}
use Rattle.std.specs.Str.{bytes_eq}
use Rattle.cm_cases.specs.Firsts.{value_at}
use Rattle.cm_steps.proofs.listing.open_of.Given as goal

abbrev pub invariant-loop-start : goal.invariant-loop-start
invariant-loop-start l =
    (case : List ℕ) → is_some (value_at l.open case) ≡ list_any (λ s. not (is_some (value_at l.ended s.id)) && bytes_eq case s.case_id) (take l.start-index l.starts)
