use Rattle.std.proofs.Common.{◌≡◌, ◌||◌, ℕ, List}
use Rattle.std.specs.Prelude.{is_some}
use Rattle.std.specs.List.{list_any}
use Rattle.std.specs.Str.{bytes_eq}
use Rattle.cm_cases.specs.Firsts.{value_at}
use Rattle.cm_steps.proofs.listing.ended_of.Given as goal

abbrev pub invariant-loop-id : goal.invariant-loop-id
invariant-loop-id l = (id : List ℕ) → (is_some (value_at l.ended id) || list_any (bytes_eq id) l.id-iterator) ≡ list_any (bytes_eq id) l.ends
