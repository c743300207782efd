use Rattle.std.proofs.Common.{◌≡◌, ◌++◌, map}
use Rattle.std.specs.Prelude.{is_some}
use Rattle.std.specs.List.{filter}
use Rattle.cm_cases.specs.Firsts.{value_at}
use Rattle.cm_steps.specs.Entries.{ids_of}
use Rattle.cm_steps.proofs.listing.plans_in.Given as goal

abbrev pub invariant-loop-plan : goal.invariant-loop-plan
invariant-loop-plan l =
    map (λ t. t.now) l.ids.items ++ filter (λ id. is_some (value_at l.open_cases id)) (ids_of l.plan-iterator) ≡ filter (λ id. is_some (value_at l.open_cases id)) (ids_of l.plans)
