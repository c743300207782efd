use Rattle.std.proofs.Common.{◌≡◌, false, map, take}
use Rattle.std.specs.List.{filter}
use Rattle.std.specs.Option.{option_map_or}
use Rattle.cm_cases.specs.Firsts.{value_at}
use Rattle.cm_release.specs.Counts.{texts_of}
use Rattle.cm_release.proofs.counts.of_stepless.Given as goal

abbrev pub invariant-loop-case : goal.invariant-loop-case
invariant-loop-case l =
    texts_of l.ids.items ≡ map (λ c. c.id) (filter (λ c. option_map_or (λ p. p.now.is_stepless) (value_at l.pickles c.pickle_id) false) (take l.case-index l.cases))
