use Rattle.std.proofs.Common.{◌≡◌, false, map, take}
use Rattle.std.specs.List.{filter}
use Rattle.std.specs.Option.{option_map_or}
use Rattle.cm_cases.specs.Firsts.{value_at}
use Rattle.cm_release.specs.Counts.{texts_of}
use Rattle.cm_release.proofs.counts.again_of.Given as goal

abbrev pub invariant-loop-pickle : goal.invariant-loop-pickle
invariant-loop-pickle l =
    texts_of l.ids.items ≡ map (λ p. p.id) (filter (λ p. option_map_or (λ again. again) (value_at l.seen p.id) false) (take l.pickle-index l.pickles))
