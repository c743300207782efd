use Rattle.std.proofs.Common.{◌≡◌, ◌&&◌, map, not, take}
use Rattle.std.specs.Prelude.{is_some}
use Rattle.std.specs.List.{filter, list_any}
use Rattle.cm_cases.specs.Firsts.{value_at}
use Rattle.cm_release.specs.Counts.{texts_of}
use Rattle.cm_release.proofs.counts.unnamed_of.Given as goal

abbrev pub invariant-loop-pickle : goal.invariant-loop-pickle
invariant-loop-pickle l =
    texts_of l.ids.items ≡ map (λ p. p.id) (filter (λ p. not (is_some (value_at l.named p.id)) && not (list_any (λ t. is_some (value_at l.allowed t)) p.tags)) (take l.pickle-index l.pickles))
