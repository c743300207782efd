use Rattle.std.proofs.Common.{◌≡◌, false, map, take}
use Rattle.std.specs.List.{filter, list_any}
use Rattle.std.specs.Option.{option_map_or}
use Rattle.std.specs.Str.{bytes_eq}
use Rattle.cm_cases.specs.Firsts.{value_at}
use Rattle.cm_release.specs.Counts.{texts_of}
use Rattle.cm_release.proofs.counts.last_among.Given as goal

abbrev pub invariant-loop-case : goal.invariant-loop-case
invariant-loop-case l =
    texts_of l.ids.items ≡ map (λ c. c.id) (filter (λ c. option_map_or (λ s. list_any (bytes_eq s.now.id) l.attempts) (value_at l.lasts c.id) false) (take l.case-index l.cases))
