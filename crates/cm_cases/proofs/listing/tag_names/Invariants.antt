use Rattle.std.proofs.Common.{◌≡◌, map, take}
use Rattle.cm_cases.proofs.listing.tag_names.Given as goal

abbrev pub invariant-loop-tag : goal.invariant-loop-tag
invariant-loop-tag l = l.names ≡ map (λ t. t.name) (take l.tag-index l.tags)
