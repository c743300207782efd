use Rattle.std.proofs.Common.{◌≡◌, ◌++◌, List, ℕ, map, take}
use Rattle.std.specs.String.{string_bytes}
use Rattle.cm_attempt.specs.Table.{has_text}
use Rattle.cm_release.proofs.tally.add_ids.Given as goal

abbrev pub invariant-loop-id : goal.invariant-loop-id
invariant-loop-id l =
    (text : List ℕ) → has_text text (map string_bytes l.ids.keys) ≡ has_text text (map string_bytes l.fn.ids.keys ++ take l.id-index l.added)
