use Rattle.std.proofs.Common.{◌∙◌, ◌<◌, ap, arith, length, map, string_bytes, sym}
use Rattle.std.proofs.lemmas.List.{length-map}
use Rattle.std.specs.Option.{option_map}
use Rattle.std.proofs.lemmas.Bool.Decides.{nat_tests}
use Rattle.std.proofs.lemmas.List.Sorted.{IsPermutation-map}
use Rattle.feature_paths.specs.Shown.{faulty}
use Rattle.feature_paths.proofs.TextLemmas.{sorted_texts}
use Rattle.feature_paths.proofs.WalkLemmas.{walked_files}
use Rattle.feature_paths.proofs.paths.files_under.Goals as goal

pub returns-clause-files : goal.returns-clause-files
returns-clause-files g c =
    let found = c.in_ok-found.field-0.files.items in
    let sorted = c.in_order.result.items in
    let some : 0 < length found = grind (arith, nat_tests) in
    walked_files _ _ _ (map string_bytes found) _ _ c.in_ok-found.ensures.seen
    (sym c.first_of.ensures ∙ ap (option_map faulty) c.in_default.is)
    (omega (arith, length-map found string_bytes))
    (IsPermutation-map string_bytes found sorted c.in_order.ensures.same)
    (sorted_texts string_bytes sorted c.in_order.ensures.in_order)
