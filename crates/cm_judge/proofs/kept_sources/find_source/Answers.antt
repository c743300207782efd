use Rattle.std.proofs.Common.{◌∙◌, ap}
use Rattle.std.specs.Prelude.{option_map}
use Rattle.std.specs.Str.{bytes_eq}
use Rattle.cm_refs.proofs.EntryLemmas.{copied_map, found_entry}
use Rattle.cm_judge.specs.Kept.{kept_row}
use Rattle.cm_judge.proofs.KeptRows.{row_says}
use Rattle.cm_judge.proofs.kept_sources.find_source.Goals as goal

pub returns : goal.returns
returns c =
    copied_map (kept_row c.args.uri.now) c.get.result
    ∙ ap (option_map (kept_row c.args.uri.now)) c.get.ensures.value
    ∙ found_entry kept_row c.args.uri.now (λ r. bytes_eq c.args.uri.now r.uri) (row_says c.args.uri.now) c.args.sources.now.entries
