use Rattle.std.specs.Prelude.{find}
use Rattle.std.specs.Str.{bytes_eq}
use Rattle.cm_judge.specs.Kept.{kept_row}
use Rattle.cm_judge.specs.State.{summary_of}
use Rattle.cm_judge.proofs.KeptRows.{found_by, found_kept}
use Rattle.cm_source_reasons.specs.SourceKept.{DiffersInTree}
use Rattle.cm_source_reasons.proofs.SourceRows.{found_row, tree_of}
use Rattle.cm_source_reasons.proofs.source_reasons.document_difference.Goals as goal

pub returns-in-Some : goal.returns-in-Some
returns-in-Some c =
    let x = c.args.document.now in
    let rows = (summary_of c.args.state.now).sources in
    let k = c.in-Some.source in
    let found = found_by c.as_str.result.now x.uri c.find_source.result rows c.as_str.ensures c.find_source.ensures in
    let row = found_kept x.uri c.find_source.result k rows c.in-Some.is found in
    found_row (λ r o. DiffersInTree r x o) (find (λ r. bytes_eq x.uri r.uri) rows) (kept_row x.uri k.now) c.awaited_difference.result row (tree_of x.uri k.now x c.awaited_difference.result c.awaited_difference.ensures)
