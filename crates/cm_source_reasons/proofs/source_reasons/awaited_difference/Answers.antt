use Rattle.std.proofs.Common.{◌≡◌, ◌∙◌, [], sym, ap, Bor, Some}
use Rattle.std.specs.Prelude.{option_map}
use Rattle.gk_document.specs.declared.tree.Document.{Document}
use Rattle.cm_judge.specs.Kept.{kept_row}
use Rattle.cm_source_reasons.proofs.SourceRows.{tree_by}
use Rattle.cm_source_reasons.proofs.source_reasons.awaited_difference.Goals as goal

pub returns-in-Some : goal.returns-in-Some
returns-in-Some c =
    let row = kept_row [] c.args.source.now in
    let due = c.in-Some.due.now in
    let is : row.awaited ≡ Some due = sym c.awaited.ensures ∙ ap (option_map (λ (d : Bor Document). d.now)) c.in-Some.is in
    tree_by c.as_str.result.now due c.args.document.now row c.tree_difference.result c.as_str.ensures is c.tree_difference.ensures.none c.tree_difference.ensures.first
