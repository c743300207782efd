use Rattle.cm_compile.proofs.Ids.{ids_fit}
use Rattle.cm_compile.proofs.Limits.{within_limit}
use Rattle.cm_compile.proofs.compiled.lines_of.Goals as goal

pub lines_of_document-lines-requires : goal.lines_of_document-lines-requires
lines_of_document-lines-requires c =
    let d = c.in_ok-document.document in
    ids_fit c.args.text.now d c.utf8.text c.in_ok-document.ensures.ok (within_limit c.args.text.now d c.in_ok-document.ensures.too_long)
