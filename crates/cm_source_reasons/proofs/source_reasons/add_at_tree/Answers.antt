use Rattle.std.proofs.Common.{sym, append-nil, string_bytes, []}
use Rattle.cm_cases.proofs.ListingLemmas.{on_ok}
use Rattle.cm_judge.specs.State.{summary_of}
use Rattle.cm_source_reasons.proofs.SourceArms.{no_tree}
use Rattle.cm_source_reasons.proofs.source_reasons.add_at_tree.Goals as goal

pub returns-in-GherkinDocument : goal.returns-in-GherkinDocument
returns-in-GherkinDocument c =
    on_ok c.add_of_document.result c.add_of_document.ensures
    (λ h. (h.0, rw c.in-GherkinDocument.is h.1, h.2))

pub returns-in_default : goal.returns-in_default
returns-in_default c = ([], no_tree (summary_of c.args.state.now) c.args.envelope.now c.in_default.not-GherkinDocument, sym (append-nil (string_bytes c.args.text.now)))
