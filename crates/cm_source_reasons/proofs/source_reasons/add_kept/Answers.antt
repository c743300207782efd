use Rattle.std.proofs.Common.{sym, append-nil, string_bytes, []}
use Rattle.cm_cases.proofs.ListingLemmas.{on_ok}
use Rattle.cm_judge.specs.State.{summary_of}
use Rattle.cm_source_reasons.specs.SourceKept.{lack_lines_by, lines_at_pickle}
use Rattle.cm_source_reasons.proofs.SourceArms.{at_lack, at_pickle, at_tree, no_fault}
use Rattle.cm_source_reasons.proofs.source_reasons.add_kept.Goals as goal

pub returns-in-TreeDiffers : goal.returns-in-TreeDiffers
returns-in-TreeDiffers c =
    on_ok c.add_at_tree.result c.add_at_tree.ensures
    (λ h es is. (h.0, at_tree (summary_of c.args.state.now) es c.args.envelope.now c.args.fault h.0 c.in-TreeDiffers.is h.1, h.2))

pub returns-in-PickleDiffers : goal.returns-in-PickleDiffers
returns-in-PickleDiffers c =
    on_ok c.add_at_pickle.result c.add_at_pickle.ensures
    (λ h es is. (lines_at_pickle (summary_of c.args.state.now) es c.args.envelope.now, at_pickle (summary_of c.args.state.now) es c.args.envelope.now c.args.fault c.in-PickleDiffers.is, h es is))

pub returns-in-SourceIncomplete : goal.returns-in-SourceIncomplete
returns-in-SourceIncomplete c =
    on_ok c.add_at_end.result c.add_at_end.ensures
    (λ h es is. (lack_lines_by (summary_of c.args.state.now) es, at_lack (summary_of c.args.state.now) es c.args.envelope.now c.args.fault c.in-SourceIncomplete.is, h es is))

pub returns-in_default : goal.returns-in_default
returns-in_default c es is =
    ([], no_fault (summary_of c.args.state.now) es c.args.envelope.now c.args.fault c.in_default.not-TreeDiffers c.in_default.not-PickleDiffers c.in_default.not-SourceIncomplete, sym (append-nil (string_bytes c.args.text.now)))
