use Rattle.std.proofs.Common.{◌∙◌}
use Rattle.cm_judge.specs.State.{summary_of}
use Rattle.cm_fault_reasons.proofs.UnknownLemmas.{source_known, source_told}
use Rattle.cm_fault_reasons.proofs.unknown.unknown_source.Goals as goal

pub returns : goal.returns
returns c =
    c.uri_unless.ensures
    ∙ source_told (summary_of c.args.state.now) c.args.uri.now c.is_some.result (c.is_some.ensures ∙ source_known c.args.state.now c.args.uri.now c.find_source.result c.find_source.ensures)
