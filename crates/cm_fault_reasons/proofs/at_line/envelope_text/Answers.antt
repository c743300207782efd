use Rattle.std.proofs.Common.{◌∙◌, ap, sym, subst, ◌++◌, List, ℕ}
use Rattle.cm_stream.specs.Findings.{IsBad, stream_fault_named}
use Rattle.cm_fault_reasons.specs.ToldAt.{IsTold}
use Rattle.cm_fault_reasons.proofs.at_line.envelope_text.Goals as goal

pub returns : goal.returns
returns c before d =
    let told = c.in_ok-add_fault.ensures before d in
    subst (IsTold d.read c.args.settings before c.args.envelope.now (IsBad (stream_fault_named c.args.fault)))
    (sym (told.2 ∙ ap (λ (text : List ℕ). text ++ told.0) c.new-text.ensures.bytes)) told.1
