use Rattle.std.proofs.Common.{◌≡◌, sym, ◌∙◌, false}
use Rattle.cm_envelope.specs.Lines.{is_blank}
use Rattle.cm_audit.proofs.Answering.{not_followed, not_read}
use Rattle.cm_audit.proofs.auditing.take_line.Goals as goal

pub returns-in-Err-clause-taken : goal.returns-in-Err-clause-taken
returns-in-Err-clause-taken g c =
    let filled : is_blank c.args.line.now ≡ false = sym c.is_blank_line.ensures ∙ c.if-is_blank_line.false in
    not_read c.args.settings c.args.state.now c.args.line.now filled c.in-Err.fault c.in-Err.ensures c.from.result c.from.ensures

pub returns-in-Err-clause-followed : goal.returns-in-Err-clause-followed
returns-in-Err-clause-followed g c =
    let filled : is_blank c.args.line.now ≡ false = sym c.is_blank_line.ensures ∙ c.if-is_blank_line.false in
    not_followed (g.W.Watch.follows c.args.watch.now) c.args.settings c.args.state.now c.args.line.now filled c.in-Err.fault c.in-Err.ensures c.from.result c.from.ensures
