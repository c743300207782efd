use Rattle.std.proofs.Common.{subst}
use Rattle.cm_envelope.specs.Device.{Writes}
use Rattle.ck_commands.proofs.report.write_text.Goals as goal

pub returns-in-Ok : goal.returns-in-Ok
returns-in-Ok g c =
    c.flush_text.ensures _ c.args.text.now
    (subst (Writes (g.W.ByteSink.output c.args.sink.now) (g.W.ByteSink.output c.write_all.new.sink)) c.as_bytes.ensures.value c.in-Ok.ensures.taken) c.in-Ok.ensures.ok
