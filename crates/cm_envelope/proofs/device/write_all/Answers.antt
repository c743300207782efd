use Rattle.std.proofs.Common.{◌∙◌}
use Rattle.cm_envelope.proofs.Writes.{no_failed_write, wrote_more}
use Rattle.cm_envelope.proofs.device.write_all.Goals as goal

pub writes-preserved : goal.writes-preserved
writes-preserved g c = record {
  no_failure = no_failed_write c.write_some.result c.in_ok-taken.taken c.writes.rest.now _ _ c.in_ok-taken.was c.if-taken-eq0.false c.write_some.ensures.failures ∙ c.writes.invariant.no_failure;
  written = wrote_more _ _ _ _ c.writes.rest.now c.in_ok-taken.taken c.writes.invariant.written (record { taken = c.in_ok-taken.ensures.taken.0; shown = c.in_ok-taken.ensures.shown });
}
