-- What goes along with the audit of a stream, by the envelopes that it was told of.
use Rattle.std.specs.Prelude.{List}
use Rattle.cm_envelope.specs.declared.envelope.Envelope.{Envelope}
use Rattle.cm_release.specs.Tallied.{IsTallyOf}
use Rattle.cm_audit_release.specs.declared.audited_release.ReleaseWatch.{ReleaseWatch}

-- it keeps what a release of these envelopes is judged by
abbrev pub Follows : ReleaseWatch → List Envelope → Type 0
Follows watch es = IsTallyOf watch.tally es
