-- What is kept for a release, by the envelopes that it is kept of.
use Rattle.std.specs.Prelude.{◌≡◌, List}
use Rattle.cm_envelope.specs.declared.envelope.Envelope.{Envelope}
use Rattle.cm_reasons.specs.Trail.{trail_of}
use Rattle.cm_release.specs.Kept.{Keeps}
use Rattle.cm_release.specs.declared.tally.Tally.{Tally}

-- it has what is counted of these envelopes, and what their reasons name
abbrev pub IsTallyOf : Tally → List Envelope → Type 0
IsTallyOf tally es =
    Keeps tally.keeping.kept tally.keeping.unmatched es × (tally.trail ≡ trail_of es)
