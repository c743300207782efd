-- What is kept of a stream's envelopes for its reasons.
use Rattle.std.specs.Prelude.{Bool, false, List}
use Rattle.std.specs.List.{list_any}
use Rattle.cm_cases.specs.Listed.{listing_of}
use Rattle.cm_envelope.specs.declared.envelope.Envelope.{Envelope}
use Rattle.cm_envelope.specs.declared.envelope.Envelope.TheVariants as envelope
use Rattle.cm_steps.specs.Kept.{step_listing_of}
use Rattle.cm_reasons.specs.Run.{run_listing_of}
use Rattle.cm_reasons.specs.declared.trail.Trail.{Trail}

-- an end of the run has an exception
abbrev pub ends_with_exception : Envelope → Bool
ends_with_exception (envelope.TestRunFinished f) = f.has_exception
ends_with_exception _ = false

abbrev pub has_exception : List Envelope → Bool
has_exception es = list_any ends_with_exception es

-- of the envelopes of each kind what the reasons name
abbrev pub trail_of : List Envelope → Trail
trail_of es = record {
  listing = listing_of es;
  steps = step_listing_of es;
  run = run_listing_of es;
  has_exception = has_exception es;
}
