-- What an audit keeps, as a summary of the lines so far.
use Rattle.std.specs.Prelude.{◌≡◌, ⊤, List, map, Option, Result, Ok, Err, None, Some}
use Rattle.kept_texts.specs.Kept.{bytes_of}
use Rattle.cm_envelope.specs.declared.envelope.Envelope.{Envelope}
use Rattle.cm_refs.specs.Declarations.{Declarations}
use Rattle.cm_state.specs.Summary.{SourceRow, Summary}
use Rattle.cm_attempt.specs.declared.status.Policy.{Policy}
use Rattle.cm_attempt.specs.declared.status.Settings.{Settings}
use Rattle.cm_state.specs.ByOnePass.{summary_after_line, finding, finding_inside, plain_finding}
use Rattle.cm_judge.specs.Kept.{kept_rows}
use Rattle.cm_stream.specs.Findings.{Finding, IsBad, IsUnsupported, stream_fault_named}
use Rattle.cm_judge.specs.Stops.{StopsFor}
use Rattle.cm_judge.specs.declared.state.State.{State}
use Rattle.cm_judge.specs.declared.stop.Stop.{Stop}
use Rattle.cm_judge.specs.declared.stop.Stop.TheVariants as stop

-- the declarations, with the uris of these rows for their sources
abbrev pub with_uris : List SourceRow → Declarations → Declarations
with_uris rows d = record d { sources = map (λ r. r.uri) rows }

abbrev pub summary_of : State → Summary
summary_of s = record {
  declared = with_uris (kept_rows s.sources.entries) s.declared;
  table = s.track;
  sources = kept_rows s.sources.entries;
  named = map bytes_of s.named.keys;
  run = s.run;
  is_finished = s.is_finished;
  success = s.success;
  hooks_worst = s.hooks_worst;
}

-- a line has the finding, or memory was refused; after a fault and without memory what is kept is as it was
abbrev pub Refuses : Option Finding → (old new : State) → Stop → Type 0
Refuses f old new (stop.Bad b) =
    (f ≡ Some (IsBad (stream_fault_named b))) × (summary_of new ≡ summary_of old)
Refuses f old new (stop.Unsupported r) = f ≡ Some (IsUnsupported r)
Refuses f old new stop.Memory = summary_of new ≡ summary_of old

-- a line has no finding by the checks that are made whatever statuses are good, or it has the finding
abbrev pub Checks : State → Envelope → Result ⊤ Stop → Type 0
Checks s e (Ok done) = plain_finding (summary_of s) e ≡ None
Checks s e (Err why) = StopsFor (plain_finding (summary_of s) e) why

-- a line without a finding is taken, and any other is refused for its finding, unless memory was refused
abbrev pub TakesUnless : Option Finding → (old new : State) → Envelope → Result ⊤ Stop → Type 0
TakesUnless found old new e (Ok done) =
    (found ≡ None) × (summary_of new ≡ summary_after_line (summary_of old) e)
TakesUnless found old new e (Err why) = Refuses found old new why

-- by the checks that are made whatever statuses are good
abbrev pub Judges : (old new : State) → Envelope → Result ⊤ Stop → Type 0
Judges old new e result = TakesUnless (plain_finding (summary_of old) e) old new e result

-- by all checks but the one that the run isn't over
abbrev pub JudgesBy : Policy → (old new : State) → Envelope → Result ⊤ Stop → Type 0
JudgesBy policy old new e result =
    TakesUnless (finding_inside policy (summary_of old) e) old new e result

-- by all checks
abbrev pub Takes : Settings → (old new : State) → Envelope → Result ⊤ Stop → Type 0
Takes settings old new e result = TakesUnless (finding settings (summary_of old) e) old new e result
