-- Which scenarios of a text ran in a stream.
use Rattle.std.specs.Prelude.{◌≡◌, ◌&&◌, ℕ, Bool, true, false, Contains, List, Some, slice_get}
use Rattle.std.specs.List.{list_any}
use Rattle.std.specs.Option.{option_map_or}
use Rattle.std.specs.Str.{bytes_eq}
use Rattle.cm_attempt.specs.declared.status.Policy.{Policy}
use Rattle.cm_attempt.specs.declared.status.Settings.{Settings}
use Rattle.cm_envelope.specs.declared.envelope.Envelope.{Envelope}
use Rattle.cm_envelope.specs.declared.envelope.Source.{Source}
use Rattle.cm_envelope.specs.declared.pickle.Pickle.{Pickle}
use Rattle.cm_stream.specs.References.{pickles_of, sources}
use Rattle.cm_stream.specs.Release.{Conditions, IsReleasedStream, is_named}
use Rattle.cm_stream.specs.ReleasedRuns.{IsCompiled, PickleRan}
use Rattle.cm_stream.specs.Texts.{Utf8}
use Rattle.cm_stream.specs.declared.laws.ReleaseCounts.{ReleaseCounts}
use Rattle.cm_stream.specs.declared.laws.Counts.{Counts}

-- a test case names the pickle at this place, from 0, of those of the uri
abbrev pub is_run_of : List Envelope → (uri : Utf8) → (place : ℕ) → Bool
is_run_of es uri place = option_map_or (is_named es) (slice_get (pickles_of uri es) place) false

-- some source has exactly this text, and a test case names the pickle at this place of its uri's
abbrev pub is_run_at : List Envelope → (text : Utf8) → (place : ℕ) → Bool
is_run_at es text place =
    list_any (λ s. bytes_eq text s.content && is_run_of es s.uri place) (sources es)

-- A source has the text, which compiles to the pickles of its uri, and the pickle at the place of these ran.
pub record ScenarioRanAt (policy : Policy) (es : List Envelope) (text : Utf8)
    (place : ℕ) : Type 0 where
  pub source : Source
  pub is_there : Contains (sources es) source
  pub same_text : source.content ≡ text
  pub compiled : IsCompiled es source
  pub pickle : Pickle
  pub at_place : slice_get (pickles_of source.uri es) place ≡ Some pickle
  pub ran : PickleRan policy es pickle

-- In a released stream, also where its run is a part, that is so where the scenario is run.
abbrev pub RanAt : Type 0
RanAt =
    (settings : Settings) (asked : Conditions) (bytes : List ℕ) (counts : Counts)
    (found : ReleaseCounts) (r : IsReleasedStream settings asked bytes counts found)
    → (text : Utf8) (place : ℕ) → is_run_at r.judged text place ≡ true
    → ScenarioRanAt settings.policy r.judged text place
