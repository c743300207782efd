-- Where the scenarios of a good stream stand.
use Rattle.std.specs.Prelude.{◌≡◌, ℕ, Bool, List, Some, find}
use Rattle.std.specs.List.{AllByRecursion}
use Rattle.std.specs.Str.{bytes_eq}
use Rattle.cm_attempt.specs.declared.status.Settings.{Settings}
use Rattle.cm_envelope.specs.declared.envelope.Envelope.{Envelope}
use Rattle.cm_envelope.specs.declared.envelope.TestCase.{TestCase}
use Rattle.cm_envelope.specs.declared.pickle.Pickle.{Pickle}
use Rattle.cm_stream.specs.References.{cases, pickles}
use Rattle.cm_stream.specs.Stream.{IsGoodRun}
use Rattle.cm_stream.specs.declared.laws.Counts.{Counts}
use Rattle.cm_cases.specs.Places.{case_scenario, last_node, line_of, pickle_of, places_at, scenario_text}
use Rattle.cm_cases.specs.declared.listing.Place.{Place}

-- The pickle has its place: its last node is the id of a scenario or of a row of examples of the document of its uri, and the
-- line that is shown is that node's.
pub record HasPlace (es : List Envelope) (p : Pickle) : Type 0 where
  pub place : Place
  pub found : find (λ x. bytes_eq (last_node p) x.id) (places_at p.uri es) ≡ Some place
  pub line : line_of es p ≡ place.line

-- The test case has its pickle, and what is shown of its scenario is where that stands and its name: never nothing.
pub record HasScenario (es : List Envelope) (c : TestCase) : Type 0 where
  pub pickle : Pickle
  pub is_its : pickle_of es c.id ≡ Some pickle
  pub place : HasPlace es pickle
  pub shown : case_scenario es c.id ≡ scenario_text es pickle

-- in a good stream each pickle has its place, and each test case its scenario
abbrev pub ScenariosAreFound : Type 0
ScenariosAreFound =
    (settings : Settings) (bytes : List ℕ) (counts : Counts) (success : Bool)
    (run : IsGoodRun settings bytes counts success)
    → AllByRecursion (HasPlace run.judged) (pickles run.judged)
    × AllByRecursion (HasScenario run.judged) (cases run.judged)
