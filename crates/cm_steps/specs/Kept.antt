-- What is kept of a stream's envelopes for its steps and attempts.
use Rattle.std.specs.Prelude.{not, List, [], ◌∷◌, Option, Some, None, codes, decimal, map}
use Rattle.std.specs.List.{filter, filter_map, flat_map}
use Rattle.cm_envelope.specs.declared.envelope.Envelope.{Envelope}
use Rattle.cm_envelope.specs.declared.envelope.GherkinDocument.{GherkinDocument}
use Rattle.cm_envelope.specs.declared.envelope.TestCase.{TestCase}
use Rattle.cm_envelope.specs.declared.envelope.TestCaseStarted.{TestCaseStarted}
use Rattle.cm_envelope.specs.declared.envelope.TestStep.{TestStep}
use Rattle.cm_envelope.specs.declared.envelope.TestStepFinished.{TestStepFinished}
use Rattle.cm_envelope.specs.declared.pickle.Pickle.{Pickle}
use Rattle.cm_envelope.specs.declared.pickle.PickleStep.{PickleStep}
use Rattle.cm_stream.specs.References.{as_document, cases, pickles, starts}
use Rattle.cm_stream.specs.Texts.{Utf8}
use Rattle.cm_cases.specs.declared.listing.Place.{Place}
use Rattle.cm_steps.specs.Attempts.{finish_status, finishes, is_quiet, step_finishes}
use Rattle.cm_steps.specs.Steps.{own_node, step_places}
use Rattle.cm_steps.specs.declared.listing.FinishEntry.{FinishEntry}
use Rattle.cm_steps.specs.declared.listing.StartEntry.{StartEntry}
use Rattle.cm_steps.specs.declared.listing.StepListing.{StepListing}

-- ---- rows of texts

-- what a test step is of, its hook or else its pickle's step, and the id of that
abbrev pub source_kind : (hook step : Option Utf8) → Utf8
source_kind (Some hook) step = codes "h"
source_kind None (Some step) = codes "s"
source_kind None None = []

abbrev pub source_id : (hook step : Option Utf8) → Utf8
source_id (Some hook) step = hook
source_id None (Some step) = step
source_id None None = []

-- a test case: its id, that of its pickle, and three texts of each step
abbrev pub plan_texts : TestStep → List Utf8
plan_texts s =
    s.id ∷ source_kind s.hook_id s.pickle_step_id ∷ source_id s.hook_id s.pickle_step_id ∷ []

abbrev pub plan_row : TestCase → List Utf8
plan_row c = c.id ∷ c.pickle_id ∷ flat_map plan_texts c.test_steps

-- a pickle: its id, its uri, and of each step its id, its text, and the step node that it is made of
abbrev pub step_texts : PickleStep → List Utf8
step_texts s = s.id ∷ s.text ∷ own_node s ∷ []

abbrev pub pickle_row : Pickle → List Utf8
pickle_row p = p.id ∷ p.uri ∷ flat_map step_texts p.steps

-- a document: its uri, and of each step its node and its line
abbrev pub place_texts : Place → List Utf8
place_texts x = x.id ∷ decimal x.line ∷ []

abbrev pub document_row : GherkinDocument → List Utf8
document_row d = d.uri ∷ flat_map place_texts (step_places d)

-- ---- attempts

abbrev pub start_entry : TestCaseStarted → StartEntry
start_entry s = record { id = s.id; case_id = s.test_case_id; number = s.attempt }

abbrev pub finish_entry : TestStepFinished → FinishEntry
finish_entry f = record {
  attempt = f.test_case_started_id;
  step = f.test_step_id;
  status = finish_status f;
}

-- Of each test case its steps, of each pickle and document where its steps stand, of each attempt its start and end, and the
-- steps that finished with a status that may hold the run up.
abbrev pub step_listing_of : List Envelope → StepListing
step_listing_of es = record {
  plans = map plan_row (cases es);
  pickles = map pickle_row (pickles es);
  documents = map document_row (filter_map as_document es);
  starts = map start_entry (starts es);
  ends = map (λ f. f.test_case_started_id) (finishes es);
  finishes = map finish_entry (filter (λ f. not (is_quiet (finish_status f))) (step_finishes es));
}
