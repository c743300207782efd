-- The envelopes that the streams are made of: those of a feature file with one scenario of one
-- step, of attempts at it, and of the run.
use Rattle.std.specs.Prelude.{ℕ, [], ◌∷◌, ◌++◌, Some, None, false, Bool, codes}
use Rattle.gk_document.specs.declared.tree.KeywordType.TheVariants as keyword
use Rattle.gk_document.specs.declared.tree.Location.{Location}
use Rattle.gk_document.specs.declared.tree.Step.{Step}
use Rattle.gk_document.specs.declared.tree.Scenario.{Scenario}
use Rattle.gk_document.specs.declared.tree.Feature.{Feature}
use Rattle.gk_document.specs.declared.tree.Document.{Document}
use Rattle.cm_envelope.specs.declared.pickle.StepKind.TheVariants.{Context}
use Rattle.cm_envelope.specs.declared.envelope.Status.{Status}
use Rattle.cm_envelope.specs.declared.envelope.Envelope.{Envelope}
use Rattle.cm_envelope.specs.declared.envelope.Envelope.TheVariants as envelope
use Rattle.cm_stream.specs.Texts.{Utf8}
use Rattle.cm_stream.specs.Sources.{plain, english}

-- ---- the feature file

abbrev pub feature_text : Utf8
feature_text = codes "Feature: f\n\n  Scenario: s\n    Given a\n"

-- a place in it, as an envelope is read: columns are 0
abbrev pub at : ℕ → Location
at n = record { line = n; column = 0 }

abbrev pub step : Step
step = record {
  node = 1;
  location = at 4;
  keyword = codes "Given ";
  kind = keyword.Unknown;
  text = codes "a";
  argument = None;
}

abbrev pub scenario : Scenario
scenario = record {
  node = 0;
  location = at 3;
  tags = [];
  keyword = codes "Scenario";
  name = codes "s";
  description = [];
  steps = step ∷ [];
  examples = [];
}

abbrev pub feature : Feature
feature = record {
  location = at 1;
  tags = [];
  language = english;
  keyword = codes "Feature";
  name = codes "f";
  description = [];
  background = None;
  scenarios = scenario ∷ [];
  rules = [];
}

abbrev pub feature_document : Document
feature_document = record { feature = Some feature; comments = []; nodes = 2 }

-- ---- a source with its document, its pickle and a test case

-- The ids begin with the uri: those of the nodes end in 0 and 1, those of the pickle's step and the
-- pickle in 2 and 3, and those of the test case and its step in `c` and `t`.
abbrev pub source : (uri text : Utf8) → Envelope
source uri text = envelope.Source (record { uri = uri; content = text; media_type = plain })

abbrev pub document : Utf8 → Envelope
document uri = envelope.GherkinDocument (record {
  uri = uri;
  document = feature_document;
  ids = (uri ++ codes "0") ∷ (uri ++ codes "1") ∷ [];
})

abbrev pub pickle : Utf8 → Envelope
pickle uri = envelope.Pickle (record {
  id = uri ++ codes "3";
  uri = uri;
  name = codes "s";
  language = english;
  ast_node_ids = (uri ++ codes "0") ∷ [];
  tags = [];
  steps = record {
    id = uri ++ codes "2";
    text = codes "a";
    kind = Some Context;
    ast_node_ids = (uri ++ codes "1") ∷ [];
    argument = None;
  } ∷ [];
})

abbrev pub test_case : Utf8 → Envelope
test_case uri = envelope.TestCase (record {
  id = uri ++ codes "c";
  pickle_id = uri ++ codes "3";
  test_run_started_id = None;
  test_steps = record {
    id = uri ++ codes "t";
    hook_id = None;
    pickle_step_id = Some (uri ++ codes "2");
    step_definition_ids = [];
  } ∷ [];
})

-- the parser refused the source
abbrev pub parse_error : Utf8 → Envelope
parse_error uri = envelope.ParseError (record { source = record { uri = uri } })

-- ---- attempts

-- an attempt at the test case of this source
abbrev pub attempt_start : (uri id : Utf8) → (attempt : ℕ) → Envelope
attempt_start uri id attempt = envelope.TestCaseStarted (record {
  id = id;
  test_case_id = uri ++ codes "c";
  attempt = attempt;
})

abbrev pub step_started : (uri id : Utf8) → Envelope
step_started uri id = envelope.TestStepStarted (record {
  test_case_started_id = id;
  test_step_id = uri ++ codes "t";
})

abbrev pub step_finished : (uri id : Utf8) → Status → Envelope
step_finished uri id status = envelope.TestStepFinished (record {
  test_case_started_id = id;
  test_step_id = uri ++ codes "t";
  test_step_result = record { status = status };
})

abbrev pub attempt_end : (id : Utf8) → (is_retried : Bool) → Envelope
attempt_end id is_retried = envelope.TestCaseFinished (record {
  test_case_started_id = id;
  will_be_retried = is_retried;
})

-- ---- the run

abbrev pub run_started : Envelope
run_started = envelope.TestRunStarted (record { id = None })

abbrev pub run_finished : (success : Bool) → Envelope
run_finished success = envelope.TestRunFinished (record {
  test_run_started_id = None;
  success = success;
  has_exception = false;
})
