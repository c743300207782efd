-- Where the steps of a stream stand: in which line of its source each begins; and what a test step is told as.
use Rattle.std.specs.Prelude.{ℕ, List, [], ◌++◌, Option, Some, None, codes, decimal, find, map, slice_get, unwrap_or}
use Rattle.std.specs.List.{filter_map, flat_map}
use Rattle.std.specs.Option.{option_map_or}
use Rattle.std.specs.Str.{bytes_eq}
use Rattle.gk_document.specs.declared.tree.Background.{Background}
use Rattle.gk_document.specs.declared.tree.Document.{Document}
use Rattle.gk_document.specs.declared.tree.Feature.{Feature}
use Rattle.gk_document.specs.declared.tree.Scenario.{Scenario}
use Rattle.gk_document.specs.declared.tree.Step.{Step}
use Rattle.cm_envelope.specs.declared.envelope.Envelope.{Envelope}
use Rattle.cm_envelope.specs.declared.envelope.GherkinDocument.{GherkinDocument}
use Rattle.cm_envelope.specs.declared.envelope.TestCase.{TestCase}
use Rattle.cm_envelope.specs.declared.envelope.TestStep.{TestStep}
use Rattle.cm_envelope.specs.declared.pickle.Pickle.{Pickle}
use Rattle.cm_envelope.specs.declared.pickle.PickleStep.{PickleStep}
use Rattle.cm_stream.specs.References.{as_document, find_case, find_pickle}
use Rattle.cm_stream.specs.Texts.{Utf8}
use Rattle.cm_cases.specs.Places.{place}
use Rattle.cm_cases.specs.Shown.{shown_text}
use Rattle.cm_cases.specs.declared.listing.Place.{Place}

-- ---- where steps stand

-- the steps of a background, where there is one, and of some scenarios
abbrev pub steps_within : Option Background → List Scenario → List Step
steps_within background scenarios =
    option_map_or (λ b. b.steps) background [] ++ flat_map (λ s. s.steps) scenarios

-- those of a feature, and then of its rules
abbrev pub steps_of_feature : Feature → List Step
steps_of_feature f =
    steps_within f.background f.scenarios
    ++ flat_map (λ r. steps_within r.background r.scenarios) f.rules

-- each step node of a document
abbrev pub steps_of_document : Document → List Step
steps_of_document d = option_map_or steps_of_feature d.feature []

-- the id and the line of each
abbrev pub step_places : GherkinDocument → List Place
step_places d = map (λ s. place d.ids s.node s.location) (steps_of_document d.document)

-- those of the document of a uri, and none where there is no document
abbrev pub step_places_at : Utf8 → List Envelope → List Place
step_places_at uri es =
    option_map_or step_places (find (λ d. bytes_eq uri d.uri) (filter_map as_document es)) []

-- the first of the nodes that a pickle's step is made of: its step, and not the row that fills it
abbrev pub own_node : PickleStep → Utf8
own_node s = unwrap_or (slice_get s.ast_node_ids 0) []

-- The line of the step that a pickle's step is made of. In a good stream there is one.
abbrev pub step_line : List Envelope → Pickle → PickleStep → ℕ
step_line es p s =
    option_map_or (λ x. x.line) (find (λ x. bytes_eq (own_node s) x.id) (step_places_at p.uri es)) 0

-- ---- what is told

-- `URI:LINE TEXT`, the text as it is filled
abbrev pub pickle_step_text : List Envelope → Pickle → PickleStep → List ℕ
pickle_step_text es p s =
    shown_text p.uri ++ codes ":" ++ decimal (step_line es p s) ++ codes " " ++ shown_text s.text

-- that of the step of an id of a pickle, and of the pickle of an id; nothing where there is none
abbrev pub step_text_in : List Envelope → (step : Utf8) → Pickle → List ℕ
step_text_in es step p =
    option_map_or (pickle_step_text es p) (find (λ s. bytes_eq step s.id) p.steps) []

abbrev pub step_text_of : List Envelope → (pickle step : Utf8) → List ℕ
step_text_of es pickle step = option_map_or (step_text_in es step) (find_pickle pickle es) []

-- `hook ID`
abbrev pub hook_text : (hook : Utf8) → List ℕ
hook_text hook = codes "hook " ++ shown_text hook

-- a hook, or else a word and the step of a pickle
abbrev pub told_step : (word : List ℕ) → List Envelope → (pickle : Utf8)
    → (hook step : Option Utf8) → List ℕ
told_step word es pickle (Some hook) step = hook_text hook
told_step word es pickle None (Some step) = word ++ step_text_of es pickle step
told_step word es pickle None None = []

-- that of a step of a test case
abbrev pub told_test_step : (word : List ℕ) → List Envelope → TestCase → TestStep → List ℕ
told_test_step word es c s = told_step word es c.pickle_id s.hook_id s.pickle_step_id

-- a test step: `hook ID`, or `URI:LINE TEXT` of the step of the pickle that its test case names
abbrev pub test_step_text : List Envelope → TestCase → TestStep → List ℕ
test_step_text es c s = told_test_step [] es c s

-- that of the test step of an id of a test case, and of the test case of an id; nothing where there is none
abbrev pub told_step_in : (word : List ℕ) → List Envelope → (step : Utf8) → TestCase → List ℕ
told_step_in word es step c =
    option_map_or (told_test_step word es c) (find (λ s. bytes_eq step s.id) c.test_steps) []

abbrev pub told_case_step : (word : List ℕ) → List Envelope → (test_case step : Utf8) → List ℕ
told_case_step word es case step =
    option_map_or (told_step_in word es step) (find_case case es) []

-- `URI:LINE TEXT`, or `hook ID`
abbrev pub case_step_text : List Envelope → (test_case step : Utf8) → List ℕ
case_step_text es case step = told_case_step [] es case step

-- `step URI:LINE TEXT`, or `hook ID`
abbrev pub named_case_step : List Envelope → (test_case step : Utf8) → List ℕ
named_case_step es case step = told_case_step (codes "step ") es case step
