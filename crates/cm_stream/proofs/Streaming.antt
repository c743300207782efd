-- The lines that the worked streams are made of.
use Rattle.std.proofs.Common.{ℕ, suc, List, [], ◌∷◌, ◌++◌, Some, None, true, false, Bool}
use Rattle.std.specs.Prelude.{codes}
use Rattle.gk_document.specs.declared.tree.Document.{Document}
use Rattle.cm_envelope.specs.declared.pickle.StepKind.TheVariants.{Context}
use Rattle.cm_stream.specs.Texts.{Utf8}
use Rattle.cm_stream.specs.Findings.{Finding}
use Rattle.cm_stream.specs.Readings.{Reading, Accepted}
use Rattle.cm_stream.specs.OnePass.{reads}
use Rattle.cm_stream.specs.Sources.{plain, english}
use Rattle.cm_attempt.specs.declared.status.Policy.{Policy}
use Rattle.cm_attempt.specs.declared.status.Settings.{Settings}
use Rattle.cm_attempt.specs.declared.status.Policy.TheVariants.{Strict}
use Rattle.cm_stream.specs.Checks.{fault_at_end}
use Rattle.cm_stream.specs.ByOnePass.{fault}
use Rattle.cm_stream.specs.Redeclared.{judged_as}
use Rattle.cm_stream.specs.Stream.{FirstFault, At, NoFault, at_line, at_end, counts_of}
use Rattle.cm_envelope.specs.declared.envelope.Envelope.{Envelope}
use Rattle.cm_envelope.specs.declared.envelope.Envelope.TheVariants as envelope
use Rattle.cm_envelope.specs.declared.envelope.Status.{Status}
use Rattle.cm_stream.specs.declared.laws.Counts.{Counts}

-- ---- texts

-- a feature of one scenario with one step
abbrev pub one_step : Utf8
one_step = codes "Feature: f\n\n  Scenario: s\n    Given a\n"

-- an outline with three rows, of which two are alike
abbrev pub outline : Utf8
outline = codes "Feature: f\n  Scenario: s\n    Given <a>\n    Examples:\n      | a |\n      | x |\n      | x |\n      | y |\n"

-- a scenario without steps of its own after a background
abbrev pub no_steps : Utf8
no_steps = codes "Feature: f\n  Background:\n    Given a\n    And b\n  Scenario: s\n"

abbrev pub french : Utf8
french = codes "# language: fr\nFeature: x\n"

-- ---- lines

abbrev pub source : Utf8 → Utf8 → Envelope
source uri text = envelope.Source (record { uri = uri; content = text; media_type = plain })

-- the document that a text is read as
abbrev pub document_in : Reading → Document
document_in (Accepted d) = d
document_in _ = record { feature = None; comments = []; nodes = 0 }

abbrev pub document : Utf8 → Utf8 → List Utf8 → Envelope
document uri text ids = envelope.GherkinDocument (record { uri = uri; document = document_in (reads text); ids = ids })

-- a pickle with one step
abbrev pub pickle : Utf8 → Utf8 → List Utf8 → Utf8 → Utf8 → List Utf8 → Envelope
pickle uri id nodes step text step_nodes = envelope.Pickle (record {
  id = id;
  uri = uri;
  name = codes "s";
  language = english;
  ast_node_ids = nodes;
  tags = [];
  steps = record { id = step; text = text; kind = Some Context; ast_node_ids = step_nodes; argument = None } ∷ [];
})

abbrev pub run_started : Envelope
run_started = envelope.TestRunStarted (record { id = None })

abbrev pub run_finished : Bool → Envelope
run_finished success = envelope.TestRunFinished (record { test_run_started_id = None; success = success; has_exception = false })

-- a case of the pickle `3`, which runs its one step
abbrev pub case : Utf8 → Envelope
case id = envelope.TestCase (record {
  id = id;
  pickle_id = codes "3";
  test_run_started_id = None;
  test_steps = record { id = codes "t1"; hook_id = None; pickle_step_id = Some (codes "2"); step_definition_ids = [] } ∷ [];
})

abbrev pub started : Utf8 → Utf8 → ℕ → Envelope
started id case number = envelope.TestCaseStarted (record { id = id; test_case_id = case; attempt = number })

abbrev pub step_started : Utf8 → Envelope
step_started id = envelope.TestStepStarted (record { test_case_started_id = id; test_step_id = codes "t1" })

abbrev pub step_finished : Utf8 → Status → Envelope
step_finished id status = envelope.TestStepFinished (record { test_case_started_id = id; test_step_id = codes "t1"; test_step_result = record { status = status } })

abbrev pub finished : Utf8 → Bool → Envelope
finished id retried = envelope.TestCaseFinished (record { test_case_started_id = id; will_be_retried = retried })

abbrev pub parse_error : Utf8 → Envelope
parse_error uri = envelope.ParseError (record { source = record { uri = uri } })

abbrev pub hook : Envelope
hook = envelope.Hook (record { id = codes "h" })

abbrev pub hook_started : Utf8 → Envelope
hook_started id = envelope.TestRunHookStarted (record { id = id; test_run_started_id = None; hook_id = codes "h" })

abbrev pub hook_finished : Utf8 → Status → Envelope
hook_finished id status = envelope.TestRunHookFinished (record { test_run_hook_started_id = id; result = record { status = status } })

-- ---- the streams' fronts

-- the source, the document and the pickle of the feature with one step, where the nodes have these ids
abbrev pub one_step_as : Utf8 → Utf8 → List Envelope
one_step_as scenario step =
    source (codes "a") one_step ∷ document (codes "a") one_step (scenario ∷ step ∷ [])
    ∷ pickle (codes "a") (codes "3") (scenario ∷ []) (codes "2") (codes "a") (step ∷ []) ∷ []

abbrev pub one_pickle : List Envelope
one_pickle = one_step_as (codes "0") (codes "1")

-- the outline's source and document
abbrev pub outline_front : List Envelope
outline_front = source (codes "o") outline ∷ document (codes "o") outline (codes "0" ∷ codes "1" ∷ codes "2" ∷ codes "3" ∷ codes "4" ∷ codes "5" ∷ codes "6" ∷ []) ∷ []

-- the outline's pickle of a row
abbrev pub of_row : Utf8 → Utf8 → Utf8 → Utf8 → Envelope
of_row id step text row = pickle (codes "o") id (codes "0" ∷ row ∷ []) step text (codes "1" ∷ row ∷ [])

abbrev pub first_row : Envelope
first_row = of_row (codes "8") (codes "7") (codes "x") (codes "4")

abbrev pub second_row : Envelope
second_row = of_row (codes "10") (codes "9") (codes "x") (codes "5")

abbrev pub third_row : Utf8 → Envelope
third_row id = of_row id (codes "11") (codes "y") (codes "6")

-- the source, the document and the one pickle, without steps
abbrev pub no_steps_front : List Envelope
no_steps_front =
    source (codes "e") no_steps ∷ document (codes "e") no_steps (codes "0" ∷ codes "1" ∷ codes "2" ∷ codes "3" ∷ [])
    ∷ envelope.Pickle (record { id = codes "4"; uri = codes "e"; name = codes "s"; language = english; ast_node_ids = codes "3" ∷ []; tags = []; steps = [] }) ∷ []

-- a case of that pickle
abbrev pub empty_case : Envelope
empty_case = envelope.TestCase (record { id = codes "c1"; pickle_id = codes "4"; test_run_started_id = None; test_steps = [] })

-- ---- what is reported

-- what is reported of lines that are all envelopes, by its counts or its fault
pub data Shown : Type 0 where
  Good : Counts → Shown
  Fault : ℕ → Finding → Shown
  Other : Shown

-- by the policy, where the attempts of a case are numbered from the first number
abbrev pub by : Policy → (first : ℕ) → Settings
by policy first = record { policy = policy; first_attempt = first; allows_redeclared = false }

abbrev pub told_from : Settings → List Envelope → ℕ → List Envelope → FirstFault
told_from settings before n [] = at_end n before (fault_at_end before)
told_from settings before n (e ∷ es) =
    at_line n (fault settings before (judged_as settings before e)) (told_from settings (before ++ judged_as settings before e ∷ []) (suc n) es)

abbrev pub show : FirstFault → Shown
show (NoFault es) = Good (counts_of es)
show (At n f) = Fault n f
show _ = Other

abbrev pub shown_by : Settings → List Envelope → Shown
shown_by settings es = show (told_from settings [] 1 es)

abbrev pub shown : List Envelope → Shown
shown = shown_by (by Strict 0)

-- where hooks and step definitions may be declared again
abbrev pub shown_redeclared : List Envelope → Shown
shown_redeclared = shown_by (record (by Strict 0) { allows_redeclared = true })

abbrev pub good : (sources pickles cases attempts unrun : ℕ) → Shown
good s p c a u = Good (record { sources = s; pickles = p; cases = c; attempts = a; unrun = u })
