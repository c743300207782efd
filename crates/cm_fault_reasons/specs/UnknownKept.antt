-- The first reference of an envelope that isn't declared, by what an audit keeps of the lines before it.
use Rattle.std.specs.Prelude.{Bool, not, List, [], ◌∷◌, ◌++◌, Option, Some, None, find, is_some, map, option_map}
use Rattle.std.specs.List.{flat_map}
use Rattle.cm_refs.specs.Declarations.{find_pickle, find_run_hook}
use Rattle.cm_attempt.specs.Table.{find_attempt, find_case, has_text, steps_of}
use Rattle.cm_envelope.specs.declared.envelope.Envelope.{Envelope}
use Rattle.cm_envelope.specs.declared.envelope.Envelope.TheVariants as envelope
use Rattle.cm_envelope.specs.declared.envelope.TestCase.{TestCase}
use Rattle.cm_state.specs.StateChecks.{knows_run, steps_by}
use Rattle.cm_state.specs.Summary.{Summary}
use Rattle.cm_stream.specs.References.{Name, SourceOf, DocumentOf, PickleNamed, PickleStep, Definition, HookNamed, Case, Step, Run, Attempt, RunHook, if_any, test_step_names}
use Rattle.cm_stream.specs.Texts.{Utf8}
use Rattle.cm_fault_reasons.specs.Unknown.{ToldName, told_name}
use Rattle.cm_fault_reasons.specs.declared.unknown.ToldName as made

-- what is kept declares it
abbrev pub knows : Summary → Name → Bool
knows s (SourceOf uri) = has_text uri s.declared.sources
knows s (DocumentOf uri) = has_text uri s.declared.documents
knows s (PickleNamed id) = is_some (find_pickle s.declared id)
knows s (PickleStep pickle id) = has_text id (steps_by s pickle)
knows s (Definition id) = has_text id s.declared.definitions
knows s (HookNamed id) = has_text id s.declared.hooks
knows s (Case id) = is_some (find_case s.table id)
knows s (Step test_case id) = has_text id (steps_of s.table test_case)
knows s (Run id) = knows_run s (Some id)
knows s (Attempt id) = is_some (find_attempt s.table id)
knows s (RunHook id) = is_some (find_run_hook s.declared id)

-- a step of an attempt is a step of its case
abbrev pub step_names_by : Summary → (attempt step : Utf8) → List Name
step_names_by s attempt step =
    map (λ a. Step a.case_id step) (if_any (find_attempt s.table attempt))

-- an attempt, and a step of it
abbrev pub place_names : Summary → (attempt step : Utf8) → List Name
place_names s attempt step = Attempt attempt ∷ step_names_by s attempt step

-- without an attempt its step isn't judged
abbrev pub attachment_names_by : Summary → Option Utf8 → Option Utf8 → List Name
attachment_names_by s None step = []
attachment_names_by s (Some attempt) None = Attempt attempt ∷ []
attachment_names_by s (Some attempt) (Some step) = place_names s attempt step

-- a test case names its run, its pickle and what its steps name
abbrev pub refers_of_case : TestCase → List Name
refers_of_case c =
    map Run (if_any c.test_run_started_id) ++ PickleNamed c.pickle_id
    ∷ flat_map (test_step_names c.pickle_id) c.test_steps

-- what an envelope refers to
abbrev pub refers_by : Summary → Envelope → List Name
refers_by s (envelope.GherkinDocument d) = SourceOf d.uri ∷ []
refers_by s (envelope.ParseError p) = SourceOf p.source.uri ∷ []
refers_by s (envelope.Pickle p) = SourceOf p.uri ∷ DocumentOf p.uri ∷ []
refers_by s (envelope.TestCase c) = refers_of_case c
refers_by s (envelope.TestCaseStarted x) = Case x.test_case_id ∷ []
refers_by s (envelope.TestStepStarted x) = place_names s x.test_case_started_id x.test_step_id
refers_by s (envelope.TestStepFinished x) = place_names s x.test_case_started_id x.test_step_id
refers_by s (envelope.TestCaseFinished f) = Attempt f.test_case_started_id ∷ []
refers_by s (envelope.TestRunFinished f) = map Run (if_any f.test_run_started_id)
refers_by s (envelope.TestRunHookStarted x) =
    map Run (if_any x.test_run_started_id) ++ HookNamed x.hook_id ∷ []
refers_by s (envelope.TestRunHookFinished f) = RunHook f.test_run_hook_started_id ∷ []
refers_by s (envelope.Attachment a) =
    attachment_names_by s a.test_case_started_id a.test_step_id
refers_by s _ = []

-- the first of these that isn't declared, as it is told
abbrev pub unknown_among : Summary → List Name → Option ToldName
unknown_among s names = option_map told_name (find (λ name. not (knows s name)) names)

abbrev pub first_unknown_by : Summary → Envelope → Option ToldName
first_unknown_by s e = unknown_among s (refers_by s e)

-- what the code tells
abbrev pub told_view : made.ToldName → ToldName
told_view t = record { is_uri = t.is_uri; text = t.text.now }
