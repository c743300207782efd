-- The envelope of a line.
use Rattle.std.specs.Prelude.{◌≡◌, ℕ, List, [], ◌∷◌, if◌then◌else◌, Option, Some, None, is_some, option_map, Result, Ok, Err, codes, find, bytes_eq}
use Rattle.std.specs.List.{filter_map}
use Rattle.std.specs.Str.{is_utf8}
use Rattle.std.specs.Borrow.{Bor}
use Rattle.serde_json.specs.Data.{Data}
use Rattle.serde_json.specs.View.{view}
use Rattle.serde_json.specs.declared.value.Value.{Value}
use Rattle.serde_json.specs.Read.{read}
use Rattle.serde_json.specs.Find.{as_object}
use Rattle.cm_envelope.specs.declared.envelope.Envelope.{Envelope}
use Rattle.cm_envelope.specs.declared.envelope.Envelope.TheVariants as envelope
use Rattle.cm_envelope.specs.declared.kind.Kind.{Kind}
use Rattle.cm_envelope.specs.declared.kind.Kind.TheVariants.{Source, GherkinDocument, ParseError, Pickle, StepDefinition, Hook, TestCase, TestRunStarted, TestCaseStarted, TestStepStarted, TestStepFinished, TestCaseFinished, TestRunFinished, Attachment, TestRunHookStarted, TestRunHookFinished}
use Rattle.cm_envelope.specs.declared.fault.LineFault as line_fault
use Rattle.cm_envelope.specs.declared.fault.LineFault.TheVariants as line_faults
use Rattle.cm_envelope.specs.declared.fault.EnvelopeFault.{EnvelopeFault}
use Rattle.cm_envelope.specs.declared.fault.EnvelopeFault.TheVariants as faults
use Rattle.cm_envelope.specs.Member.{◌>>=◌, present_member}
use Rattle.cm_envelope.specs.Documents.{gherkin_document}
use Rattle.cm_envelope.specs.Pickles.{pickle}
use Rattle.cm_envelope.specs.Envelopes.{source, parse_error, step_definition, hook, test_case, test_run_started, test_case_started, test_step_started, test_step_finished, test_case_finished, test_run_finished, attachment, test_run_hook_started, test_run_hook_finished}

-- Why a line has no envelope: no JSON, no shape, or the kind and its first bad member.
pub data LineFault : Type 0 where
  not_json : LineFault
  shape : LineFault
  field : List ℕ → List ℕ → LineFault

-- the judged kinds
abbrev pub kinds : List Kind
kinds =
    Source ∷ GherkinDocument ∷ ParseError ∷ Pickle ∷ StepDefinition ∷ Hook ∷ TestCase
    ∷ TestRunStarted ∷ TestCaseStarted ∷ TestStepStarted ∷ TestStepFinished ∷ TestCaseFinished
    ∷ TestRunFinished ∷ Attachment ∷ TestRunHookStarted ∷ TestRunHookFinished ∷ []

-- the name of a kind's member in an envelope
abbrev pub kind_name : Kind → List ℕ
kind_name Source = codes "source"
kind_name GherkinDocument = codes "gherkinDocument"
kind_name ParseError = codes "parseError"
kind_name Pickle = codes "pickle"
kind_name StepDefinition = codes "stepDefinition"
kind_name Hook = codes "hook"
kind_name TestCase = codes "testCase"
kind_name TestRunStarted = codes "testRunStarted"
kind_name TestCaseStarted = codes "testCaseStarted"
kind_name TestStepStarted = codes "testStepStarted"
kind_name TestStepFinished = codes "testStepFinished"
kind_name TestCaseFinished = codes "testCaseFinished"
kind_name TestRunFinished = codes "testRunFinished"
kind_name Attachment = codes "attachment"
kind_name TestRunHookStarted = codes "testRunHookStarted"
kind_name TestRunHookFinished = codes "testRunHookFinished"

-- the kind whose member has this name
abbrev pub kind_named : List ℕ → Option Kind
kind_named name = find (λ k. bytes_eq name (kind_name k)) kinds

abbrev pub result_map : {A B E : Type 0} → (A → B) → Result A E → Result B E
result_map f (Ok x) = Ok (f x)
result_map f (Err e) = Err e

-- what an object of the kind is read as, or the name of its first bad member
abbrev pub members : Kind → Data → Result Envelope (List ℕ)
members Source d = result_map envelope.Source (source d)
members GherkinDocument d = result_map envelope.GherkinDocument (gherkin_document d)
members ParseError d = result_map envelope.ParseError (parse_error d)
members Pickle d = result_map envelope.Pickle (pickle d)
members StepDefinition d = result_map envelope.StepDefinition (step_definition d)
members Hook d = result_map envelope.Hook (hook d)
members TestCase d = result_map envelope.TestCase (test_case d)
members TestRunStarted d = result_map envelope.TestRunStarted (test_run_started d)
members TestCaseStarted d = result_map envelope.TestCaseStarted (test_case_started d)
members TestStepStarted d = result_map envelope.TestStepStarted (test_step_started d)
members TestStepFinished d = result_map envelope.TestStepFinished (test_step_finished d)
members TestCaseFinished d = result_map envelope.TestCaseFinished (test_case_finished d)
members TestRunFinished d = result_map envelope.TestRunFinished (test_run_finished d)
members Attachment d = result_map envelope.Attachment (attachment d)
members TestRunHookStarted d = result_map envelope.TestRunHookStarted (test_run_hook_started d)
members TestRunHookFinished d = result_map envelope.TestRunHookFinished (test_run_hook_finished d)

-- the judged kinds that the object has, each with its value
abbrev pub kinds_of : List Kind → Data → List (Kind × Data)
kinds_of ks d = filter_map (λ k. option_map (λ v. (k, v)) (present_member (kind_name k) d)) ks

abbrev pub judged_kinds_of : Data → List (Kind × Data)
judged_kinds_of d = kinds_of kinds d

abbrev pub in_kind : {A : Type 0} → Kind → Result A (List ℕ) → Result A LineFault
in_kind k (Ok x) = Ok x
in_kind k (Err name) = Err (field (kind_name k) name)

-- An object has at most one judged kind.
abbrev pub the_one : {A : Type 0} → List A → Result (Option A) LineFault
the_one [] = Ok None
the_one (x ∷ []) = Ok (Some x)
the_one (x ∷ y ∷ more) = Err shape

abbrev pub envelope_in : Kind → Data → Result Envelope LineFault
envelope_in k v = if is_some (as_object v) then in_kind k (members k v) else Err shape

abbrev pub envelope_in_one : Option (Kind × Data) → Result Envelope LineFault
envelope_in_one None = Ok envelope.Other
envelope_in_one (Some j) = envelope_in j.0 j.1

abbrev pub envelope_of : Data → Result Envelope LineFault
envelope_of d =
    if is_some (as_object d) then the_one (judged_kinds_of d) >>= envelope_in_one else Err shape

-- the JSON value that the line is
abbrev pub value_of_line : List ℕ → Option Data
value_of_line line = if is_utf8 line then read line else None

abbrev pub json_or_fault : Option Data → Result Data LineFault
json_or_fault None = Err not_json
json_or_fault (Some d) = Ok d

abbrev pub json_of_line : List ℕ → Result Data LineFault
json_of_line line = json_or_fault (value_of_line line)

abbrev pub envelope_of_line : List ℕ → Result Envelope LineFault
envelope_of_line line = json_of_line line >>= envelope_of

-- the fault that the code names
abbrev pub fault_named : line_fault.LineFault → LineFault
fault_named line_faults.NotJson = not_json
fault_named line_faults.Shape = shape
fault_named (line_faults.Field kind name) = field kind.now name.now

-- The reading has this fault, unless memory ran out.
abbrev pub FailsAtLine : {A : Type 0} → EnvelopeFault → Result A LineFault → Type 0
FailsAtLine (faults.Line fault) reading = reading ≡ Err (fault_named fault)
FailsAtLine faults.Memory reading = Unit {0}

-- What a function returned, seen by view, is what the reading gives, unless memory ran out.
abbrev pub GivesLineValue : {A B : Type 0} → (A → B) → Result A EnvelopeFault → Result B LineFault
    → Type 0
GivesLineValue view (Ok x) reading = reading ≡ Ok (view x)
GivesLineValue view (Err e) reading = FailsAtLine e reading

abbrev pub GivesEnvelope : {A : Type 0} → Result A EnvelopeFault → Result A LineFault → Type 0
GivesEnvelope result reading = GivesLineValue (λ x. x) result reading

-- a judged kind and its value, as the code holds them
abbrev pub kind_and_data : Kind × Bor Value → Kind × Data
kind_and_data j = (j.0, view j.1.now)
