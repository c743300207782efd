-- What the causes have to do with what is well.
use Rattle.std.specs.Prelude.{◌≡◌, ◌≢◌, ◌↔◌, ◌⊎◌, ℕ, true, false, List, [], ◌∷◌, ◌++◌, Some}
use Rattle.std.specs.List.{AllByRecursion, Contains, list_any}
use Rattle.std.specs.Str.{bytes_eq}
use Rattle.cm_attempt.specs.Results.{case_results}
use Rattle.cm_attempt.specs.declared.status.Policy.{Policy}
use Rattle.cm_attempt.specs.declared.status.Settings.{Settings}
use Rattle.cm_attempt.specs.declared.status.Status.{Status}
use Rattle.cm_envelope.specs.declared.envelope.Envelope.{Envelope}
use Rattle.cm_envelope.specs.declared.envelope.Envelope.TheVariants as envelope
use Rattle.cm_envelope.specs.declared.envelope.Source.{Source}
use Rattle.cm_envelope.specs.declared.envelope.TestCase.{TestCase}
use Rattle.cm_envelope.specs.declared.envelope.TestRunFinished.{TestRunFinished}
use Rattle.cm_envelope.specs.declared.envelope.TestRunHookStarted.{TestRunHookStarted}
use Rattle.cm_state.specs.Summary.{summary_of_lines_by}
use Rattle.cm_stream.specs.Checks.{fault_by}
use Rattle.cm_stream.specs.FaultlessLines.{IsFaultlessBy}
use Rattle.cm_stream.specs.Findings.{IsBad, SuccessDiffers}
use Rattle.cm_stream.specs.Good.{AllWell, Good, IsAccepted}
use Rattle.cm_stream.specs.Readings.{Reading, ByTheGrammar, IsReading, Refused}
use Rattle.cm_stream.specs.References.{cases, is_good_case, run_ends, run_hook_ends, run_hooks, run_succeeded, sources}
use Rattle.cm_stream.specs.Results.{results_of}
use Rattle.cm_stream.specs.Texts.{Utf8}
use Rattle.cm_reasons.specs.RunReasons.{AreRefusedLines, bad_end, bad_hook_line, hook_causes, line_of_refused}
use Rattle.cm_reasons.specs.Trail.{has_exception}
use Rattle.cm_causes.specs.Causes.{IsCauses, IsTruthTold, case_causes, cause_of_case, exception_line, nothing_failed}

-- ---- there is a cause exactly where not all is well

-- Each source is accepted or refused, and each run hook that ended was started.
pub record AreKnown (es : List Envelope) : Type 0 where
  pub each_source : AllByRecursion (λ s. IsAccepted s ⊎ IsReading s.content Refused) (sources es)
  pub each_end : AllByRecursion
      (λ f. list_any (λ s. bytes_eq f.test_run_hook_started_id s.id) (run_hooks es) ≡ true)
      (run_hook_ends es)

-- that is so of lines without a fault, and after the end of the run
abbrev pub FaultlessAreKnownBy : (Utf8 → Reading) → Type 0
FaultlessAreKnownBy read =
    (settings : Settings) (es : List Envelope) → IsFaultlessBy read settings es → AreKnown es

abbrev pub FaultlessAreKnown : Type 0
FaultlessAreKnown = ByTheGrammar FaultlessAreKnownBy

abbrev pub EndsAreKnown : Type 0
EndsAreKnown =
    (es : List Envelope) (f : TestRunFinished) → AreKnown es
    → AreKnown (es ++ envelope.TestRunFinished f ∷ [])

-- there is no cause exactly where all is well
abbrev pub NoCauseIsAllWell : Type 0
NoCauseIsAllWell =
    (policy : Policy) (es : List Envelope) (f : TestRunFinished) (text : List ℕ) → AreKnown es
    → IsCauses policy es f.has_exception text → (text ≡ []) ↔ AllWell policy es f

-- and it is told that nothing failed exactly there
abbrev pub NothingFailedIsAllWell : Type 0
NothingFailedIsAllWell =
    (policy : Policy) (es : List Envelope) (f : TestRunFinished) (text : List ℕ) → AreKnown es
    → IsTruthTold policy es f.has_exception text → (text ≡ nothing_failed) ↔ AllWell policy es f

-- a good stream whose run doesn't say success has a cause
abbrev pub GoodWithoutSuccessHasCause : Type 0
GoodWithoutSuccessHasCause =
    (settings : Settings) (es : List Envelope) (f : TestRunFinished) (text : List ℕ)
    → Good settings es → run_succeeded es ≡ false → run_ends es ≡ f ∷ []
    → IsCauses settings.policy es f.has_exception text → text ≢ []

-- a run that ends once has the exception of this end
abbrev pub TheEndHasTheException : Type 0
TheEndHasTheException =
    (es : List Envelope) (f : TestRunFinished) → run_ends es ≡ f ∷ []
    → has_exception es ≡ f.has_exception

-- Where a run says of its success what isn't so, it is told that nothing failed exactly where the run doesn't say success.
abbrev pub TruthIsToldBy : (Utf8 → Reading) → Type 0
TruthIsToldBy read =
    (settings : Settings) (es : List Envelope) (f : TestRunFinished) (text : List ℕ)
    → IsFaultlessBy read settings es
    → fault_by read settings es (envelope.TestRunFinished f) ≡ Some (IsBad SuccessDiffers)
    → IsTruthTold settings.policy (es ++ envelope.TestRunFinished f ∷ []) f.has_exception text
    → (text ≡ nothing_failed) ↔ (f.success ≡ false)

abbrev pub TruthIsTold : Type 0
TruthIsTold = ByTheGrammar TruthIsToldBy

-- ---- the results by which the causes of test cases are told

-- what an audit keeps of lines without a fault has their results
abbrev pub KeptResultsBy : (Utf8 → Reading) → Type 0
KeptResultsBy read =
    (settings : Settings) (es : List Envelope) → IsFaultlessBy read settings es
    → case_results (summary_of_lines_by read settings.first_attempt es).table ≡ results_of es

abbrev pub KeptResults : Type 0
KeptResults = ByTheGrammar KeptResultsBy

-- and those of the lines with the end of the run
abbrev pub EndsHaveNoResult : Type 0
EndsHaveNoResult =
    (es : List Envelope) (f : TestRunFinished)
    → results_of (es ++ envelope.TestRunFinished f ∷ []) ≡ results_of es

-- ---- each has its line, before the cut at a hundred

abbrev pub CasesHaveLines : Type 0
CasesHaveLines =
    (policy : Policy) (es : List Envelope) (c : TestCase) → Contains (cases es) c
    → is_good_case policy es c ≡ false → Contains (case_causes policy es) (cause_of_case es c)

abbrev pub HooksHaveLines : Type 0
HooksHaveLines =
    (policy : Policy) (es : List Envelope) (s : TestRunHookStarted) (status : Status)
    → Contains (run_hooks es) s → bad_end policy es s ≡ Some status
    → Contains (hook_causes policy es) (bad_hook_line s.hook_id status)

abbrev pub SourcesHaveLines : Type 0
SourcesHaveLines =
    (all : List Source) (lines : List (List ℕ)) → AreRefusedLines all lines
    → (s : Source) → Contains all s → IsReading s.content Refused
    → (refused : IsReading s.content Refused)
    × Contains lines (line_of_refused s refused.1)

-- the text ends with the line of an exception
abbrev pub ExceptionsHaveLines : Type 0
ExceptionsHaveLines =
    (policy : Policy) (es : List Envelope) (text : List ℕ) → IsCauses policy es true text
    → (front : List ℕ) × (text ≡ front ++ exception_line true)
