-- Good streams, as predicates on the whole list of envelopes. The Cucumber Messages schemas say which members an envelope
-- has; which lists of envelopes are good they leave open, and the rules here are this profile's.
use Rattle.std.specs.Prelude.{◌≡◌, ◌↔◌, ℕ, ◌+◌, Bool, true, false, ◌||◌, List, [], ◌∷◌, ◌++◌, Some, map, length, count_by}
use Rattle.std.specs.List.{list_any, list_all, flat_map, AllByRecursion}
use Rattle.std.specs.Option.{option_map}
use Rattle.std.specs.Str.{bytes_eq}
use Rattle.cm_stream.specs.Texts.{same_list}
use Rattle.cm_attempt.specs.Table.{has_repeat, is_good_status}
use Rattle.cm_attempt.specs.declared.status.Policy.{Policy}
use Rattle.cm_attempt.specs.declared.status.Settings.{Settings}
use Rattle.gk_document.specs.declared.tree.Document.{Document}
use Rattle.gk_document.specs.Skeleton.{skeleton}
use Rattle.gk_pickle.specs.Pickles.{pickles as compiled}
use Rattle.cm_stream.specs.Readings.{Reading, Accepted, Refused, OtherLanguage, TooLong, IsReading}
use Rattle.cm_stream.specs.Sources.{plain, is_due}
use Rattle.cm_stream.specs.References.{cases, sources, hook_statuses, is_good_case, times_finished, Name, same_name, declares, times_declared, refers, sources_of, documents_of, pickles_of, starts_of, has_run_started, is_run_started, is_run_finished, is_judged, find_pickle, pickle_step_ids, steps_of, moves, is_retried}
use Rattle.cm_attempt.specs.Calls.{all_moves}
use Rattle.cm_envelope.specs.declared.envelope.Envelope.{Envelope}
use Rattle.cm_envelope.specs.declared.envelope.Envelope.TheVariants as envelope
use Rattle.cm_envelope.specs.declared.envelope.Source.{Source}
use Rattle.cm_envelope.specs.declared.envelope.GherkinDocument.{GherkinDocument}
use Rattle.cm_envelope.specs.declared.envelope.TestRunFinished.{TestRunFinished}
use Rattle.cm_envelope.specs.declared.envelope.Status.{Status}
use Rattle.cm_envelope.specs.declared.envelope.Status.TheVariants.{Unknown}

-- what holds of each envelope, the ones before it and the ones after it
abbrev pub Everywhere : (List Envelope → Envelope → List Envelope → Type 0) → List Envelope → Type 0
Everywhere P es =
    (before : List Envelope) (e : Envelope) (after : List Envelope) → es ≡ before ++ e ∷ after
    → P before e after

-- Each reference names something that exactly one earlier envelope declares.
abbrev pub ReferencesGood : List Envelope → Type 0
ReferencesGood es =
    Everywhere (λ before e after. AllByRecursion (λ name. times_declared name before ≡ 1)
    (refers before e)) es

-- One document has the source's uri, after the source, with the skeleton of its text and distinct ids, and the pickles of
-- the uri are those of that document in order.
pub record HasDocument (es before : List Envelope) (s : Source) (after : List Envelope)
    (text : Document) : Type 0 where
  pub document : GherkinDocument
  pub none_before : documents_of s.uri before ≡ []
  pub one_after : documents_of s.uri after ≡ document ∷ []
  pub same_skeleton : skeleton document.document ≡ skeleton text
  pub distinct_ids : has_repeat document.ids ≡ false
  pub same_pickles : same_list (is_due document.ids) (pickles_of s.uri es) (compiled text) ≡ true

-- The source's uri has no document and no pickle.
pub record HasNoDocument (es : List Envelope) (s : Source) : Type 0 where
  pub no_document : documents_of s.uri es ≡ []
  pub no_pickle : pickles_of s.uri es ≡ []

-- what a source has, by what its text is read as: an accepted one its document and pickles, a refused one none of them
abbrev pub MeetsSource : List Envelope → (before : List Envelope) → Source → (after : List Envelope)
    → Reading → Type 0
MeetsSource es before s after (Accepted text) = HasDocument es before s after text
MeetsSource es before s after Refused = HasNoDocument es s
MeetsSource es before s after OtherLanguage = ⊥
MeetsSource es before s after TooLong = ⊥

-- the source's text is one of the grammar
abbrev pub IsAccepted : Source → Type 0
IsAccepted s = (d : Document) × IsReading s.content (Accepted d)

-- A source is plain Gherkin within the limits and in English, and has its document and pickles.
pub record IsGoodSource (es before : List Envelope) (s : Source)
    (after : List Envelope) : Type 0 where
  pub is_plain : bytes_eq s.media_type plain ≡ true
  pub reading : Reading
  pub is_read : IsReading s.content reading
  pub meets : MeetsSource es before s after reading

-- Each source is a good one, and parse errors name only sources that are refused.
abbrev pub SourceGood : List Envelope → List Envelope → Envelope → List Envelope → Type 0
SourceGood es before (envelope.Source s) after = IsGoodSource es before s after
SourceGood es before (envelope.ParseError p) after =
    AllByRecursion (λ s. IsAccepted s → ⊥) (sources_of p.source.uri es)
SourceGood es before _ after = Unit {0}

abbrev pub SourcesGood : List Envelope → Type 0
SourcesGood es = Everywhere (SourceGood es) es

-- The pickle steps of a case, in order, are the steps of its pickle.
abbrev pub CaseGood : List Envelope → Envelope → Type 0
CaseGood es (envelope.TestCase c) =
    option_map (λ p. map (λ s. s.id) p.steps) (find_pickle c.pickle_id es)
    ≡ Some (pickle_step_ids c)
CaseGood es _ = Unit {0}

abbrev pub CasesGood : List Envelope → Type 0
CasesGood es = Everywhere (λ before e after. CaseGood es e) es

-- An attempt starts, starts and finishes each step of its case in order, and finishes; no other envelope but attachments names it.
abbrev pub AttemptGood : List Envelope → Envelope → Type 0
AttemptGood es (envelope.TestCaseStarted s) = moves s.id es ≡ all_moves (steps_of s.test_case_id es)
AttemptGood es _ = Unit {0}

abbrev pub AttemptsGood : List Envelope → Type 0
AttemptsGood es = Everywhere (λ before e after. AttemptGood es e) es

-- Each attempt of the case that started before it is finished and will be retried.
abbrev pub RetryGood : List Envelope → Envelope → Type 0
RetryGood before (envelope.TestCaseStarted s) =
    list_all (λ x. is_retried x.id before) (starts_of s.test_case_id before) ≡ true
RetryGood before _ = Unit {0}

abbrev pub RetriesGood : List Envelope → Type 0
RetriesGood es = Everywhere (λ before e after. RetryGood before e) es

-- The attempts of a case are numbered one after another in order of start, from this number.
abbrev pub NumberGood : (first : ℕ) → List Envelope → Envelope → Type 0
NumberGood first before (envelope.TestCaseStarted s) =
    s.attempt ≡ first + length (starts_of s.test_case_id before)
NumberGood first before _ = Unit {0}

abbrev pub NumbersGood : (first : ℕ) → List Envelope → Type 0
NumbersGood first es = Everywhere (λ before e after. NumberGood first before e) es

-- A run hook that starts is finished exactly once.
abbrev pub HookGood : List Envelope → Envelope → Type 0
HookGood es (envelope.TestRunHookStarted s) = times_finished s.id es ≡ 1
HookGood es _ = Unit {0}

abbrev pub HooksGood : List Envelope → Type 0
HooksGood es = Everywhere (λ before e after. HookGood es e) es

-- Each case has a final attempt that is at worst of a good status, each run hook's result is good, no source is refused and
-- there is no exception.
pub record AllWell (policy : Policy) (es : List Envelope) (f : TestRunFinished) : Type 0 where
  pub each_case : AllByRecursion (λ c. is_good_case policy es c ≡ true) (cases es)
  pub each_hook : AllByRecursion (λ status. is_good_status policy status ≡ true) (hook_statuses es)
  pub each_source : AllByRecursion IsAccepted (sources es)
  pub no_exception : f.has_exception ≡ false

-- Success is said exactly if all is well.
abbrev pub SuccessOf : Policy → List Envelope → Envelope → Type 0
SuccessOf policy es (envelope.TestRunFinished f) = (f.success ≡ true) ↔ AllWell policy es f
SuccessOf policy es _ = Unit {0}

abbrev pub SuccessGood : Policy → List Envelope → Type 0
SuccessGood policy es = Everywhere (λ before e after. SuccessOf policy es e) es

-- ---- the rest

-- two of the names are equal
abbrev pub has_same_names : List Name → Bool
has_same_names [] = false
has_same_names (n ∷ ns) = list_any (λ later. same_name later n) ns || has_same_names ns

abbrev pub StartsInside : List Envelope → Envelope → Type 0
StartsInside before (envelope.TestCaseStarted s) = has_run_started before ≡ true
StartsInside before (envelope.TestRunHookStarted s) = has_run_started before ≡ true
StartsInside before _ = Unit {0}

abbrev pub NothingAfter : Envelope → List Envelope → Type 0
NothingAfter (envelope.TestRunFinished f) after = list_any is_judged after ≡ false
NothingAfter _ after = Unit {0}

-- The run starts once, before each attempt and each run hook, and finishes once, after every other judged envelope.
pub record OrderGood (es : List Envelope) : Type 0 where
  pub one_start : count_by is_run_started es ≡ 1
  pub one_finish : count_by is_run_finished es ≡ 1
  pub starts_inside : Everywhere (λ before e after. StartsInside before e) es
  pub finish_last : Everywhere (λ before e after. NothingAfter e after) es

abbrev pub is_unknown : Status → Bool
is_unknown Unknown = true
is_unknown _ = false

-- the result of a step or of a run hook is unknown
abbrev pub has_unknown_result : Envelope → Bool
has_unknown_result (envelope.TestStepFinished s) = is_unknown s.test_step_result.status
has_unknown_result (envelope.TestRunHookFinished f) = is_unknown f.result.status
has_unknown_result _ = false

-- all that is asked of a good list whatever the settings: not the numbers of its attempts, nor what success it says
pub record Sound (es : List Envelope) : Type 0 where
  pub references : ReferencesGood es
  pub sources : SourcesGood es
  pub cases : CasesGood es
  pub attempts : AttemptsGood es
  pub retries : RetriesGood es
  pub distinct : has_same_names (flat_map declares es) ≡ false
  pub order : OrderGood es
  pub known : list_any has_unknown_result es ≡ false
  pub hooks : HooksGood es

-- a good list of envelopes, by the settings
pub record Good (settings : Settings) (es : List Envelope) : Type 0 where
  pub sound : Sound es
  pub numbers : NumbersGood settings.first_attempt es
  pub success : SuccessGood settings.policy es
