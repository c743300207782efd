-- What is kept of a stream's envelopes for its release.
use Rattle.std.specs.Prelude.{◌≡◌, ◌==◌, Bool, true, false, List, [], ◌∷◌, ◌++◌, if◌then◌else◌, filter, length, map}
use Rattle.std.specs.List.{flat_map}
use Rattle.std.specs.String.{string_bytes}
use Rattle.std.proofs.Common.{String}
use Rattle.std.specs.declared.alloc.Global.{Global}
use Rattle.indexmap.specs.IndexSet.{IndexSet}
use Rattle.cm_attempt.specs.Table.{has_text}
use Rattle.cm_envelope.specs.declared.envelope.Envelope.{Envelope}
use Rattle.cm_envelope.specs.declared.envelope.Envelope.TheVariants as envelope
use Rattle.cm_envelope.specs.declared.envelope.Status.{Status}
use Rattle.cm_envelope.specs.declared.envelope.Status.TheVariants as status
use Rattle.cm_envelope.specs.declared.envelope.TestCase.{TestCase}
use Rattle.cm_envelope.specs.declared.envelope.TestCaseStarted.{TestCaseStarted}
use Rattle.cm_envelope.specs.declared.envelope.TestStep.{TestStep}
use Rattle.cm_envelope.specs.declared.envelope.TestStepFinished.{TestStepFinished}
use Rattle.cm_envelope.specs.declared.pickle.Pickle.{Pickle}
use Rattle.cm_stream.specs.References.{cases, pickles, starts}
use Rattle.cm_stream.specs.Release.{is_unmatched}
use Rattle.cm_stream.specs.Texts.{Utf8}
use Rattle.cm_release.specs.declared.tally.CaseEntry.{CaseEntry}
use Rattle.cm_release.specs.declared.tally.FinishEntry.{FinishEntry}
use Rattle.cm_release.specs.declared.tally.Kept.{Kept}
use Rattle.cm_release.specs.declared.tally.PickleEntry.{PickleEntry}
use Rattle.cm_release.specs.declared.tally.StartEntry.{StartEntry}

-- ---- the entries

abbrev pub pickle_entry : Pickle → PickleEntry
pickle_entry p = record {
  id = p.id;
  tags = map (λ t. t.name) p.tags;
  is_stepless = length p.steps == 0;
}

abbrev pub unmatched_ids : List TestStep → List Utf8
unmatched_ids steps = map (λ t. t.id) (filter is_unmatched steps)

abbrev pub case_entry : TestCase → CaseEntry
case_entry c = record {
  id = c.id;
  pickle_id = c.pickle_id;
  unmatched = unmatched_ids c.test_steps;
}

abbrev pub start_entry : TestCaseStarted → StartEntry
start_entry s = record { id = s.id; case_id = s.test_case_id }

-- ---- what steps come to

-- the attempt of a step that was skipped
abbrev pub skip_of : TestStepFinished → Status → List Utf8
skip_of f status.Skipped = f.test_case_started_id ∷ []
skip_of f _ = []

abbrev pub skips_in : Envelope → List Utf8
skips_in (envelope.TestStepFinished f) = skip_of f f.test_step_result.status
skips_in _ = []

abbrev pub finish_entry : TestStepFinished → (is_pending : Bool) → FinishEntry
finish_entry f is_pending = record {
  attempt_id = f.test_case_started_id;
  step_id = f.test_step_id;
  is_pending = is_pending;
}

-- the end of a step that passed, or is pending, where its id is one of these
abbrev pub pass_among : List Utf8 → TestStepFinished → (is_pending : Bool) → List FinishEntry
pass_among ids f is_pending =
    if has_text f.test_step_id ids then finish_entry f is_pending ∷ [] else []

abbrev pub finish_among : List Utf8 → TestStepFinished → Status → List FinishEntry
finish_among ids f status.Passed = pass_among ids f false
finish_among ids f status.Pending = pass_among ids f true
finish_among ids f _ = []

-- the ids of the unmatched steps of cases
abbrev pub all_unmatched : List CaseEntry → List Utf8
all_unmatched cases = flat_map (λ c. c.unmatched) cases

-- the end of a step whose id is that of an unmatched step of one of these envelopes
abbrev pub finish_after : (before : List Envelope) → Envelope → List FinishEntry
finish_after before (envelope.TestStepFinished f) =
    finish_among (all_unmatched (map case_entry (cases before))) f f.test_step_result.status
finish_after before _ = []

-- those of envelopes that stand after others
abbrev pub finishes_from : (before : List Envelope) → List Envelope → List FinishEntry
finishes_from before [] = []
finishes_from before (e ∷ es) = finish_after before e ++ finishes_from (before ++ e ∷ []) es

-- ---- all that is kept

-- of no envelope
abbrev pub kept_nothing : Kept
kept_nothing = record { pickles = []; cases = []; starts = []; skips = []; finishes = [] }

-- of each pickle, case, start and end of a step what is counted
abbrev pub kept_of : List Envelope → Kept
kept_of es = record {
  pickles = map pickle_entry (pickles es);
  cases = map case_entry (cases es);
  starts = map start_entry (starts es);
  skips = flat_map skips_in es;
  finishes = finishes_from [] es;
}

module _ {S : Type 0} where
  -- the set has the ids of the unmatched steps
  abbrev pub HasUnmatched : IndexSet (String Global) S → List CaseEntry → Type 0
  HasUnmatched ids cases =
      (text : Utf8)
      → has_text text (map string_bytes ids.keys) ≡ has_text text (all_unmatched cases)

  -- it is what is kept of these envelopes, with that set
  abbrev pub Keeps : Kept → IndexSet (String Global) S → List Envelope → Type 0
  Keeps kept unmatched es = (kept ≡ kept_of es) × HasUnmatched unmatched kept.cases
