-- The first unknown reference by what is kept of lines without a fault is the one over all of them.
use Rattle.std.proofs.Common.{ℕ, ◌≡◌, ◌∙◌, refl, sym, ap, Bool, true, false, not, ◌||◌, List, [], ◌∷◌, ◌++◌, append-nil, map, Option, Some, None}
use Rattle.std.specs.Prelude.{find, if◌then◌else◌, is_some, option_map}
use Rattle.std.specs.List.{flat_map, AllByRecursion, list_any}
use Rattle.std.specs.Option.{option_map_or}
use Rattle.std.specs.Str.{bytes_eq}
use Rattle.cm_attempt.specs.Table.{AttemptRow, Table, find_attempt, find_case, has_step, has_text, steps_of}
use Rattle.cm_attempt.proofs.Accepted.{tracked}
use Rattle.cm_attempt.proofs.Tracked.{CaseIs, known, undeclared}
use Rattle.cm_attempt.specs.declared.status.Settings.{Settings}
use Rattle.cm_envelope.specs.declared.envelope.Envelope.{Envelope}
use Rattle.cm_envelope.specs.declared.envelope.Envelope.TheVariants as envelope
use Rattle.cm_envelope.specs.declared.envelope.TestCaseStarted.{TestCaseStarted}
use Rattle.cm_envelope.specs.declared.envelope.TestStep.{TestStep}
use Rattle.cm_state.specs.ByOnePass.{summary_of_lines}
use Rattle.cm_state.specs.Summary.{Summary}
use Rattle.cm_state.proofs.StepTests.{step_declared}
use Rattle.cm_state.proofs.Tests.{attempt_declared, definition_declared, document_declared, hook_declared, pickle_declared, run_declared, run_hook_declared, source_declared, unknown}
use Rattle.cm_stream.specs.ByOnePass.{IsFaultless}
use Rattle.cm_stream.specs.Calls.{calls_of}
use Rattle.cm_stream.specs.Record.{table_of_envelopes}
use Rattle.cm_stream.specs.References.{Attempt, Case, Definition, DocumentOf, HookNamed, Name, PickleNamed, PickleStep, Run, RunHook, SourceOf, Step, as_case, attachment_names, find_case as case_in, if_any, refers, starts, step_names, test_step_names}
use Rattle.cm_attempt.specs.Calls as call
use Rattle.cm_stream.specs.Texts.{Utf8}
use Rattle.cm_stream.proofs.CallChecks.{distinct_cases, step_asked}
use Rattle.cm_stream.proofs.CallWords.{some_told}
use Rattle.cm_stream.proofs.Declared.{declares_case, is_of, known as times_known}
use Rattle.cm_stream.proofs.Lists.{or_no}
use Rattle.cm_stream.proofs.Passing.{AllPass, plain_passes}
use Rattle.cm_stream.proofs.TableSteps.{AreAccepted, none_is_refused}
use Rattle.cm_stream.proofs.TableWords.{attempt_told, step_told}
use Rattle.cm_fault_reasons.specs.Unknown.{ToldName, first_unknown, told_name}
use Rattle.cm_fault_reasons.specs.UnknownKept.{attachment_names_by, first_unknown_by, knows, place_names, unknown_among}

module _ (first : ℕ) (es : List Envelope) (pass : AllPass es) (accepted : AreAccepted first es) where
  abbrev now : Summary
  now = summary_of_lines first es

  -- what is kept declares the name exactly if one of the lines does
  abbrev IsSame : Name → Type 0
  IsSame name = not (knows now name) ≡ unknown es name

  told_over : List Name → Option ToldName
  told_over names = option_map told_name (find (unknown es) names)

  same_told : (names : List Name) → AllByRecursion IsSame names → unknown_among now names ≡ option_map told_name (find (unknown es) names)
  same_told [] h = refl
  same_told (n ∷ names) h = go (unknown es n) h.0 (same_told names h.1)
    where
      go : (b : Bool) → not (knows now n) ≡ b → unknown_among now names ≡ option_map told_name (find (unknown es) names)
          → option_map told_name (if not (knows now n) then Some n else find (λ name. not (knows now name)) names) ≡ option_map told_name (if b then Some n else find (unknown es) names)
      go true e rec = rw e refl
      go false e rec = rw e rec

  all_both : (xs ys : List Name) → AllByRecursion IsSame xs → AllByRecursion IsSame ys → AllByRecursion IsSame (xs ++ ys)
  all_both [] ys h k = k
  all_both (x ∷ xs) ys h k = (h.0, all_both xs ys h.1 k)

  all_of : {X : Type 0} (f : X → Name) → ((x : X) → IsSame (f x)) → (xs : List X) → AllByRecursion IsSame (map f xs)
  all_of f h [] = tt
  all_of f h (x ∷ xs) = (h x, all_of f h xs)

  all_flat : {X : Type 0} (f : X → List Name) → ((x : X) → AllByRecursion IsSame (f x)) → (xs : List X) → AllByRecursion IsSame (flat_map f xs)
  all_flat f h [] = tt
  all_flat f h (x ∷ xs) = all_both (f x) (flat_map f xs) (h x) (all_flat f h xs)

  -- ---- names

  of_run : (id : Utf8) → IsSame (Run id)
  of_run id = sym (run_declared es pass id).unknown

  of_hook : (id : Utf8) → IsSame (HookNamed id)
  of_hook id = sym (hook_declared id es).unknown

  of_definition : (id : Utf8) → IsSame (Definition id)
  of_definition id = sym (definition_declared id es).unknown

  of_step : (pickle id : Utf8) → IsSame (PickleStep pickle id)
  of_step pickle id = sym (step_declared first es pass pickle id).unknown

  of_attempt : (id : Utf8) → IsSame (Attempt id)
  of_attempt id = sym (attempt_declared id first es accepted).unknown

  case_by_row : (t : Table) (id : Utf8) → CaseIs (calls_of es) t id → is_some (find_case t id) ≡ is_some (call.declared_case id (calls_of es))
  case_by_row t id (undeclared n u) = rw (n, u.no_case) refl
  case_by_row t id (known row f k) = rw (f, k.is_declared) refl

  pub case_known : (id : Utf8) → is_some (find_case (table_of_envelopes first es) id) ≡ is_some (case_in id es)
  case_known id = case_by_row (table_of_envelopes first es) id ((tracked first (calls_of es) (table_of_envelopes first es) accepted).of_cases id) ∙ some_told id es

  of_case : (id : Utf8) → IsSame (Case id)
  of_case id =
      ap not (case_known id)
      ∙ sym (times_known (Case id) as_case (λ c. bytes_eq id c.id) (declares_case id) es).0

  of_test_step : (pickle : Utf8) (t : TestStep) → AllByRecursion IsSame (test_step_names pickle t)
  of_test_step pickle t =
      let hooks = all_of HookNamed of_hook (if_any t.hook_id) in
      let steps = all_of (PickleStep pickle) (of_step pickle) (if_any t.pickle_step_id) in
      let definitions = all_of Definition of_definition t.step_definition_ids in
      all_both (map HookNamed (if_any t.hook_id) ++ map (PickleStep pickle) (if_any t.pickle_step_id)) (map Definition t.step_definition_ids)
      (all_both (map HookNamed (if_any t.hook_id)) (map (PickleStep pickle) (if_any t.pickle_step_id)) hooks steps) definitions

  -- ---- an attempt and a step

  place_same : (a step : Utf8) → unknown_among now (place_names now a step) ≡ option_map told_name (find (unknown es) (Attempt a ∷ step_names es a step))
  place_same a step = go (find (is_of a) (starts es)) refl (find_attempt now.table a) refl
    where
      Same : Type 0
      Same = unknown_among now (place_names now a step) ≡ option_map told_name (find (unknown es) (Attempt a ∷ step_names es a step))

      pick : (b c : Bool) → c ≡ not b → (m n : Name) → told_name m ≡ told_name n → option_map told_name (if not b then Some m else None) ≡ option_map told_name (if c then Some n else None)
      pick true c e m n same = rw e refl
      pick false c e m n same = rw e (ap (λ (t : ToldName). Some t) same)

      both : (t : TestCaseStarted) (row : AttemptRow) → find (is_of a) (starts es) ≡ Some t → find_attempt now.table a ≡ Some row → Same
      both t row e f =
          let known_here : unknown es (Attempt a) ≡ false = sym (of_attempt a) ∙ ap (λ (o : Option AttemptRow). not (is_some o)) f in
          let front : list_any (unknown es) (Attempt a ∷ step_names es a step) ≡ (unknown es (Step t.test_case_id step) || false) = rw (known_here, e) refl in
          let has : has_step now.table a step ≡ has_text step (steps_of now.table row.case_id) = ap (λ (o : Option AttemptRow). option_map_or (λ r. has_text step (steps_of now.table r.case_id)) o false) f in
          let asked : unknown es (Step t.test_case_id step) ≡ not (has_text step (steps_of now.table row.case_id)) =
          sym (or_no (unknown es (Step t.test_case_id step))) ∙ sym front ∙ step_asked es (distinct_cases first es (table_of_envelopes first es) accepted) a step
          ∙ ap not (sym (step_told first es accepted a step) ∙ has) in
          rw (f, known_here, e) (pick (has_text step (steps_of now.table row.case_id)) (unknown es (Step t.test_case_id step)) asked (Step row.case_id step) (Step t.test_case_id step) refl)

      go : (o : Option TestCaseStarted) → find (is_of a) (starts es) ≡ o → (p : Option AttemptRow) → find_attempt now.table a ≡ p → Same
      go None e None f =
          let here : unknown es (Attempt a) ≡ true = sym (of_attempt a) ∙ ap (λ (o : Option AttemptRow). not (is_some o)) f in
          rw (f, here) refl
      go None e (Some row) f = let no : true ≡ false = sym (ap is_some f) ∙ attempt_told first es accepted a ∙ ap is_some e in cc
      go (Some t) e None f = let no : false ≡ true = sym (ap is_some f) ∙ attempt_told first es accepted a ∙ ap is_some e in cc
      go (Some t) e (Some row) f = both t row e f

  -- ---- each envelope

  of_source : (uri : Utf8) → IsSame (SourceOf uri)
  of_source uri = sym (source_declared uri es).unknown

  of_document : (uri : Utf8) → IsSame (DocumentOf uri)
  of_document uri = sym (document_declared uri es).unknown

  of_pickle : (id : Utf8) → IsSame (PickleNamed id)
  of_pickle id = sym (pickle_declared id es).unknown

  of_run_hook : (id : Utf8) → IsSame (RunHook id)
  of_run_hook id = sym (run_hook_declared id es).unknown

  runs_of : (o : Option Utf8) → AllByRecursion IsSame (map Run (if_any o))
  runs_of o = all_of Run of_run (if_any o)

  attachment_same : (a step : Option Utf8) → unknown_among now (attachment_names_by now a step) ≡ option_map told_name (find (unknown es) (attachment_names es a step))
  attachment_same None step = refl
  attachment_same (Some a) None = same_told (Attempt a ∷ []) (of_attempt a, tt)
  attachment_same (Some a) (Some step) = place_same a step ∙ ap (λ (names : List Name). option_map told_name (find (unknown es) (Attempt a ∷ names))) (sym (append-nil (step_names es a step)))

  told_same : (e : Envelope) → first_unknown_by now e ≡ first_unknown es e
  told_same (envelope.GherkinDocument d) = same_told (SourceOf d.uri ∷ []) (of_source d.uri, tt)
  told_same (envelope.ParseError p) = same_told (SourceOf p.source.uri ∷ []) (of_source p.source.uri, tt)
  told_same (envelope.Pickle p) = same_told (SourceOf p.uri ∷ DocumentOf p.uri ∷ []) (of_source p.uri, (of_document p.uri, tt))
  told_same (envelope.TestCase c) =
      same_told (refers es (envelope.TestCase c))
      (all_both (map Run (if_any c.test_run_started_id)) (PickleNamed c.pickle_id ∷ flat_map (test_step_names c.pickle_id) c.test_steps) (runs_of c.test_run_started_id)
      (of_pickle c.pickle_id, all_flat (test_step_names c.pickle_id) (of_test_step c.pickle_id) c.test_steps))
  told_same (envelope.TestCaseStarted x) = same_told (Case x.test_case_id ∷ []) (of_case x.test_case_id, tt)
  told_same (envelope.TestStepStarted x) = place_same x.test_case_started_id x.test_step_id
  told_same (envelope.TestStepFinished x) = place_same x.test_case_started_id x.test_step_id
  told_same (envelope.TestCaseFinished f) = same_told (Attempt f.test_case_started_id ∷ []) (of_attempt f.test_case_started_id, tt)
  told_same (envelope.TestRunFinished f) = same_told (map Run (if_any f.test_run_started_id)) (runs_of f.test_run_started_id)
  told_same (envelope.TestRunHookStarted x) =
      same_told (map Run (if_any x.test_run_started_id) ++ HookNamed x.hook_id ∷ []) (all_both (map Run (if_any x.test_run_started_id)) (HookNamed x.hook_id ∷ []) (runs_of x.test_run_started_id) (of_hook x.hook_id, tt))
  told_same (envelope.TestRunHookFinished f) = same_told (RunHook f.test_run_hook_started_id ∷ []) (of_run_hook f.test_run_hook_started_id, tt)
  told_same (envelope.Attachment a) = attachment_same a.test_case_started_id a.test_step_id
  told_same _ = refl

pub unknown_same : (settings : Settings) (es : List Envelope) → IsFaultless settings es → (e : Envelope) → first_unknown_by (summary_of_lines settings.first_attempt es) e ≡ first_unknown es e
unknown_same settings es none e = told_same settings.first_attempt es (plain_passes settings es none) (none_is_refused settings es none) e
