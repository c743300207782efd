-- A good list has no fault at the end of its run.
use Rattle.std.proofs.Common.{◌≡◌, ℕ, suc, ◌+◌, refl, sym, ap, ◌∙◌, List, [], ◌∷◌, ◌++◌, Option, Some, None, true, false, Bool, length, map, not, arith, append_assoc, append-nil, ◌&&◌}
use Rattle.std.specs.Prelude.{nat_lt, count_by}
use Rattle.std.specs.List.{list_any, list_all, filter, filter_map, flat_map}
use Rattle.std.specs.Option.{option_map_or}
use Rattle.std.specs.Str.{bytes_eq}
use Rattle.std.proofs.lemmas.List.Elements.{filter-append, filter_map-append}
use Rattle.gk_pickle.specs.Pickles.{pickles as compiled}
use Rattle.cm_stream.specs.Texts.{Utf8, same_list}
use Rattle.cm_stream.specs.Readings.{Reading, Accepted, Refused, OtherLanguage, TooLong}
use Rattle.cm_stream.specs.OnePass.{reads}
use Rattle.cm_stream.specs.Sources.{is_due}
use Rattle.cm_stream.specs.References.{as_source, as_document, as_pickle, as_case, as_start, as_run_hook_end, sources, cases, starts, hook_statuses, starts_of, documents_of, pickles_of, is_run_started, is_judged, has_run_started, move_of, moves, is_ended, retry_in, ends_of, status_in, statuses, ends_well, is_good_case, steps_of}
use Rattle.cm_attempt.specs.Calls.{StepStarted, StepFinished, Ended, all_moves, is_end, last_of}
use Rattle.cm_stream.specs.Good.{Good, Sound, MeetsSource}
use Rattle.cm_attempt.specs.declared.status.Policy.{Policy}
use Rattle.cm_attempt.specs.declared.status.Settings.{Settings}
use Rattle.cm_stream.specs.Checks.{lacks, same_flag}
use Rattle.cm_stream.specs.ByOnePass.{all_well, is_incomplete}
use Rattle.cm_envelope.specs.declared.envelope.Envelope.{Envelope}
use Rattle.cm_envelope.specs.declared.envelope.Envelope.TheVariants as envelope
use Rattle.cm_envelope.specs.declared.envelope.Source.{Source}
use Rattle.cm_envelope.specs.declared.envelope.TestCase.{TestCase}
use Rattle.cm_envelope.specs.declared.envelope.TestCaseStarted.{TestCaseStarted}
use Rattle.cm_envelope.specs.declared.envelope.TestRunFinished.{TestRunFinished}
use Rattle.cm_envelope.specs.declared.envelope.TestRunHookFinished.{TestRunHookFinished}
use Rattle.cm_stream.specs.Statuses.{kept_status}
use Rattle.cm_stream.proofs.Readings.{source_meets, success_by}
use Rattle.cm_stream.proofs.Lists.{and_true, none_any, all_true, or_false, none_counted, length-both}
use Rattle.cm_stream.proofs.Found.{each_found}
use Rattle.cm_stream.proofs.Declared.{source_is, start_is}
use Rattle.std.proofs.lemmas.List.Sums.{length-filter}

-- the line that ends the run, after which nothing is judged
pub record EndsRun (es before : List Envelope) (f : TestRunFinished) (after : List Envelope) : Type 0 where
  pub cut : es ≡ before ++ envelope.TestRunFinished f ∷ after
  pub none : list_any is_judged after ≡ false

-- nothing judged comes after it
pub unjudged_is : (e : Envelope) → is_judged e ≡ false → e ≡ envelope.Other
unjudged_is envelope.Other h = refl
unjudged_is _ h = cc

unjudged_nothing : {X : Type 0} (h : Envelope → Option X) → h envelope.Other ≡ None → (es : List Envelope) → list_any is_judged es ≡ false → filter_map h es ≡ []
unjudged_nothing h other [] none = refl
unjudged_nothing h other (e ∷ es) none =
    let k = or_false (is_judged e) (list_any is_judged es) none in
    rw (unjudged_is e k.0, other) (unjudged_nothing h other es k.1)

module _ (es before : List Envelope) (f : TestRunFinished) (after : List Envelope) (run : EndsRun es before f after) where
  pub till_end : {X : Type 0} (h : Envelope → Option X) → h envelope.Other ≡ None → h (envelope.TestRunFinished f) ≡ None → filter_map h es ≡ filter_map h before
  till_end h other here =
      let nothing : filter_map h (envelope.TestRunFinished f ∷ after) ≡ [] = rw here (unjudged_nothing h other after run.none) in
      ap (filter_map h) run.cut ∙ filter_map-append h before (envelope.TestRunFinished f ∷ after) ∙ ap (λ xs. filter_map h before ++ xs) nothing ∙ append-nil (filter_map h before)

  -- ---- OutsideRun, of the end

  pub end_inside : Sound es → not (has_run_started before) ≡ false
  end_inside good = go (has_run_started before) refl
    where
      unjudged_no_start : (xs : List Envelope) → list_any is_judged xs ≡ false → count_by is_run_started xs ≡ 0
      unjudged_no_start xs none = none_counted is_run_started xs (no_start xs none)
        where
          no_start : (xs : List Envelope) → list_any is_judged xs ≡ false → list_any is_run_started xs ≡ false
          no_start [] h = refl
          no_start (e ∷ xs) h =
              let k = or_false (is_judged e) (list_any is_judged xs) h in
              rw (unjudged_is e k.0, no_start xs k.1) refl

      go : (b : Bool) → has_run_started before ≡ b → not (has_run_started before) ≡ false
      go true e = ap not e
      go false e =
          let front = none_counted is_run_started before e in
          let back = unjudged_no_start after run.none in
          let kept : filter is_run_started es ≡ filter is_run_started before ++ filter is_run_started after = ap (filter is_run_started) run.cut ∙ filter-append is_run_started before (envelope.TestRunFinished f ∷ after) in
          let long : length (filter is_run_started es) ≡ length (filter is_run_started before) + length (filter is_run_started after) = ap length kept ∙ length-both (filter is_run_started before) (filter is_run_started after) in
          absurd (omega (arith, front, back, long, length-filter is_run_started es, length-filter is_run_started before, length-filter is_run_started after, good.order.one_start))

  -- ---- AttemptOpen

  has_end : (xs : List Utf8) → list_any is_end (all_moves xs) ≡ true
  has_end xs = go xs
    where
      go : (steps : List Utf8) → list_any is_end (flat_map (λ s. StepStarted s ∷ StepFinished s ∷ []) steps ++ Ended ∷ []) ≡ true
      go [] = refl
      go (s ∷ steps) = go steps

  pub none_open : Sound es → not (list_all (λ s. is_ended s.id before) (starts before)) ≡ false
  none_open good = ap not (all_true (λ s. is_ended s.id before) (starts before) (each_found as_start (λ (s : TestCaseStarted). is_ended s.id before ≡ true) before each))
    where
      each : (front : List Envelope) (here : Envelope) (back : List Envelope) (s : TestCaseStarted) → before ≡ front ++ here ∷ back → as_start here ≡ Some s → is_ended s.id before ≡ true
      each front here back s cut is =
          let start = start_is here s is in
          let its_cut : es ≡ front ++ envelope.TestCaseStarted s ∷ (back ++ envelope.TestRunFinished f ∷ after) =
          run.cut ∙ ap (λ xs. xs ++ envelope.TestRunFinished f ∷ after) cut ∙ append_assoc front (here ∷ back) (envelope.TestRunFinished f ∷ after) ∙ ap (λ x. front ++ x ∷ (back ++ envelope.TestRunFinished f ∷ after)) start in
          let goes : moves s.id es ≡ all_moves (steps_of s.test_case_id es) = good.attempts front (envelope.TestCaseStarted s) (back ++ envelope.TestRunFinished f ∷ after) its_cut in
          ap (list_any is_end) (sym (till_end (move_of s.id) refl refl) ∙ goes) ∙ has_end (steps_of s.test_case_id es)

  -- ---- SourceIncomplete

  pub same_length : {A B : Type 0} (same : A → B → Bool) (xs : List A) (ys : List B) → same_list same xs ys ≡ true → length xs ≡ length ys
  same_length same [] [] h = refl
  same_length same [] (y ∷ ys) h = cc
  same_length same (x ∷ xs) [] h = cc
  same_length same (x ∷ xs) (y ∷ ys) h = ap suc (same_length same xs ys (and_true (same x y) (same_list same xs ys) h).1)

  not_fewer : (m n : ℕ) → m ≡ n → nat_lt m n ≡ false
  not_fewer m n h = grind (arith, h)

  pub none_lacks : Sound es → list_any (is_incomplete before) (sources before) ≡ false
  none_lacks good = none_any (is_incomplete before) (sources before) (each_found as_source (λ (s : Source). is_incomplete before s ≡ false) before each)
    where
      go : (front back : List Envelope) (s : Source) → es ≡ front ++ envelope.Source s ∷ (back ++ envelope.TestRunFinished f ∷ after) → (r : Reading)
          → MeetsSource es front s (back ++ envelope.TestRunFinished f ∷ after) r → lacks before s.uri r ≡ false
      go front back s cut Refused h = refl
      go front back s cut OtherLanguage h = refl
      go front back s cut TooLong h = refl
      go front back s cut (Accepted d) h =
          let same_documents : documents_of s.uri es ≡ documents_of s.uri before = ap (filter (λ x. bytes_eq s.uri x.uri)) (till_end as_document refl refl) in
          let same_pickles : pickles_of s.uri es ≡ pickles_of s.uri before = ap (filter (λ x. bytes_eq s.uri x.uri)) (till_end as_pickle refl refl) in
          let parts : documents_of s.uri es ≡ documents_of s.uri front ++ documents_of s.uri (back ++ envelope.TestRunFinished f ∷ after) =
          ap (documents_of s.uri) cut ∙ ap (filter (λ x. bytes_eq s.uri x.uri)) (filter_map-append as_document front (envelope.Source s ∷ (back ++ envelope.TestRunFinished f ∷ after)))
          ∙ filter-append (λ x. bytes_eq s.uri x.uri) (filter_map as_document front) (filter_map as_document (back ++ envelope.TestRunFinished f ∷ after)) in
          let one : documents_of s.uri before ≡ h.document ∷ [] = sym same_documents ∙ parts ∙ ap (λ xs. xs ++ documents_of s.uri (back ++ envelope.TestRunFinished f ∷ after)) h.none_before ∙ h.one_after in
          let long : length (pickles_of s.uri before) ≡ length (compiled d) = ap length (sym same_pickles) ∙ same_length (is_due (h.document).ids) (pickles_of s.uri es) (compiled d) h.same_pickles in
          rw (one, not_fewer (length (pickles_of s.uri before)) (length (compiled d)) long) refl

      each : (front : List Envelope) (here : Envelope) (back : List Envelope) (s : Source) → before ≡ front ++ here ∷ back → as_source here ≡ Some s → is_incomplete before s ≡ false
      each front here back s cut is =
          let its_cut : es ≡ front ++ envelope.Source s ∷ (back ++ envelope.TestRunFinished f ∷ after) =
          run.cut ∙ ap (λ xs. xs ++ envelope.TestRunFinished f ∷ after) cut ∙ append_assoc front (here ∷ back) (envelope.TestRunFinished f ∷ after) ∙ ap (λ x. front ++ x ∷ (back ++ envelope.TestRunFinished f ∷ after)) (source_is here s is) in
          go front back s its_cut (reads s.content) (source_meets es front s (back ++ envelope.TestRunFinished f ∷ after) (good.sources front (envelope.Source s) (back ++ envelope.TestRunFinished f ∷ after) its_cut))

  -- ---- SuccessDiffers

  same_ends : (policy : Policy) (a : Utf8) → ends_well policy es a ≡ ends_well policy before a
  same_ends policy a =
      let ends : ends_of a es ≡ ends_of a before = till_end (retry_in a) refl refl in
      let all : statuses a es ≡ statuses a before = till_end (status_in a) refl refl in
      rw (ends, all) refl

  same_case : (policy : Policy) (c : TestCase) → is_good_case policy es c ≡ is_good_case policy before c
  same_case policy c =
      let all : starts_of c.id es ≡ starts_of c.id before = ap (filter (λ s. bytes_eq c.id s.test_case_id)) (till_end as_start refl refl) in
      rw all (at (last_of (starts_of c.id before)))
    where
      at : (o : Option TestCaseStarted) → option_map_or (λ s. ends_well policy es s.id) o false ≡ option_map_or (λ s. ends_well policy before s.id) o false
      at None = refl
      at (Some s) = same_ends policy s.id

  same_all : {X : Type 0} (p q : X → Bool) → ((x : X) → p x ≡ q x) → (xs : List X) → list_all p xs ≡ list_all q xs
  same_all p q h [] = refl
  same_all p q h (x ∷ xs) = rw (h x, same_all p q h xs) refl

  pub same_well : (policy : Policy) → all_well policy es ≡ all_well policy before
  same_well policy =
      let all : cases es ≡ cases before = till_end as_case refl refl in
      let every : sources es ≡ sources before = till_end as_source refl refl in
      let hooks : hook_statuses es ≡ hook_statuses before = ap (map (λ (h : TestRunHookFinished). kept_status h.result.status)) (till_end as_run_hook_end refl refl) in
      rw (all, every, hooks, same_all (is_good_case policy es) (is_good_case policy before) (same_case policy) (cases before)) refl

  same_flags : (a b : Bool) → a ≡ b → not (same_flag a b) ≡ false
  same_flags true b h = ap not (sym h)
  same_flags false b h = rw (← h) refl

  pub success_right : (settings : Settings) → Good settings es → not (same_flag f.success (all_well settings.policy before && not f.has_exception)) ≡ false
  success_right settings good = same_flags f.success (all_well settings.policy before && not f.has_exception) (success_by settings.policy es f (good.success before (envelope.TestRunFinished f) after run.cut) ∙ ap (λ b. b && not f.has_exception) (same_well settings.policy))
