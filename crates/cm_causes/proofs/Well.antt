-- There is a cause exactly where not all is well.
use Rattle.std.proofs.Common.{◌≡◌, ◌∙◌, refl, sym, ap, subst, ℕ, Bool, true, false, not, List, [], ◌∷◌, ◌++◌, None, Some, ◌⊎◌, ⊎_elim, map}
use Rattle.std.specs.Prelude.{◌↔◌, find}
use Rattle.std.specs.List.{AllByRecursion, filter, list_any}
use Rattle.std.specs.Str.{bytes_eq}
use Rattle.std.proofs.lemmas.Bool.{cases_Bool, not-false}
use Rattle.std.proofs.lemmas.List.{map-append}
use Rattle.std.proofs.lemmas.List.Elements.{filter-append}
use Rattle.cm_attempt.specs.Table.{is_good_status}
use Rattle.cm_attempt.specs.declared.status.Policy.{Policy}
use Rattle.cm_attempt.specs.declared.status.Status.{Status}
use Rattle.cm_attempt.proofs.Growing.{all_weaker}
use Rattle.cm_envelope.specs.declared.envelope.Envelope.{Envelope}
use Rattle.cm_envelope.specs.declared.envelope.Envelope.TheVariants as envelope
use Rattle.cm_envelope.specs.declared.envelope.Source.{Source}
use Rattle.cm_envelope.specs.declared.envelope.TestRunFinished.{TestRunFinished}
use Rattle.cm_envelope.specs.declared.envelope.TestRunHookFinished.{TestRunHookFinished}
use Rattle.cm_envelope.specs.declared.envelope.TestRunHookStarted.{TestRunHookStarted}
use Rattle.cm_stream.specs.Good.{AllWell, IsAccepted}
use Rattle.cm_stream.specs.Readings.{Accepted, Refused, IsReading}
use Rattle.cm_stream.specs.References.{as_run_end, cases, hook_statuses, is_good_case, run_ends, run_hook_ends, run_hooks, says_success, sources}
use Rattle.cm_stream.specs.Statuses.{kept_status}
use Rattle.cm_stream.proofs.Found.{each_found, eq_back}
use Rattle.cm_stream.proofs.Lists.{all_here, any_here, find_none}
use Rattle.cm_stream.proofs.NoFault.{good_have_no_fault}
use Rattle.cm_stream.proofs.OnePass.{one_reading}
use Rattle.cm_stream.proofs.Refuted.{CutAt, cut_at}
use Rattle.cm_reasons.specs.Lines.{limited_text}
use Rattle.cm_reasons.specs.RunReasons.{AreRefusedLines, bad_end, bad_hook_line, end_statuses, hook_causes, line_of_refused}
use Rattle.cm_causes.specs.Causes.{case_causes, cause_of_case, exception_line}
use Rattle.cm_causes.specs.Laws.{AreKnown, GoodWithoutSuccessHasCause, NoCauseIsAllWell}
use Rattle.cm_causes.proofs.CauseLists.{all_pass, each_cut, gives_none, none_given, none_left}
use Rattle.cm_causes.proofs.Known.{faultless_known}
use Rattle.cm_causes.proofs.Shown.{both_empty, shown_empty}

-- ---- run hooks

-- what is found among what passes
none_passing : {X Y : Type 0} (q : Y → Bool) (g : X → Y) (p : X → Bool) (front : List X) (x : X) (back : List X) → p x ≡ true → find q (map g (filter p (front ++ x ∷ back))) ≡ None → q (g x) ≡ false
none_passing {X} {Y} q g p front x back passes none =
    let cut : map g (filter p (front ++ x ∷ back)) ≡ map g (filter p front) ++ g x ∷ map g (filter p back) =
    ap (map g) (filter-append p front (x ∷ back) ∙ ap (λ ys. filter p front ++ ys) (kept_first passes)) ∙ map-append g (filter p front) (x ∷ filter p back) in
    any_here q (map g (filter p front)) (g x) (map g (filter p back)) (ap (list_any q) (sym cut) ∙ find_none q (map g (filter p (front ++ x ∷ back))) none)
  where
    kept_first : p x ≡ true → filter p (x ∷ back) ≡ x ∷ filter p back
    kept_first h = rw h refl

never_found : {X Y : Type 0} (q : Y → Bool) (g : X → Y) (p : X → Bool) (xs : List X) → AllByRecursion (λ y. q y ≡ false) (map g xs) → find q (map g (filter p xs)) ≡ None
never_found q g p [] h = refl
never_found q g p (x ∷ xs) h =
    let later = never_found q g p xs h.1 in
    let passed_over : find q (g x ∷ map g (filter p xs)) ≡ find q (map g (filter p xs)) = rw h.0 refl in
    ⊎_elim (λ yes. let kept : filter p (x ∷ xs) ≡ x ∷ filter p xs = rw yes refl in ap (λ l. find q (map g l)) kept ∙ passed_over ∙ later) (λ no. rw no later) (cases_Bool (p x))

each_mapped : {X Y : Type 0} (P : Y → Type 0) (g : X → Y) (xs : List X) → AllByRecursion (λ x. P (g x)) xs → AllByRecursion P (map g xs)
each_mapped P g [] h = tt
each_mapped P g (x ∷ xs) h = (h.0, each_mapped P g xs h.1)

abbrev status_at : TestRunHookFinished → Status
status_at f = kept_status f.result.status

module _ (policy : Policy) (es : List Envelope) where
  abbrev fails : Status → Bool
  fails status = not (is_good_status policy status)

  good_end : AreKnown es → AllByRecursion (λ s. bad_end policy es s ≡ None) (run_hooks es) → (front : List TestRunHookFinished) (f : TestRunHookFinished) (back : List TestRunHookFinished) → run_hook_ends es ≡ front ++ f ∷ back
      → is_good_status policy (status_at f) ≡ true
  good_end known none front f back cut =
      let id = f.test_run_hook_started_id in
      let started : list_any (λ (s : TestRunHookStarted). bytes_eq id s.id) (run_hooks es) ≡ true =
      all_here (λ (x : TestRunHookFinished). list_any (λ (s : TestRunHookStarted). bytes_eq x.test_run_hook_started_id s.id) (run_hooks es) ≡ true) front f back
      (subst (AllByRecursion (λ (x : TestRunHookFinished). list_any (λ (s : TestRunHookStarted). bytes_eq x.test_run_hook_started_id s.id) (run_hooks es) ≡ true)) cut known.each_end) in
      let at : CutAt (λ (s : TestRunHookStarted). bytes_eq id s.id) (run_hooks es) = cut_at (λ (s : TestRunHookStarted). bytes_eq id s.id) (run_hooks es) started in
      let its : find fails (end_statuses at.here.id es) ≡ None =
      all_here (λ (s : TestRunHookStarted). bad_end policy es s ≡ None) at.front at.here at.back (subst (AllByRecursion (λ (s : TestRunHookStarted). bad_end policy es s ≡ None)) at.cut none) in
      let ends : find fails (map status_at (filter (λ (x : TestRunHookFinished). bytes_eq at.here.id x.test_run_hook_started_id) (front ++ f ∷ back))) ≡ None =
      ap (λ (xs : List TestRunHookFinished). find fails (map status_at (filter (λ (x : TestRunHookFinished). bytes_eq at.here.id x.test_run_hook_started_id) xs))) (sym cut) ∙ its in
      not-false (is_good_status policy (status_at f))
      (none_passing fails status_at (λ (x : TestRunHookFinished). bytes_eq at.here.id x.test_run_hook_started_id) front f back (eq_back at.here.id id ∙ at.passes) ends)

  good_hooks : AreKnown es → hook_causes policy es ≡ [] → AllByRecursion (λ status. is_good_status policy status ≡ true) (hook_statuses es)
  good_hooks known none =
      let each = none_given (λ (s : TestRunHookStarted). bad_hook_line s.hook_id) (bad_end policy es) (run_hooks es) none in
      each_mapped (λ (status : Status). is_good_status policy status ≡ true) status_at (run_hook_ends es)
      (each_cut (λ (f : TestRunHookFinished). is_good_status policy (status_at f) ≡ true) (run_hook_ends es) (good_end known each))

  no_hooks : AllByRecursion (λ status. is_good_status policy status ≡ true) (hook_statuses es) → hook_causes policy es ≡ []
  no_hooks good =
      let passes : AllByRecursion (λ (status : Status). fails status ≡ false) (hook_statuses es) = all_weaker (λ (status : Status). is_good_status policy status ≡ true) (λ (status : Status). fails status ≡ false) (λ status h. ap not h) (hook_statuses es) good in
      gives_none (λ (s : TestRunHookStarted). bad_hook_line s.hook_id) (bad_end policy es) (run_hooks es)
      (each_cut (λ (s : TestRunHookStarted). bad_end policy es s ≡ None) (run_hooks es)
      (λ front s back cut. never_found fails status_at (λ (x : TestRunHookFinished). bytes_eq s.id x.test_run_hook_started_id) (run_hook_ends es) passes))

-- ---- sources

not_both : (s : Source) → IsAccepted s → IsReading s.content Refused → ⊥
not_both s a r = let same : Accepted a.0 ≡ Refused = one_reading s.content (Accepted a.0) Refused a.1 r in cc

all_accepted : (ss : List Source) (lines : List (List ℕ)) → AllByRecursion (λ s. IsAccepted s ⊎ IsReading s.content Refused) ss → AreRefusedLines ss lines → lines ≡ [] → AllByRecursion IsAccepted ss
all_accepted [] lines known are none = tt
all_accepted (s ∷ ss) lines known are none =
    ⊎_elim
    (λ r. let same : line_of_refused s r.0.1 ∷ r.1 ≡ [] = sym r.2 ∙ none in let never : ⊥ = cc in absurd never)
    (λ a. (⊎_elim (λ yes. yes) (λ r. absurd (a.0 r)) known.0, all_accepted ss lines known.1 a.1 none)) are

no_lines : (ss : List Source) (lines : List (List ℕ)) → AllByRecursion IsAccepted ss → AreRefusedLines ss lines → lines ≡ []
no_lines [] lines accepted are = are
no_lines (s ∷ ss) lines accepted are = ⊎_elim (λ r. absurd (not_both s accepted.0 r.0)) (λ a. no_lines ss lines accepted.1 a.1) are

-- ---- all

no_exception : (b : Bool) → exception_line b ≡ [] → b ≡ false
no_exception true h = cc
no_exception false h = refl

pub no_cause : NoCauseIsAllWell
no_cause policy es f text known are = (well, none)
  where
    well : text ≡ [] → AllWell policy es f
    well h =
        let a = limited_text (case_causes policy es) in
        let b = limited_text (hook_causes policy es) in
        let c = limited_text are.refused in
        let three = both_empty (a ++ b ++ c) (exception_line f.has_exception) (sym are.all ∙ h) in
        let two = both_empty (a ++ b) c three.0 in
        let one = both_empty a b two.0 in
        record {
          each_case = none_left (cause_of_case es) (is_good_case policy es) (cases es) (shown_empty (case_causes policy es) one.0);
          each_hook = good_hooks policy es known (shown_empty (hook_causes policy es) one.1);
          each_source = all_accepted (sources es) are.refused known.each_source are.are_refused (shown_empty are.refused two.1);
          no_exception = no_exception f.has_exception three.1;
        }

    none : AllWell policy es f → text ≡ []
    none w =
        are.all
        ∙ (λ j. limited_text (all_pass (cause_of_case es) (is_good_case policy es) (cases es) w.each_case j)
        ++ limited_text (no_hooks policy es w.each_hook j)
        ++ limited_text (no_lines (sources es) are.refused w.each_source are.are_refused j)
        ++ exception_line (w.no_exception j))

-- ---- a good stream without success

end_is : (e : Envelope) (f : TestRunFinished) → as_run_end e ≡ Some f → e ≡ envelope.TestRunFinished f
end_is (envelope.TestRunFinished y) f h = cc
end_is _ f h = cc

pub good_has_cause : GoodWithoutSuccessHasCause
good_has_cause settings es f text good failed one are none =
    let known = faultless_known settings es (good_have_no_fault settings es good).lines in
    let well : AllWell settings.policy es f = (no_cause settings.policy es f text known are).0 none in
    let said : AllByRecursion (λ (x : TestRunFinished). x.success ≡ false) (run_ends es) = each_found as_run_end (λ (x : TestRunFinished). x.success ≡ false) es
    (λ front here back x cut is. ap says_success (sym (end_is here x is)) ∙ any_here says_success front here back (ap (list_any says_success) (sym cut) ∙ failed)) in
    let right : AllByRecursion (λ (x : TestRunFinished). (x.success ≡ true) ↔ AllWell settings.policy es x) (run_ends es) = each_found as_run_end (λ (x : TestRunFinished). (x.success ≡ true) ↔ AllWell settings.policy es x) es
    (λ front here back x cut is. good.success front (envelope.TestRunFinished x) back (cut ∙ ap (λ e. front ++ e ∷ back) (end_is here x is))) in
    let no_success : f.success ≡ false = (subst (AllByRecursion (λ (x : TestRunFinished). x.success ≡ false)) one said).0 in
    let success : f.success ≡ true = ((subst (AllByRecursion (λ (x : TestRunFinished). (x.success ≡ true) ↔ AllWell settings.policy es x)) one right).0).1 well in
    cc
