-- What a good stream says of its own envelopes, where hooks and step definitions may be declared again.
use Rattle.std.proofs.Common.{◌≡◌, ◌≤◌, ◌+◌, ◌∙◌, ◌&&◌, ℕ, Bool, true, false, List, [], ◌∷◌, ◌++◌, Option, Some, None, refl, sym, ap, subst, map, append-nil, append_assoc, arith}
use Rattle.std.proofs.lemmas.Bool.{false≢true}
use Rattle.std.proofs.lemmas.List.Sums.{sum_by-cons}
use Rattle.std.specs.Prelude.{cond, find, if◌then◌else◌}
use Rattle.std.specs.List.{AllByRecursion, filter_map}
use Rattle.std.specs.Option.{option_map}
use Rattle.std.specs.Str.{bytes_eq}
use Rattle.cm_attempt.specs.declared.status.Settings.{Settings}
use Rattle.cm_envelope.specs.declared.envelope.Envelope.{Envelope}
use Rattle.cm_envelope.specs.declared.envelope.Envelope.TheVariants as envelope
use Rattle.cm_stream.specs.Redeclared.{is_redeclared, judged_after, judged_as, passed_over}
use Rattle.cm_stream.specs.RedeclaredLaws.{AreEnough, IsDeclared, NothingIsPassedOver, ReferencesDeclared, may_be_redeclared}
use Rattle.cm_stream.specs.References.{Name, SourceOf, DocumentOf, PickleNamed, PickleStep, Definition, HookNamed, Case, Step, Run, Attempt, RunHook}
use Rattle.cm_stream.specs.References.{as_start, attachment_names, case_of, declares_it, if_any, refers, starts, step_names, times_declared}
use Rattle.cm_stream.specs.Texts.{Utf8}

same_found : {X Y : Type 0} (h : X → Option Y) (x z : X) (xs zs : List X) → h x ≡ h z → filter_map h xs ≡ filter_map h zs → filter_map h (x ∷ xs) ≡ filter_map h (z ∷ zs)
same_found h x z xs zs here more = rw (here, more) refl

module _ (settings : Settings) where
  -- ---- one envelope

  -- an envelope that is declared again, or not
  abbrev either : Bool → Envelope → Envelope
  either again e = if again then passed_over else e

  -- an attempt starts where it is judged to
  same_start : (e : Envelope) (before : List Envelope) → as_start (judged_as settings before e) ≡ as_start e
  same_start (envelope.Hook h) before = go (is_redeclared before (envelope.Hook h) && settings.allows_redeclared)
    where
      go : (again : Bool) → as_start (either again (envelope.Hook h)) ≡ None
      go true = refl
      go false = refl
  same_start (envelope.StepDefinition d) before = go (is_redeclared before (envelope.StepDefinition d) && settings.allows_redeclared)
    where
      go : (again : Bool) → as_start (either again (envelope.StepDefinition d)) ≡ None
      go true = refl
      go false = refl
  same_start _ before = refl

  allowed : (again allows : Bool) → (again && allows) ≡ true → allows ≡ true
  allowed true allows h = h
  allowed false allows h = absurd (false≢true h)

  -- a hook that is passed over may be declared again
  no_hook : (name : Name) (id : Utf8) → may_be_redeclared settings name ≡ false → settings.allows_redeclared ≡ true → false ≡ declares_it name (envelope.Hook (record { id = id }))
  no_hook (HookNamed a) id none_may allows = absurd (false≢true (sym none_may ∙ allows))
  no_hook (SourceOf a) id none_may allows = refl
  no_hook (DocumentOf a) id none_may allows = refl
  no_hook (PickleNamed a) id none_may allows = refl
  no_hook (PickleStep p a) id none_may allows = refl
  no_hook (Definition a) id none_may allows = refl
  no_hook (Case a) id none_may allows = refl
  no_hook (Step c a) id none_may allows = refl
  no_hook (Run a) id none_may allows = refl
  no_hook (Attempt a) id none_may allows = refl
  no_hook (RunHook a) id none_may allows = refl

  no_definition : (name : Name) (id : Utf8) → may_be_redeclared settings name ≡ false → settings.allows_redeclared ≡ true → false ≡ declares_it name (envelope.StepDefinition (record { id = id }))
  no_definition (Definition a) id none_may allows = absurd (false≢true (sym none_may ∙ allows))
  no_definition (SourceOf a) id none_may allows = refl
  no_definition (DocumentOf a) id none_may allows = refl
  no_definition (PickleNamed a) id none_may allows = refl
  no_definition (PickleStep p a) id none_may allows = refl
  no_definition (HookNamed a) id none_may allows = refl
  no_definition (Case a) id none_may allows = refl
  no_definition (Step c a) id none_may allows = refl
  no_definition (Run a) id none_may allows = refl
  no_definition (Attempt a) id none_may allows = refl
  no_definition (RunHook a) id none_may allows = refl

  -- it declares what it is judged to declare, but for what may be declared again
  same_declared : (name : Name) → may_be_redeclared settings name ≡ false → (e : Envelope) (before : List Envelope) → declares_it name (judged_as settings before e) ≡ declares_it name e
  same_declared name none_may (envelope.Hook h) before = go (is_redeclared before (envelope.Hook h) && settings.allows_redeclared) (allowed (is_redeclared before (envelope.Hook h)) settings.allows_redeclared)
    where
      go : (again : Bool) → (again ≡ true → settings.allows_redeclared ≡ true) → declares_it name (either again (envelope.Hook h)) ≡ declares_it name (envelope.Hook h)
      go true allows = no_hook name h.id none_may (allows refl)
      go false allows = refl
  same_declared name none_may (envelope.StepDefinition d) before =
      go (is_redeclared before (envelope.StepDefinition d) && settings.allows_redeclared) (allowed (is_redeclared before (envelope.StepDefinition d)) settings.allows_redeclared)
    where
      go : (again : Bool) → (again ≡ true → settings.allows_redeclared ≡ true) → declares_it name (either again (envelope.StepDefinition d)) ≡ declares_it name (envelope.StepDefinition d)
      go true allows = no_definition name d.id none_may (allows refl)
      go false allows = refl
  same_declared name none_may _ before = refl

  -- it declares no more as it is judged
  no_more : (name : Name) (e : Envelope) (again : Bool) → cond (declares_it name (either again e)) 1 0 ≤ cond (declares_it name e) 1 0
  no_more name e true = omega arith
  no_more name e false = omega arith

  no_more_both : (m n a b c d : ℕ) → m ≡ a + b → n ≡ c + d → a ≤ c → b ≤ d → m ≤ n
  no_more_both m n a b c d e f h k = omega arith

  -- ---- lists of them

  same_starts : (es before : List Envelope) → starts (judged_after settings before es) ≡ starts es
  same_starts [] before = refl
  same_starts (e ∷ es) before =
      let said = judged_as settings before e in
      let later = judged_after settings (before ++ said ∷ []) es in
      same_found as_start said e later es (same_start e before) (same_starts es (before ++ said ∷ []))

  times_first : (name : Name) (e : Envelope) (es : List Envelope) → times_declared name (e ∷ es) ≡ cond (declares_it name e) 1 0 + times_declared name es
  times_first name e es = sum_by-cons (λ x. cond (declares_it name x) 1 0) e es

  same_times : (name : Name) → may_be_redeclared settings name ≡ false → (es before : List Envelope) → times_declared name (judged_after settings before es) ≡ times_declared name es
  same_times name none_may [] before = refl
  same_times name none_may (e ∷ es) before =
      let said = judged_as settings before e in
      let later = judged_after settings (before ++ said ∷ []) es in
      times_first name said later ∙ ap (λ (b : Bool). cond b 1 0 + times_declared name later) (same_declared name none_may e before)
      ∙ ap (λ (n : ℕ). cond (declares_it name e) 1 0 + n) (same_times name none_may es (before ++ said ∷ [])) ∙ sym (times_first name e es)

  most_times : (name : Name) (es before : List Envelope) → times_declared name (judged_after settings before es) ≤ times_declared name es
  most_times name [] before = omega arith
  most_times name (e ∷ es) before =
      let said = judged_as settings before e in
      let later = judged_after settings (before ++ said ∷ []) es in
      let one = no_more name e (is_redeclared before e && settings.allows_redeclared) in
      let more = most_times name es (before ++ said ∷ []) in
      no_more_both _ _ _ _ _ _ (times_first name said later) (times_first name e es) one more

  same_case : (a : Utf8) (es : List Envelope) → case_of a (judged_after settings [] es) ≡ case_of a es
  same_case a es = ap (λ ss. option_map (λ s. s.test_case_id) (find (λ s. bytes_eq a s.id) ss)) (same_starts es [])

  same_steps : (a step : Utf8) (es : List Envelope) → step_names (judged_after settings [] es) a step ≡ step_names es a step
  same_steps a step es = ap (λ (o : Option Utf8). map (λ c. Step c step) (if_any o)) (same_case a es)

  same_attachment : (es : List Envelope) (a step : Option Utf8) → attachment_names (judged_after settings [] es) a step ≡ attachment_names es a step
  same_attachment es None step = refl
  same_attachment es (Some a) None = refl
  same_attachment es (Some a) (Some step) = ap (λ names. Attempt a ∷ names ++ []) (same_steps a step es)

  -- an envelope refers to what it refers to after those that are judged
  same_refers : (es : List Envelope) (e : Envelope) → refers (judged_after settings [] es) e ≡ refers es e
  same_refers es (envelope.TestStepStarted s) = ap (λ names. Attempt s.test_case_started_id ∷ names) (same_steps s.test_case_started_id s.test_step_id es)
  same_refers es (envelope.TestStepFinished s) = ap (λ names. Attempt s.test_case_started_id ∷ names) (same_steps s.test_case_started_id s.test_step_id es)
  same_refers es (envelope.Attachment a) = same_attachment es a.test_case_started_id a.test_step_id
  same_refers es _ = refl

  -- what is judged before an envelope and after it
  cut_judged : (acc before : List Envelope) (e : Envelope) (after : List Envelope)
      → (let front = acc ++ judged_after settings acc before in judged_after settings acc (before ++ e ∷ after) ≡ judged_after settings acc before ++ judged_as settings front e ∷ judged_after settings (front ++ judged_as settings front e ∷ []) after)
  cut_judged acc [] e after = ap (λ (xs : List Envelope). judged_as settings xs e ∷ judged_after settings (xs ++ judged_as settings xs e ∷ []) after) (sym (append-nil acc))
  cut_judged acc (x ∷ before) e after =
      let said = judged_as settings acc x in
      let later = judged_after settings (acc ++ said ∷ []) before in
      ap (λ (xs : List Envelope). said ∷ xs)
      (cut_judged (acc ++ said ∷ []) before e after
      ∙ ap (λ (xs : List Envelope). later ++ judged_as settings xs e ∷ judged_after settings (xs ++ judged_as settings xs e ∷ []) after) (append_assoc acc (said ∷ []) later))

  -- a name that is declared once as it is judged
  declared : (before : List Envelope) (name : Name) → times_declared name (judged_after settings [] before) ≡ 1 → IsDeclared settings before name
  declared before name once = go (may_be_redeclared settings name) refl
    where
      go : (may : Bool) → may_be_redeclared settings name ≡ may → AreEnough may (times_declared name before)
      go true e = let most = most_times name before [] in omega (arith, once, most)
      go false e = sym (same_times name e before []) ∙ once

  declared_each : (before : List Envelope) (names : List Name) → AllByRecursion (λ name. times_declared name (judged_after settings [] before) ≡ 1) names → AllByRecursion (IsDeclared settings before) names
  declared_each before [] h = tt
  declared_each before (name ∷ names) h = (declared before name h.0, declared_each before names h.1)

  abbrev Once : List Envelope → Envelope → Type 0
  Once before e = AllByRecursion (λ name. times_declared name (judged_after settings [] before) ≡ 1) (refers (judged_after settings [] before) e)

  -- one that is passed over refers to nothing anyway
  referred : (before : List Envelope) (e : Envelope) → Once before (judged_as settings (judged_after settings [] before) e) → AllByRecursion (IsDeclared settings before) (refers before e)
  referred before (envelope.Hook h) once = tt
  referred before (envelope.StepDefinition d) once = tt
  referred before e once = declared_each before (refers before e) (subst (AllByRecursion (λ name. times_declared name (judged_after settings [] before) ≡ 1)) (same_refers before e) (as_it_is e once))
    where
      as_it_is : (x : Envelope) → Once before (judged_as settings (judged_after settings [] before) x) → Once before x
      as_it_is (envelope.Hook h) k = tt
      as_it_is (envelope.StepDefinition d) k = tt
      as_it_is _ k = k

pub references_declared : ReferencesDeclared
references_declared settings bytes counts success run before e after cut =
    let js = judged_after settings [] before in
    let said = judged_as settings js e in
    let whole : run.judged ≡ js ++ said ∷ judged_after settings (js ++ said ∷ []) after = run.read.judged ∙ ap (judged_after settings []) cut ∙ cut_judged settings [] before e after in
    referred settings before e (run.good.sound.references js said (judged_after settings (js ++ said ∷ []) after) whole)

-- ---- where nothing may be declared again

as_it_is : (again allows : Bool) (e : Envelope) → allows ≡ false → (if again && allows then passed_over else e) ≡ e
as_it_is true allows e none_may = rw none_may refl
as_it_is false allows e none_may = refl

all_as_they_are : (settings : Settings) (es before : List Envelope) → settings.allows_redeclared ≡ false → judged_after settings before es ≡ es
all_as_they_are settings [] before none_may = refl
all_as_they_are settings (e ∷ es) before none_may =
    let said = judged_as settings before e in
    let same : said ≡ e = as_it_is (is_redeclared before e) settings.allows_redeclared e none_may in
    ap (λ (x : Envelope). x ∷ judged_after settings (before ++ said ∷ []) es) same ∙ ap (λ (xs : List Envelope). e ∷ xs) (all_as_they_are settings es (before ++ said ∷ []) none_may)

pub nothing_is_passed_over : NothingIsPassedOver
nothing_is_passed_over settings es none_may = all_as_they_are settings es [] none_may
