-- What a strict gate over feature files says of their scenarios.
use Rattle.std.proofs.Common.{◌≡◌, ◌∙◌, ◌⊎◌, ◌∷◌, ◌<◌, [], ℕ, zero, suc, List, Option, Some, None, Bool, true, false, IfSome, inl, inr, refl, sym, subst, arith, length, slice_get, slice_index_or}
use Rattle.std.specs.List.{AllByRecursion}
use Rattle.cm_attempt.specs.declared.status.Policy.{Policy}
use Rattle.cm_attempt.specs.declared.status.Policy.TheVariants.{Strict}
use Rattle.cm_attempt.specs.declared.status.Settings.{Settings}
use Rattle.cm_envelope.specs.Device.{Input}
use Rattle.cm_envelope.specs.declared.envelope.Envelope.{Envelope}
use Rattle.cm_ran.specs.RunAt.{ScenarioRanAt}
use Rattle.cm_stream.specs.Good.{Everywhere}
use Rattle.cm_stream.specs.Release.{Conditions}
use Rattle.cm_stream.specs.ReleasedRuns.{PicklePassed, StepMatched, may_be_left_out}
use Rattle.cm_stream.specs.Sources.{DuePickle}
use Rattle.cm_stream.specs.Texts.{Utf8}
use Rattle.cm_stream.proofs.ReleasedScenarios.{released_steps_matched, strictly_ran}
use Rattle.files.specs.Openings.{Opening}
use Rattle.gk_pickle.specs.Pickles.{pickles as compiled}
use Rattle.ck_command_line.specs.CommandLine.{is_input}
use Rattle.ck_commands.specs.Asked.{EachReleasedAs, IsCovered, RanInOne, ReleasedBy, runs_read}
use Rattle.ck_commands.specs.FeatureFiles.{FeatureFile}
use Rattle.ck_commands.specs.Judged.{IsReleasedAs, ReleasedAs}
use Rattle.ck_commands.specs.Laws.{HasPassed, FeaturesPassed, IsStrict, PassedInOne}

-- a run and those after it
parts_of : (standard : Bool) (R : Input → Input → Type 0) (P : List Opening → Input → Type 0) (name : Utf8) (noted : List Opening) (i : Input) → ReleasedBy standard R P name noted i
    → ((a : Input) × (b : Input) × R a b) × ((rest : List Opening) × (k : Input) × P rest k)
parts_of true R P name noted i h = ((i, h.0, h.1), (noted, h.0, h.2))
parts_of false R P name noted i h = ((_, h.0, h.3), (h.1, i, h.4))

module _ (s : Settings) (asked : Conditions) where
  abbrev IsOfRun : List Envelope → Type 0
  IsOfRun es = (bytes : List ℕ) × IsReleasedAs s asked es bytes

  each_of_run : (names : List Utf8) (streams : List (List Envelope)) (noted : List Opening) (i j : Input) → EachReleasedAs s asked names streams noted i j → AllByRecursion IsOfRun streams
  each_of_run [] [] noted i j h = tt
  each_of_run [] (es ∷ streams) noted i j h = absurd h
  each_of_run (name ∷ names) [] noted i j h = absurd h
  each_of_run (name ∷ names) (es ∷ streams) noted i j h =
      let parts = parts_of (is_input name) (ReleasedAs s asked es) (λ rest k. EachReleasedAs s asked names streams rest k j) name noted i h in
      let w = parts.0.2 in
      ((w.0, w.3), each_of_run names streams parts.1.0 parts.1.1 j parts.1.2)

  is_of_run : (streams : List (List Envelope)) (k : ℕ) (es : List Envelope) → AllByRecursion IsOfRun streams → k < length streams → slice_index_or streams k es ≡ es → IsOfRun es
  is_of_run [] k es all less is = absurd (omega arith)
  is_of_run (x ∷ xs) zero es all less is = subst IsOfRun is all.0
  is_of_run (x ∷ xs) (suc k) es all less is = is_of_run xs k es all.1 (omega arith) is

  module _ (strict : IsStrict s asked) where
    passed : (es : List Envelope) (text : Utf8) (place : ℕ) → IsOfRun es → (at : ScenarioRanAt s.policy es text place) → PicklePassed es at.pickle × Everywhere (λ before e after. StepMatched s.policy es e) es
    passed es text place (bytes, (counts, found, r, same)) at =
        let Passes : List Envelope → Type 0 = λ x. (a : ScenarioRanAt s.policy x text place) → PicklePassed x a.pickle × Everywhere (λ before e after. StepMatched s.policy x e) x in
        let here : Passes r.judged = λ a. (
          strictly_ran s asked bytes counts found r strict.policy strict.no_retries strict.no_skips strict.no_stepless a.pickle a.ran,
          released_steps_matched s asked bytes counts found r strict.no_undefined,
        ) in
        subst Passes same here at

    never_left_out : (due : DuePickle) → may_be_left_out asked due ≡ true → ⊥
    never_left_out due left = let no : false ≡ true = sym (rw (strict.none_unrun, strict.no_tags) refl) ∙ left in cc

    in_one : (policy : Policy) → policy ≡ s.policy → policy ≡ Strict → (streams : List (List Envelope)) (text : Utf8) (place : ℕ) → AllByRecursion IsOfRun streams → RanInOne policy streams text place → PassedInOne streams text place
    in_one policy same is streams text place all ran =
        let of_run = is_of_run streams ran.is_one.0 ran.es all ran.is_one.1 ran.is_one.2 in
        let Told : Policy → Type 0 = λ p. ScenarioRanAt p ran.es text place → (a : ScenarioRanAt p ran.es text place) × PicklePassed ran.es a.pickle × Everywhere (λ before e after. StepMatched p ran.es e) ran.es in
        let by_settings : Told s.policy = λ a. let p = passed ran.es text place of_run a in (a, p.0, p.1) in
        let told : Told Strict = subst Told (sym same ∙ is) by_settings in
        let t = told (subst (λ (p : Policy). ScenarioRanAt p ran.es text place) is ran.ran) in
        record { es = ran.es; is_one = ran.is_one; ran = t.0; passed = t.1; matched = t.2 }

    at_place : (o : Option DuePickle) (due : DuePickle) (P Q : Type 0) → o ≡ Some due → IfSome o (λ d. P ⊎ (may_be_left_out asked d ≡ true)) → (P → Q) → Q
    at_place None due P Q is h f = cc
    at_place (Some d) due P Q is (inl p) f = f p
    at_place (Some d) due P Q is (inr left) f = absurd (never_left_out d left)

    some_at : (ps : List DuePickle) (place : ℕ) → place < length ps → (due : DuePickle) × (slice_get ps place ≡ Some due)
    some_at [] place less = absurd (omega arith)
    some_at (p ∷ ps) zero less = (p, refl)
    some_at (p ∷ ps) (suc n) less = some_at ps n (omega arith)

    file_passed : (streams : List (List Envelope)) (f : FeatureFile) → AllByRecursion IsOfRun streams → IsCovered asked s.policy streams f → HasPassed streams f
    file_passed streams f all h = record {
      text = h.text;
      is_text = h.is_text;
      document = h.document;
      accepted = h.accepted;
      each = λ place less.
          let due = some_at (compiled h.document) place less in
          at_place (slice_get (compiled h.document) place) due.0 (RanInOne s.policy streams h.text place) (PassedInOne streams h.text place) due.1 (h.each place) (in_one s.policy refl strict.policy streams h.text place all);
    }

    files_passed : (streams : List (List Envelope)) (fs : List FeatureFile) → AllByRecursion IsOfRun streams → AllByRecursion (IsCovered asked s.policy streams) fs → AllByRecursion (HasPassed streams) fs
    files_passed streams [] all h = tt
    files_passed streams (f ∷ fs) all h = (file_passed streams f all h.0, files_passed streams fs all h.1)

pub features_passed : FeaturesPassed
features_passed g old new seen later i j r strict =
    files_passed g.settings g.asked strict r.streams r.files (each_of_run g.settings g.asked (runs_read g.runs) r.streams r.noted i j r.runs) r.each
