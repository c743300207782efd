-- One more step that is due.
use Rattle.std.proofs.Common.{◌≡◌, ℕ, zero, suc, ◌+◌, ◌<◌, List, [], ◌∷◌, ◌++◌, Option, Some, None, IfSome, length, drop, get_or, refl, sym, ap, ◌∙◌, arith}
use Rattle.std.specs.Borrow.{Bor}
use Rattle.std.specs.Prelude.{is_some, ltb, option_map, slice_get}
use Rattle.std.proofs.lemmas.Bool.{ltb-true, ltb-false}
use Rattle.std.proofs.lemmas.List.{drop_more}
use Rattle.std.proofs.lemmas.Option.{slice_get-get_or, slice_get_past}
use Rattle.gk_pickle.proofs.Made.{next_made}
use Rattle.cm_envelope.specs.declared.pickle.PickleStep.{PickleStep}
use Rattle.cm_stream.specs.Sources.{DueStep}
use Rattle.cm_stream.specs.Texts.{Utf8}
use Rattle.cm_differs.specs.DuePickles.{due_pickle_step, due_pickle_steps}

-- the step at a place, where there is one
pub step_at : (beside : List PickleStep) (i : ℕ) (got : Option (Bor PickleStep)) → is_some got ≡ ltb i (length beside) → IfSome got (λ s. s.now ≡ get_or beside i s.now)
    → option_map (λ s. s.now) got ≡ slice_get beside i
step_at beside i None some at = sym (slice_get_past beside i (ltb-false i (length beside) (sym some)))
step_at beside i (Some s) some at = ap Some at ∙ sym (slice_get-get_or beside i s.now (ltb-true i (length beside) (sym some)))

-- the first step, and the others beside the others
one_due : (ids : List Utf8) (beside : List PickleStep) (d : DueStep) (more : List DueStep)
    → due_pickle_steps ids beside (d ∷ more) ≡ due_pickle_step ids (slice_get beside 0) d ∷ due_pickle_steps ids (drop 1 beside) more
one_due ids [] d more = refl
one_due ids (s ∷ beside) d more = refl

get_dropped : {X : Type 0} (xs : List X) (i : ℕ) → slice_get (drop i xs) 0 ≡ slice_get xs i
get_dropped xs zero = refl
get_dropped [] (suc i) = refl
get_dropped (x ∷ xs) (suc i) = get_dropped xs i

drop_next : {X : Type 0} (xs : List X) (i : ℕ) → drop 1 (drop i xs) ≡ drop (i + 1) xs
drop_next xs zero = refl
drop_next [] (suc i) = let e : suc i + 1 ≡ suc (i + 1) = omega arith in rw e refl
drop_next (x ∷ xs) (suc i) = let e : suc i + 1 ≡ suc (i + 1) = omega arith in rw e (drop_next xs i)

pub one_step : (ids : List Utf8) (beside : List PickleStep) (due : List DueStep) (i : ℕ) (d : DueStep) (steps new : List PickleStep) (s : PickleStep) (all : List PickleStep)
    → new ≡ steps ++ s ∷ [] → s ≡ due_pickle_step ids (slice_get beside i) d → i < length due → d ≡ get_or due i d
    → steps ++ due_pickle_steps ids (drop i beside) (drop i due) ≡ all → new ++ due_pickle_steps ids (drop (i + 1) beside) (drop (i + 1) due) ≡ all
one_step ids beside due i d steps new s all n is l e h =
    let rest : List PickleStep = due_pickle_steps ids (drop (i + 1) beside) (drop (i + 1) due) in
    next_made steps new (due_pickle_steps ids (drop i beside) (drop i due)) rest all s n
    (ap (due_pickle_steps ids (drop i beside)) (drop_more due i d l ∙ ap (λ y. y ∷ drop (i + 1) due) (sym e)) ∙ one_due ids (drop i beside) d (drop (i + 1) due)
    ∙ ap (λ o. due_pickle_step ids o d ∷ due_pickle_steps ids (drop 1 (drop i beside)) (drop (i + 1) due)) (get_dropped beside i)
    ∙ ap (λ b. due_pickle_step ids (slice_get beside i) d ∷ due_pickle_steps ids b (drop (i + 1) due)) (drop_next beside i) ∙ ap (λ x. x ∷ rest) (sym is)) h
