-- Who declares a test step.
use Rattle.std.proofs.Common.{◌≡◌, refl, sym, ap, ◌∙◌, List, [], ◌∷◌, Some, None, true, false, Bool, not, ◌&&◌, ◌||◌, ◌==◌, map}
use Rattle.std.specs.Prelude.{nat_lt, find, is_some}
use Rattle.std.specs.List.{list_any}
use Rattle.std.specs.Option.{option_map_or}
use Rattle.std.specs.Str.{bytes_eq}
use Rattle.cm_attempt.specs.Table.{has_text}
use Rattle.cm_stream.specs.Texts.{Utf8}
use Rattle.cm_stream.specs.References.{PickleStep, Step, Run, same_name, declares_it, times_declared, if_any, as_case, cases, find_case}
use Rattle.cm_envelope.specs.declared.envelope.Envelope.{Envelope}
use Rattle.cm_envelope.specs.declared.envelope.Envelope.TheVariants as envelope
use Rattle.cm_envelope.specs.declared.pickle.PickleStep as pickle_step
use Rattle.cm_envelope.specs.declared.envelope.TestCase.{TestCase}
use Rattle.cm_envelope.specs.declared.envelope.TestStep.{TestStep}
use Rattle.cm_stream.proofs.Lists.{or_false, or_no, found_any}
use Rattle.cm_stream.proofs.Declared.{none_of, known, step_ids}
use Rattle.cm_stream.proofs.OneRow.{OnlyOne}

-- the case has this id and this step
abbrev pub has_step_of : Utf8 → Utf8 → TestCase → Bool
has_step_of case step c = bytes_eq case c.id && has_text step (step_ids c)

pub out_of_or : (b x y : Bool) → ((b && x) || (b && y)) ≡ (b && (x || y))
out_of_or true x y = refl
out_of_or false x y = refl

pub never : (b : Bool) → (b && false) ≡ false
never true = refl
never false = refl

among : (case step id : Utf8) (ss : List TestStep) → list_any (same_name (Step case step)) (map (λ s. Step id s.id) ss) ≡ (bytes_eq case id && has_text step (map (λ s. s.id) ss))
among case step id [] = sym (never (bytes_eq case id))
among case step id (s ∷ ss) = rw (among case step id ss) (out_of_or (bytes_eq case id) (bytes_eq step s.id) (has_text step (map (λ t. t.id) ss)))

pub declares_step : (case step : Utf8) (e : Envelope) → declares_it (Step case step) e ≡ option_map_or (has_step_of case step) (as_case e) false
declares_step case step (envelope.Pickle p) = none_of (Step case step) (λ (s : pickle_step.PickleStep). PickleStep p.id s.id) p.steps (λ s. refl)
declares_step case step (envelope.TestCase c) = among case step c.id c.test_steps
declares_step case step (envelope.TestRunStarted r) = none_of (Step case step) Run (if_any r.id) (λ s. refl)
declares_step case step _ = refl

-- ---- among cases of which one has the id

pub both_none : {X : Type 0} (p q : X → Bool) (xs : List X) → list_any p xs ≡ false → list_any (λ x. p x && q x) xs ≡ false
both_none p q [] h = refl
both_none p q (x ∷ xs) h =
    let k = or_false (p x) (list_any p xs) h in
    rw (k.0, both_none p q xs k.1) refl

pub one_with : {X : Type 0} (p q : X → Bool) (xs : List X) (y : X) → OnlyOne p xs → find p xs ≡ Some y → list_any (λ x. p x && q x) xs ≡ q y
one_with p q [] y one found = cc
one_with {X} p q (x ∷ xs) y one found = go (p x) refl (one_with p q xs y one.1)
  where
    go : (b : Bool) → p x ≡ b → (find p xs ≡ Some y → list_any (λ z. p z && q z) xs ≡ q y) → list_any (λ z. p z && q z) (x ∷ xs) ≡ q y
    go true e rec =
        let here : Some x ≡ Some y = rw e at found in
        let same : x ≡ y = cc in
        rw (e, both_none p q xs (one.0 e)) (or_no (q x) ∙ ap q same)
    go false e rec = rw e (rec (rw e at found))

pub none_with : {X : Type 0} (p q : X → Bool) (xs : List X) → find p xs ≡ None → is_some (find (λ x. p x && q x) xs) ≡ false
none_with p q xs none = found_any (λ x. p x && q x) xs ∙ both_none p q xs (sym (found_any p xs) ∙ ap is_some none)

-- A step of the one case with this id is known exactly if the case has it.
pub step_known : (es : List Envelope) (case step : Utf8) (c : TestCase) → OnlyOne (λ x. bytes_eq case x.id) (cases es) → find_case case es ≡ Some c → (times_declared (Step case step) es == 0) ≡ not (has_text step (step_ids c))
step_known es case step c one found =
    (known (Step case step) as_case (has_step_of case step) (declares_step case step) es).0
    ∙ ap not (found_any (has_step_of case step) (cases es) ∙ one_with (λ x. bytes_eq case x.id) (λ x. has_text step (step_ids x)) (cases es) c one found)

-- Where no case has this id, none of its steps is declared.
pub step_unknown : (es : List Envelope) (case step : Utf8) → find_case case es ≡ None → nat_lt 0 (times_declared (Step case step) es) ≡ false
step_unknown es case step none =
    (known (Step case step) as_case (has_step_of case step) (declares_step case step) es).1
    ∙ none_with (λ x. bytes_eq case x.id) (λ x. has_text step (step_ids x)) (cases es) none
