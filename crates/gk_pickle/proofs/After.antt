-- Steps after earlier ones, one more and in two parts.
use Rattle.std.proofs.Common.{◌≡◌, ◌≢◌, ℕ, ◌+◌, ◌<◌, List, [], ◌∷◌, ◌++◌, length, take, drop, get_or, refl, sym, ap, ◌∙◌, append_assoc, append-nil}
use Rattle.std.proofs.lemmas.List.{take_more, drop_more, map-append}
use Rattle.gk_document.specs.declared.tree.KeywordType.{KeywordType}
use Rattle.gk_document.specs.declared.tree.Step.{Step}
use Rattle.gk_pickle.specs.declared.pickles.StepType.{StepType}
use Rattle.gk_pickle.specs.declared.pickles.PickleStep.{PickleStep}
use Rattle.gk_pickle.specs.Inheritance.{Filling, no_filling}
use Rattle.gk_pickle.specs.Steps.{type_of, keyword_types, filled_step, steps_after, pickle_steps}

pub keywords_more : (earlier : List KeywordType) (steps : List Step) (i : ℕ) (s : Step) → i < length steps → s ≡ get_or steps i s
    → earlier ++ keyword_types (take (i + 1) steps) ≡ (earlier ++ keyword_types (take i steps)) ++ s.kind ∷ []
keywords_more earlier steps i s l e =
    ap (λ xs. earlier ++ keyword_types xs) (take_more steps i s l ∙ ap (λ x. take i steps ++ x ∷ []) (sym e))
    ∙ ap (λ ks. earlier ++ ks) (map-append (λ (x : Step). x.kind) (take i steps) (s ∷ []))
    ∙ sym (append_assoc earlier (keyword_types (take i steps)) (s.kind ∷ []))

pub rest_more : (steps : List Step) (i : ℕ) (s : Step) → i < length steps → s ≡ get_or steps i s → drop i steps ≡ s ∷ drop (i + 1) steps
rest_more steps i s l e = drop_more steps i s l ∙ ap (λ x. x ∷ drop (i + 1) steps) (sym e)

pub one_made : (made new : List PickleStep) (k k' : List KeywordType) (f : Filling) (s : Step) (rest ss : List Step) (p : PickleStep) (t : StepType)
    → new ≡ made ++ p ∷ [] → p ≡ filled_step f t s → t ≡ type_of (k ++ s.kind ∷ []) → ss ≡ s ∷ rest → k' ≡ k ++ s.kind ∷ []
    → new ++ steps_after k' f rest ≡ made ++ steps_after k f ss
one_made made new k k' f s rest ss p t n is type left now =
    rw (n, is, type, left, now) (append_assoc made (filled_step f (type_of (k ++ s.kind ∷ [])) s ∷ []) (steps_after (k ++ s.kind ∷ []) f rest))

pub in_parts : (k : List KeywordType) (f : Filling) (xs ys : List Step) → steps_after k f (xs ++ ys) ≡ steps_after k f xs ++ steps_after (k ++ keyword_types xs) f ys
in_parts k f [] ys = rw append-nil refl
in_parts k f (x ∷ xs) ys =
    ap (λ l. filled_step f (type_of (k ++ x.kind ∷ [])) x ∷ l)
    (in_parts (k ++ x.kind ∷ []) f xs ys ∙ ap (λ ks. steps_after (k ++ x.kind ∷ []) f xs ++ steps_after ks f ys) (append_assoc k (x.kind ∷ []) (keyword_types xs)))

-- the steps of two backgrounds and a scenario, which has some
pub all_made : (a b own : List Step) (f nothing : Filling) (m₁ m₂ m₃ : List PickleStep) → length own ≢ 0 → nothing ≡ no_filling
    → m₁ ≡ [] ++ steps_after [] nothing a → m₂ ≡ m₁ ++ steps_after (keyword_types a) nothing b → m₃ ≡ m₂ ++ steps_after (keyword_types (a ++ b)) f own
    → m₃ ≡ pickle_steps (a ++ b) f own
all_made a b [] f nothing m₁ m₂ m₃ some none e₁ e₂ e₃ = absurd (some refl)
all_made a b (s ∷ ss) f nothing m₁ m₂ m₃ some none e₁ e₂ e₃ =
    e₃ ∙ ap (λ m. m ++ steps_after (keyword_types (a ++ b)) f (s ∷ ss)) (e₂ ∙ ap (λ m. m ++ steps_after (keyword_types a) nothing b) e₁
    ∙ ap (λ n. steps_after [] n a ++ steps_after (keyword_types a) n b) none ∙ sym (in_parts [] no_filling a b))

pub type_after_two : (a b : List Step) (t : StepType) → t ≡ type_of (keyword_types a ++ keyword_types b) → t ≡ type_of (keyword_types (a ++ b))
type_after_two a b t h = h ∙ ap type_of (sym (map-append (λ (x : Step). x.kind) a b))
