-- The type of the last keyword that is no conjunction, with one more keyword.
use Rattle.std.proofs.Common.{◌≡◌, List, [], ◌∷◌, ◌++◌, Some, None, refl, sym, ap, ◌∙◌, append-nil}
use Rattle.std.specs.List.{filter_map, cons_option}
use Rattle.std.proofs.lemmas.List.Elements.{filter_map-append}
use Rattle.gk_document.specs.declared.tree.KeywordType.{KeywordType}
use Rattle.gk_pickle.specs.declared.pickles.StepType.{StepType}
use Rattle.gk_pickle.specs.declared.pickles.StepType.TheVariants as kind
use Rattle.gk_pickle.specs.Steps.{own_type, last_or, type_of}

last_or-append : {X : Type 0} (other : X) (xs : List X) (x : X) → last_or other (xs ++ x ∷ []) ≡ x
last_or-append other [] x = refl
last_or-append other (y ∷ ys) x = last_or-append y ys x

one_more : (earlier : List KeywordType) (k : KeywordType) → type_of (earlier ++ k ∷ []) ≡ last_or kind.Unknown (filter_map own_type earlier ++ cons_option (own_type k) [])
one_more earlier k = ap (last_or kind.Unknown) (filter_map-append own_type earlier (k ∷ []))

pub with_type : (earlier : List KeywordType) (k : KeywordType) (t : StepType) → own_type k ≡ Some t → t ≡ type_of (earlier ++ k ∷ [])
with_type earlier k t own =
    sym (one_more earlier k ∙ ap (λ o. last_or kind.Unknown (filter_map own_type earlier ++ cons_option o [])) own ∙ last_or-append kind.Unknown (filter_map own_type earlier) t)

pub with_none : (earlier : List KeywordType) (k : KeywordType) (t : StepType) → own_type k ≡ None → t ≡ type_of earlier → t ≡ type_of (earlier ++ k ∷ [])
with_none earlier k t own before =
    before ∙ sym (one_more earlier k ∙ ap (λ o. last_or kind.Unknown (filter_map own_type earlier ++ cons_option o [])) own ∙ ap (last_or kind.Unknown) (append-nil (filter_map own_type earlier)))
