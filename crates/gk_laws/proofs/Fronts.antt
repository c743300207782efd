-- The first lines of a text are a front, so no lines make a text of those that have a fault.
use Rattle.std.proofs.Common.{◌≡◌, ℕ, zero, suc, ◌+◌, List, [], ◌∷◌, length, take, refl, sym, ap, subst, ◌∙◌, arith, inl, inr}
use Rattle.std.specs.Prelude.{map, ◌≤◌}
use Rattle.std.specs.List.{enumerate_from}
use Rattle.gk_grammar.specs.Token.{Line, line_of}
use Rattle.gk_grammar.specs.Place.{IsText, IsFront}
use Rattle.gk_grammar.proofs.Placed.{text_is_front}
use Rattle.gk_laws.specs.Documents.{read_lines, FrontsAreShown, FaultsStay}
use Rattle.gk_laws.proofs.LineDocuments.{are_lines}

pub fronts_are_shown_holds : FrontsAreShown
fronts_are_shown_holds texts m t = text_is_front (read_lines texts) (are_lines texts) t m

-- the first lines are made of the first texts
take_lines : (m n : ℕ) (texts : List (List ℕ))
    → take m (map line_of (enumerate_from n texts)) ≡ map line_of (enumerate_from n (take m texts))
take_lines zero n texts = refl
take_lines (suc m) n [] = refl
take_lines (suc m) n (t ∷ ts) = ap (λ (z : List Line). line_of (n, t) ∷ z) (take_lines m (n + 1) ts)

length-lines : (n : ℕ) (texts : List (List ℕ))
    → length (map line_of (enumerate_from n texts)) ≡ length texts
length-lines n [] = refl
length-lines n (t ∷ ts) = ap (λ (z : ℕ). suc z) (length-lines (n + 1) ts)

pub faults_stay_holds : FaultsStay
faults_stay_holds texts others kind n column within same (inl f) t =
    let lines_of : List (List ℕ) → List Line = λ z. map line_of (enumerate_from 1 z) in
    f.place.bad (subst IsFront
    (take_lines n 1 others ∙ ap lines_of (sym same) ∙ sym (take_lines n 1 texts))
    (fronts_are_shown_holds others n t))
faults_stay_holds texts others kind n column within same (inr f) t =
    let past : n ≡ length (read_lines texts) + 1 = f.place.past_end in
    let as_many : length (read_lines texts) ≡ length texts = length-lines 1 texts in
    absurd (omega arith)
