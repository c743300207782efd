-- The lines of the pickles that didn't come, one after another.
use Rattle.std.proofs.Common.{◌≡◌, ◌∙◌, ap, sym, refl, ◌-◌, ℕ, suc, zero, List, [], ◌∷◌, ◌++◌, append-nil, append_assoc, drop, length, length-drop, map, take, Option, Some, None}
use Rattle.std.proofs.lemmas.List.{length-map}
use Rattle.gk_pickle.specs.Rest.{IsNext, title_of}
use Rattle.cm_envelope.specs.declared.envelope.Envelope.{Envelope}
use Rattle.cm_reasons.specs.Lines.{text_of_lines, more_text}
use Rattle.cm_stream.proofs.Lists.{map_twice}
use Rattle.cm_stream.specs.Sources.{DuePickle}
use Rattle.cm_stream.specs.Texts.{Utf8}
use Rattle.cm_source_reasons.specs.DueLines.{missing_line}
use Rattle.cm_source_reasons.specs.SourceReasons.{missing_pickles}

take_none : {X : Type 0} (k : ℕ) (xs : List X) → xs ≡ [] → take k xs ≡ []
take_none zero xs none = refl
take_none (suc k) [] none = refl
take_none (suc k) (x ∷ xs) none = cc

module _ {X : Type 0} (line : X → List ℕ) where
  -- where none is left, all lines stand there
  pub none_left : (old new : List X) (found : Option X) → IsNext old new found → found ≡ None → (k : ℕ) (start all : List ℕ)
      → start ++ text_of_lines (take k (map line old)) ≡ all → start ≡ all
  none_left old new None next is k start all h =
      sym (ap (λ (lines : List (List ℕ)). start ++ text_of_lines lines) (take_none k (map line old) (ap (map line) next.0)) ∙ append-nil start) ∙ h
  none_left old new (Some x) next is k start all h = cc

  -- one line more stands there, and one fewer is left
  pub one_line : (old new : List X) (x : X) (found : Option X) → IsNext old new found → found ≡ Some x → (k fewer : ℕ) → k ≡ suc fewer
      → (start added all : List ℕ) → added ≡ start ++ text_of_lines (line x ∷ []) → start ++ text_of_lines (take k (map line old)) ≡ all
      → added ++ text_of_lines (take fewer (map line new)) ≡ all
  one_line old new x None next is k fewer more start added all a h = cc
  one_line old new x (Some y) next is k fewer more start added all a h =
      let rest = text_of_lines (take fewer (map line new)) in
      let same : y ≡ x = cc in
      ap (λ (t : List ℕ). t ++ rest) (a ∙ ap (λ (t : List ℕ). start ++ t) (append-nil (line x ++ 10 ∷ [])))
      ∙ append_assoc start (line x ++ 10 ∷ []) rest
      ∙ sym ((λ j. start ++ text_of_lines (take (more j) (map line (next j)))) ∙ ap (λ (z : X). start ++ text_of_lines (line z ∷ take fewer (map line new))) same)
      ∙ h

  pub one_passed : (old new : List X) (x : X) (found : Option X) → IsNext old new found → found ≡ Some x → (k fewer : ℕ) → k ≡ suc fewer
      → (rest : List X) → drop k old ≡ rest → drop fewer new ≡ rest
  one_passed old new x None next is k fewer more rest h = cc
  one_passed old new x (Some y) next is k fewer more rest h = sym (λ j. drop (more j) (next j)) ∙ h

-- how many are left behind the first hundred
left_of : (due rest : List DuePickle) (count : ℕ) → map title_of rest ≡ drop 100 (map title_of due) → count ≡ length rest → count ≡ length due - 100
left_of due rest count e n =
    n ∙ sym (length-map rest title_of) ∙ ap length e ∙ length-drop 100 (map title_of due) ∙ ap (λ (k : ℕ). k - 100) (length-map due title_of)

-- those that are shown, and how many more there are
pub all_told : (es : List Envelope) (uri : Utf8) (ids kept : List Utf8) (due left rest : List DuePickle) (count : ℕ) (old mid new : List ℕ) → ids ≡ kept → due ≡ left
    → mid ≡ old ++ text_of_lines (take 100 (map (missing_line es uri ids) (map title_of due))) → map title_of rest ≡ drop 100 (map title_of due) → count ≡ length rest
    → new ≡ mid ++ more_text count → new ≡ old ++ missing_pickles es uri kept left
all_told es uri ids kept due left rest count old mid new a d m e n h =
    let line : DuePickle → List ℕ = λ p. missing_line es uri ids (title_of p) in
    let shown : List (List ℕ) → List ℕ = λ ls. text_of_lines (take 100 ls) in
    let counted : count ≡ length (map line due) - 100 = left_of due rest count e n ∙ ap (λ (k : ℕ). k - 100) (sym (length-map due line)) in
    h ∙ (λ j. m j ++ more_text (counted j))
    ∙ append_assoc old (shown (map (missing_line es uri ids) (map title_of due))) (more_text (length (map line due) - 100))
    ∙ ap (λ (ls : List (List ℕ)). old ++ (shown ls ++ more_text (length (map line due) - 100))) (map_twice (missing_line es uri ids) title_of due)
    ∙ (λ j. old ++ missing_pickles es uri (a j) (d j))
