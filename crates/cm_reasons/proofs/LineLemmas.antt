-- Lines below one another: as many as are shown, and more.
use Rattle.std.proofs.Common.{◌≡◌, ◌∙◌, ap, sym, ℕ, ◌-◌, ◌≤◌, List, [], ◌∷◌, ◌++◌, append-nil, append_assoc, arith, length, map, take, take_all, Result, Ok, Err}
use Rattle.std.specs.Prelude.{OnOk, if◌then◌else◌, is_ok}
use Rattle.std.proofs.lemmas.List.{length-map, take-map}
use Rattle.cm_reasons.specs.Lines.{text_of_lines, limited_text, more_text}

pub few : {T : Type 0} (f : T → List ℕ) (items : List T) → length items ≤ 100 → text_of_lines (map f items) ≡ limited_text (map f items)
few f items h =
    let none : length (map f items) - 100 ≡ 0 = omega (arith, length-map items f) in
    let short : length (map f items) ≤ 100 = omega (arith, length-map items f) in
    sym (append-nil (text_of_lines (map f items))) ∙ (λ j. text_of_lines (sym (take_all 100 (map f items) short) j) ++ more_text (sym none j))

pub many : {T : Type 0} (f : T → List ℕ) (items : List T) → text_of_lines (map f (take 100 items)) ++ more_text (length items - 100) ≡ limited_text (map f items)
many f items = λ j. text_of_lines (sym (take-map f 100 items) j) ++ more_text (sym (length-map items f) j - 100)

-- one line after another text
pub one_ended : (start mid new line : List ℕ) → mid ≡ start ++ line → new ≡ mid ++ 10 ∷ [] → new ≡ start ++ text_of_lines (line ∷ [])
one_ended start mid new line m n =
    n ∙ ap (λ (t : List ℕ). t ++ 10 ∷ []) m ∙ append_assoc start line (10 ∷ []) ∙ ap (λ (t : List ℕ). start ++ t) (sym (append-nil (line ++ 10 ∷ [])))

-- what a text is after one was added, where that went well
pub on_push : {A E : Type 0} (r : Result A E) (new added old : List ℕ) → new ≡ (if is_ok r then added else old) → OnOk r (new ≡ added)
on_push (Ok x) new added old h = h
on_push (Err e) new added old h = tt
