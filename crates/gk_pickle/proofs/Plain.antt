-- Texts and cells without brackets.
use Rattle.std.proofs.Common.{◌≡◌, ℕ, zero, suc, ◌+◌, ◌<◌, ◌≤◌, true, false, Option, None, Some, List, [], ◌∷◌, ◌++◌, length, take, drop, get_or, sym, ap, ◌∙◌, ⊎_elim, ◌-◌, arith}
use Rattle.std.specs.Prelude.{is_some, ◌==◌}
use Rattle.std.specs.Str.{IsUtf8, IsCharBoundary}
use Rattle.std.proofs.lemmas.Str.{IsCharBoundary-after_ascii}
use Rattle.std.proofs.lemmas.Bool.{eqb-true, or_cases, false_from_ne_true, false≢true}
use Rattle.std.proofs.lemmas.List.{drop_more, take-append-drop}
use Rattle.memchr.specs.Find.{Nowhere, NoneBefore, Passes, IsFirstByte, is_byte2}
use Rattle.gk_document.specs.declared.tree.Cell.{Cell}
use Rattle.gk_pickle.specs.SinglePass.{is_bracket, HasNoBracket, HaveNoBracket}

-- none of the first bytes is a bracket
front_plain : (text : List ℕ) (n : ℕ) → n ≤ length text → ((k : ℕ) → k < n → is_bracket (get_or text k 0) ≡ true → ⊥) → HasNoBracket (take n text)
front_plain text zero le none = tt
front_plain [] (suc n) le none = absurd (omega arith)
front_plain (b ∷ bs) (suc n) le none =
    (false_from_ne_true _ (λ t. none 0 (omega arith) t), front_plain bs n (omega arith) (λ k l t. none (suc k) (omega arith) t))

plain : (text : List ℕ) → ((k : ℕ) → k < length text → is_bracket (get_or text k 0) ≡ true → ⊥) → HasNoBracket text
plain [] none = tt
plain (b ∷ bs) none = (false_from_ne_true _ (λ t. none 0 (omega arith) t), plain bs (λ k l t. none (suc k) (omega arith) t))

-- a search that found no bracket
pub none_found : (hay text : List ℕ) → hay ≡ text → Nowhere (Passes (is_byte2 60 62) hay) 0 (length hay) → HasNoBracket text
none_found hay text h none = rw (← h) (plain hay (λ k l t. none k (omega arith) l t))

pub nothing_found : (hay text : List ℕ) (found : Option ℕ) → hay ≡ text → IsFirstByte (is_byte2 60 62) hay found → is_some found ≡ false → HasNoBracket text
nothing_found hay text None h none same = none_found hay text h none
nothing_found hay text (Some k) h found same = absurd (false≢true (sym same))

-- one cell more without a bracket
pub one_less : (cells : List Cell) (i : ℕ) (c : Cell) → i < length cells → c ≡ get_or cells i c → HasNoBracket c.value
    → HaveNoBracket (drop (i + 1) cells) → HaveNoBracket (drop i cells)
one_less cells i c l e plain rest = rw (drop_more cells i c l ∙ ap (λ x. x ∷ drop (i + 1) cells) (sym e)) (plain, rest)

-- a search that found the first one
pub front_found : (hay text : List ℕ) (k : ℕ) (front : List ℕ) → hay ≡ text → NoneBefore (Passes (is_byte2 60 62) hay) 0 (length hay) k
    → front ≡ take (k - 0) text → HasNoBracket front
front_found hay text k front h none e =
    let all : k - 0 ≡ k = omega arith in
    let below = none.high in
    rw (e, all, ← h) (front_plain hay k (omega arith) (λ j l t. none.before j (omega arith) l t))

-- and what is before and after it
pub cut_around : (bytes text front after : List ℕ) (k : ℕ) → bytes ≡ text → k < length text → front ≡ take (k - 0) text → after ≡ drop (k + 1) text
    → text ≡ front ++ get_or bytes k 0 ∷ after
cut_around bytes text front after k e l f a =
    let all : k - 0 ≡ k = omega arith in
    rw (f, a, all, e) (sym (ap (λ rest. take k text ++ rest) (sym (drop_more text k 0 l)) ∙ take-append-drop k text))

small : (b : ℕ) → is_bracket b ≡ true → b < 128
small b t = ⊎_elim (λ e. omega (arith, eqb-true b 60 e)) (λ e. omega (arith, eqb-true b 62 e)) (or_cases (b == 60) (b == 62) t)

-- the text is cut at a character after it
pub cut_after : (hay text : List ℕ) (k : ℕ) → hay ≡ text → NoneBefore (Passes (is_byte2 60 62) hay) 0 (length hay) k → Passes (is_byte2 60 62) hay k
    → IsUtf8 text → IsCharBoundary text (k + 1)
cut_after hay text k h none found u =
    let low = small (get_or hay k 0) found in
    let here : get_or hay k 0 ≡ get_or text k 0 = ap (λ t. get_or t k 0) h in
    let below = none.high in
    IsCharBoundary-after_ascii text k u (omega (arith, ap length h)) (omega arith)
