-- Texts, and lists of them, compared.
use Rattle.std.specs.Prelude.{◌&&◌, Bool, true, false, List, [], ◌∷◌, Option, Some, None}
use Rattle.std.specs.Str.{bytes_eq}
pub use Rattle.gk_grammar.specs.Token.{Utf8}

-- the lists have equal elements, by same
abbrev pub same_list : {A B : Type 0} → (A → B → Bool) → List A → List B → Bool
same_list same [] [] = true
same_list same (x ∷ xs) (y ∷ ys) = same x y && same_list same xs ys
same_list same [] (y ∷ ys) = false
same_list same (x ∷ xs) [] = false

-- both are absent, or both are there and equal, by same
abbrev pub same_option : {A B : Type 0} → (A → B → Bool) → Option A → Option B → Bool
same_option same None None = true
same_option same (Some x) (Some y) = same x y
same_option same _ _ = false

abbrev pub same_texts : List Utf8 → List Utf8 → Bool
same_texts = same_list bytes_eq
