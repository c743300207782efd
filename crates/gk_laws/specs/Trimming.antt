-- White space, and lists without it at both their ends.
use Rattle.std.specs.Prelude.{◌≡◌, ℕ, Bool, true, false, List, [], ◌∷◌, ◌++◌}
use Rattle.std.specs.Char.{is_whitespace}
use Rattle.std.specs.List.{list_all}

-- the text is white space alone, or empty
abbrev pub IsSpace : List ℕ → Type 0
IsSpace text = list_all is_whitespace text ≡ true

-- The whole is white space in front, what is kept, and white space. What is kept neither begins nor
-- ends with any, and where it is nothing, all the white space is in front.
pub record IsTrimmed {X : Type 0} (is_space : X → Bool) (whole front kept : List X) : Type 0 where
  pub back : List X
  pub parts : whole ≡ front ++ (kept ++ back)
  pub spaces : (list_all is_space front ≡ true) × (list_all is_space back ≡ true)
  pub first : (x : X) (more : List X) → kept ≡ x ∷ more → is_space x ≡ false
  pub last : (more : List X) (x : X) → kept ≡ more ++ x ∷ [] → is_space x ≡ false
  pub no_back : kept ≡ [] → back ≡ []
