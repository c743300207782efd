-- What is added to a text.
use Rattle.std.specs.Prelude.{◌≡◌, ℕ, List, ◌++◌}

-- the new text is the old one and then lines of which this holds
abbrev pub Adds : (old new : List ℕ) → (P : List ℕ → Type 0) → Type 0
Adds old new P = (lines : List ℕ) × P lines × (new ≡ old ++ lines)
