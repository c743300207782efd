-- A text cut at a pattern, and joined again: what replacing comes to.
use Rattle.std.specs.Prelude.{◌≡◌, ℕ, ◌<◌, ◌≤◌, List, [], ◌∷◌, ◌++◌, length}
use Rattle.gk_pickle.specs.Fill.{replaced_text}

-- the pattern is nowhere in the text
abbrev pub Lacks : List ℕ → List ℕ → Type 0
Lacks pattern text = (before after : List ℕ) → text ≡ before ++ (pattern ++ after) → ⊥

-- wherever the pattern is in the text, at least this much is before it
abbrev pub IsFirst : List ℕ → List ℕ → List ℕ → Type 0
IsFirst pattern text part =
    (before after : List ℕ) → text ≡ before ++ (pattern ++ after) → length part ≤ length before

-- the text is cut at the leftmost occurrences of a pattern that don't overlap: into a first part and others
abbrev pub IsCut : List ℕ → List ℕ → List ℕ → List (List ℕ) → Type 0
IsCut pattern text part [] = (text ≡ part) × Lacks pattern text
IsCut pattern text part (next ∷ others) =
    (rest : List ℕ) × (text ≡ part ++ (pattern ++ rest)) × IsFirst pattern text part
    × IsCut pattern rest next others

abbrev pub joined_parts : List ℕ → List ℕ → List (List ℕ) → List ℕ
joined_parts cell part [] = part
joined_parts cell part (next ∷ others) = part ++ (cell ++ joined_parts cell next others)

-- every text can be cut so, and replacing joins its parts by the cell
abbrev pub ReplacedIsJoined : Type 0
ReplacedIsJoined = (pattern cell text : List ℕ) → 0 < length pattern
    → (part : List ℕ) × (others : List (List ℕ)) × IsCut pattern text part others
    × (replaced_text pattern cell text ≡ joined_parts cell part others)

-- and so it does however the text is cut so
abbrev pub JoinedIsReplaced : Type 0
JoinedIsReplaced = (pattern cell text part : List ℕ) (others : List (List ℕ)) → 0 < length pattern
    → IsCut pattern text part others
    → replaced_text pattern cell text ≡ joined_parts cell part others
