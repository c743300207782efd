-- What encloses a doc string (Gherkin's reference, "Doc Strings").
use Rattle.std.specs.Prelude.{ℕ, List, [], ◌∷◌}
use Rattle.gk_document.specs.declared.tree.Fence.{Fence}
use Rattle.gk_document.specs.declared.tree.Fence.TheVariants.{Quotes, Backticks}

-- the character that a fence is made of: `"`, or a backtick
abbrev pub fence_mark : Fence → ℕ
fence_mark Quotes = 34
fence_mark Backticks = 96

-- the three characters of a fence
abbrev pub fence_characters : Fence → List ℕ
fence_characters fence = fence_mark fence ∷ fence_mark fence ∷ fence_mark fence ∷ []
