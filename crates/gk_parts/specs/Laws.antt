-- What the parts of documents show.
use Rattle.std.specs.Prelude.{◌≡◌, ◌↔◌, List, Option}
use Rattle.gk_document.specs.declared.tree.Document.{Document}
use Rattle.gk_document.specs.Skeleton.{skeleton}
use Rattle.gk_parts.specs.Parts.{Part, parts_alone}
use Rattle.gk_parts.specs.FirstDifference.{IsFirstDifference}

-- documents have the same parts, each alone, exactly where they have one skeleton
abbrev pub PartsShowSkeleton : Type 0
PartsShowSkeleton =
    (a b : Document) → (parts_alone a ≡ parts_alone b) ↔ (skeleton a ≡ skeleton b)

-- two lists first differ at one place
abbrev pub OneFirstDifference : Type 0
OneFirstDifference = (xs ys : List Part) (x y v w : Option Part) → IsFirstDifference xs ys x y
    → IsFirstDifference xs ys v w → (x ≡ v) × (y ≡ w)

-- and only where they are not equal
abbrev pub EqualHaveNoDifference : Type 0
EqualHaveNoDifference = (xs ys : List Part) (x y : Option Part) → IsFirstDifference xs ys x y
    → xs ≡ ys → ⊥
