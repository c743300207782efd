-- Where two lists first differ.
use Rattle.std.specs.Prelude.{◌≡◌, ◌≢◌, List, ◌∷◌, ◌++◌, Option, Some, None}

module _ {X : Type 0} where
  -- after these items the list has this one, or ends
  abbrev pub HasNext : List X → List X → Option X → Type 0
  HasNext front xs None = xs ≡ front
  HasNext front xs (Some x) = (rest : List X) × (xs ≡ front ++ x ∷ rest)

  -- the lists begin alike, and then the one has this item or ends, and the other has another
  pub record IsFirstDifference (xs ys : List X) (x y : Option X) : Type 0 where
    pub front : List X
    pub expected : HasNext front xs x
    pub found : HasNext front ys y
    pub differ : x ≢ y
