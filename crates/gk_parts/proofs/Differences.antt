-- Lists that begin alike, and what they have next.
use Rattle.std.proofs.Common.{◌≡◌, ◌≢◌, ◌∙◌, ℕ, ◌+◌, ◌<◌, List, [], ◌∷◌, ◌++◌, Option, Some, None, ap, append_assoc, arith, sym, refl, map, subst, take, drop, get_or, length, length-append, append-nil}
use Rattle.std.proofs.Math.Seq.{take-append_seam}
use Rattle.std.proofs.lemmas.List.{drop_more, length-map, length-take-le, map-append, take-append-drop, take-map, take_more}
use Rattle.gk_parts.specs.FirstDifference.{HasNext, IsFirstDifference}

-- the item at a place comes next after those before it
pub next_at : {X Y : Type 0} (f : X → Y) (xs : List X) (i : ℕ) (x : X) → i < length xs → x ≡ get_or xs i x
    → map f xs ≡ map f (take i xs) ++ f x ∷ map f (drop (i + 1) xs)
next_at f xs i x l e =
    ap (map f) (sym (take-append-drop i xs) ∙ ap (λ ys. take i xs ++ ys) (drop_more xs i x l ∙ ap (λ y. y ∷ drop (i + 1) xs) (sym e)))
    ∙ map-append f (take i xs) (x ∷ drop (i + 1) xs)

-- what comes next is one item more
next_taken : {Y : Type 0} (ys front rest : List Y) (y : Y) (i : ℕ) → ys ≡ front ++ y ∷ rest → length front ≡ i → take (i + 1) ys ≡ front ++ y ∷ []
next_taken ys front rest y i e l =
    let long : length (front ++ y ∷ []) ≡ i + 1 = omega (arith, length-append front (y ∷ []), l) in
    ap (take (i + 1)) (e ∙ sym (append_assoc front (y ∷ []) rest))
    ∙ ap (λ n. take n ((front ++ y ∷ []) ++ rest)) (sym long) ∙ take-append_seam (front ++ y ∷ []) rest

-- lists that have the same items up to a place, and the same item there, have the same items beyond it
pub same_more : {X Y : Type 0} (f : X → Y) (xs ys : List X) (i : ℕ) (x : X) (o : Option Y) → i < length xs → x ≡ get_or xs i x
    → map f (take i xs) ≡ map f (take i ys) → HasNext (map f (take i ys)) (map f ys) o → Some (f x) ≡ o
    → map f (take (i + 1) xs) ≡ map f (take (i + 1) ys)
same_more f xs ys i x o l e same next is =
    let found = subst (λ q. HasNext (map f (take i ys)) (map f ys) q) (sym is) next in
    let parted : map f ys ≡ map f (take i xs) ++ f x ∷ found.0 = found.1 ∙ ap (λ front. front ++ f x ∷ found.0) (sym same) in
    let long : length (map f (take i xs)) ≡ i = length-map (take i xs) f ∙ length-take-le i xs (omega arith) in
    let one : take (i + 1) xs ≡ take i xs ++ x ∷ [] = take_more xs i x l ∙ ap (λ y. take i xs ++ y ∷ []) (sym e) in
    ap (map f) one ∙ map-append f (take i xs) (x ∷ [])
    ∙ sym (next_taken (map f ys) (map f (take i xs)) found.0 (f x) i parted long) ∙ take-map f (i + 1) ys

module _ {X : Type 0} where
  abbrev first : List X → Option X
  first [] = None
  first (x ∷ xs) = Some x

  abbrev others : List X → List X
  others [] = []
  others (x ∷ xs) = xs

  -- what is left after a front
  record Rest (front xs : List X) (x : Option X) : Type 0 where
    pub rest : List X
    pub parted : xs ≡ front ++ rest
    pub begins : first rest ≡ x

  rest_of : (front xs : List X) (x : Option X) → HasNext front xs x → Rest front xs x
  rest_of front xs None h = record { rest = []; parted = h ∙ sym (append-nil front); begins = refl }
  rest_of front xs (Some x) h = record { rest = x ∷ h.0; parted = h.1; begins = refl }

  -- lists that are parted twice, where they first differ, have the same next
  one_place : (f g s t u v : List X) → f ++ s ≡ g ++ u → f ++ t ≡ g ++ v → first s ≢ first t → first u ≢ first v
      → (first s ≡ first u) × (first t ≡ first v)
  one_place [] [] s t u v e e' n n' = (ap first e, ap first e')
  one_place [] (b ∷ g) s t u v e e' n n' = absurd (n (ap first e ∙ sym (ap first e')))
  one_place (a ∷ f) [] s t u v e e' n n' = absurd (n' (sym (ap first e) ∙ ap first e'))
  one_place (a ∷ f) (b ∷ g) s t u v e e' n n' = one_place f g s t u v (ap others e) (ap others e') n n'

  left_alike : (f s t : List X) → f ++ s ≡ f ++ t → s ≡ t
  left_alike [] s t e = e
  left_alike (a ∷ f) s t e = left_alike f s t (ap others e)

  pub one_difference : (xs ys : List X) (x y v w : Option X) → IsFirstDifference xs ys x y → IsFirstDifference xs ys v w → (x ≡ v) × (y ≡ w)
  one_difference xs ys x y v w d e =
      let a = rest_of d.front xs x d.expected in
      let b = rest_of d.front ys y d.found in
      let a' = rest_of e.front xs v e.expected in
      let b' = rest_of e.front ys w e.found in
      let same = one_place d.front e.front a.rest b.rest a'.rest b'.rest (sym a.parted ∙ a'.parted) (sym b.parted ∙ b'.parted)
      (λ h. d.differ (sym a.begins ∙ h ∙ b.begins)) (λ h. e.differ (sym a'.begins ∙ h ∙ b'.begins)) in
      (sym a.begins ∙ same.0 ∙ a'.begins, sym b.begins ∙ same.1 ∙ b'.begins)

  pub unequal : (xs ys : List X) (x y : Option X) → IsFirstDifference xs ys x y → xs ≡ ys → ⊥
  unequal xs ys x y d same =
      let a = rest_of d.front xs x d.expected in
      let b = rest_of d.front ys y d.found in
      d.differ (sym a.begins ∙ ap first (left_alike d.front a.rest b.rest (sym a.parted ∙ same ∙ b.parted)) ∙ b.begins)
