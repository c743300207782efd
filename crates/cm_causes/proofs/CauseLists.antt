-- Lists of what passes a test.
use Rattle.std.proofs.Common.{◌≡◌, ◌∙◌, refl, ap, subst, ◌<◌, Bool, true, not, List, [], ◌∷◌, ◌++◌, Option, None, Some, ⊎_elim, ◌⊎◌, inl, inr, arith, map}
use Rattle.std.specs.Prelude.{option_map}
use Rattle.std.specs.List.{AllByRecursion, Contains, filter, filter_map, list_any}
use Rattle.std.proofs.lemmas.Bool.{cases_Bool}
use Rattle.std.proofs.lemmas.List.Elements.{Contains-append_cases, Contains-append_right, Contains-push_cases}

pub filter_of_map : {X Y : Type 0} (q : Y → Bool) (f : X → Y) (xs : List X) → filter q (map f xs) ≡ map f (filter (λ x. q (f x)) xs)
filter_of_map q f [] = refl
filter_of_map {X} q f (x ∷ xs) = ⊎_elim (λ yes. rw yes (ap (λ l. f x ∷ l) (filter_of_map q f xs))) (λ no. rw no (filter_of_map q f xs)) (cases_Bool (q (f x)))

-- two functions that agree at what passes
pub map_kept : {X Y : Type 0} (p : X → Bool) (f g : X → Y) → ((x : X) → p x ≡ true → f x ≡ g x) → (xs : List X) → map f (filter p xs) ≡ map g (filter p xs)
map_kept p f g h [] = refl
map_kept p f g h (x ∷ xs) = ⊎_elim (λ yes. rw yes (λ j. h x yes j ∷ map_kept p f g h xs j)) (λ no. rw no (map_kept p f g h xs)) (cases_Bool (p x))

pub each_cut : {X : Type 0} (P : X → Type 0) (xs : List X) → ((front : List X) (x : X) (back : List X) → xs ≡ front ++ x ∷ back → P x) → AllByRecursion P xs
each_cut P [] f = tt
each_cut P (x ∷ xs) f = (f [] x xs refl, each_cut P xs (λ front y back cut. f (x ∷ front) y back (ap (λ ys. x ∷ ys) cut)))

pub any_more : {X : Type 0} (p : X → Bool) (xs ys : List X) → list_any p xs ≡ true → list_any p (xs ++ ys) ≡ true
any_more p [] ys h = cc
any_more p (x ∷ xs) ys h = ⊎_elim (λ yes. rw yes refl) (λ no. let rest : list_any p xs ≡ true = rw no at h in rw no (any_more p xs ys rest)) (cases_Bool (p x))

-- ---- where nothing is left

pub none_left : {X Y : Type 0} (f : X → Y) (p : X → Bool) (xs : List X) → map f (filter (λ x. not (p x)) xs) ≡ [] → AllByRecursion (λ x. p x ≡ true) xs
none_left f p [] h = tt
none_left {X} {Y} f p (x ∷ xs) h = ⊎_elim (λ yes. let rest : map f (filter (λ y. not (p y)) xs) ≡ [] = rw yes at h in (yes, none_left f p xs rest))
    (λ no. let some : f x ∷ map f (filter (λ y. not (p y)) xs) ≡ [] = rw no at h in let never : ⊥ = cc in absurd never) (cases_Bool (p x))

pub all_pass : {X Y : Type 0} (f : X → Y) (p : X → Bool) (xs : List X) → AllByRecursion (λ x. p x ≡ true) xs → map f (filter (λ x. not (p x)) xs) ≡ []
all_pass f p [] h = refl
all_pass f p (x ∷ xs) h = rw h.0 (all_pass f p xs h.1)

pub none_given : {X Y Z : Type 0} (g : X → Y → Z) (b : X → Option Y) (xs : List X) → filter_map (λ x. option_map (g x) (b x)) xs ≡ [] → AllByRecursion (λ x. b x ≡ None) xs
none_given g b [] h = tt
none_given {X} {Y} {Z} g b (x ∷ xs) h = go (b x) refl (λ k. none_given g b xs k)
  where
    go : (o : Option Y) → b x ≡ o → (filter_map (λ y. option_map (g y) (b y)) xs ≡ [] → AllByRecursion (λ y. b y ≡ None) xs) → AllByRecursion (λ y. b y ≡ None) (x ∷ xs)
    go None e rec = let rest : filter_map (λ y. option_map (g y) (b y)) xs ≡ [] = rw e at h in (e, rec rest)
    go (Some y) e rec = let some : g x y ∷ filter_map (λ z. option_map (g z) (b z)) xs ≡ [] = rw e at h in let never : ⊥ = cc in absurd never

pub gives_none : {X Y Z : Type 0} (g : X → Y → Z) (b : X → Option Y) (xs : List X) → AllByRecursion (λ x. b x ≡ None) xs → filter_map (λ x. option_map (g x) (b x)) xs ≡ []
gives_none g b [] h = refl
gives_none g b (x ∷ xs) h = rw h.0 (gives_none g b xs h.1)

-- ---- what is contained

pub contains_none : {X : Type 0} (x : X) → Contains [] x → ⊥
contains_none x c = let below : c.0 < 0 = c.1 in omega arith

pub contains_cases : {X : Type 0} (y : X) (xs : List X) (x : X) → Contains (y ∷ xs) x → (y ≡ x) ⊎ Contains xs x
contains_cases {X} y xs x c = ⊎_elim (λ one. inl (alone one)) (λ later. inr later) (Contains-append_cases (y ∷ []) xs x c)
  where
    alone : Contains (y ∷ []) x → y ≡ x
    alone k = ⊎_elim (λ none. absurd (contains_none x none)) (λ same. same) (Contains-push_cases [] y x k)

pub contains_here : {X : Type 0} (x : X) (xs : List X) → Contains (x ∷ xs) x
contains_here x xs = (0, omega arith, refl)

pub contains_there : {X : Type 0} (y : X) (xs : List X) (x : X) → Contains xs x → Contains (y ∷ xs) x
contains_there y xs x c = Contains-append_right (y ∷ []) xs x c

pub kept_in : {X Y : Type 0} (f : X → Y) (p : X → Bool) (xs : List X) (x : X) → Contains xs x → p x ≡ true → Contains (map f (filter p xs)) (f x)
kept_in f p [] x c h = absurd (contains_none x c)
kept_in {X} {Y} f p (y ∷ xs) x c h = ⊎_elim here (later (λ k. kept_in f p xs x k h)) (contains_cases y xs x c)
  where
    here : y ≡ x → Contains (map f (filter p (y ∷ xs))) (f x)
    here same = let passes : p y ≡ true = ap p same ∙ h in rw passes (subst (λ (z : Y). Contains (f y ∷ map f (filter p xs)) z) (ap f same) (contains_here (f y) (map f (filter p xs))))

    later : (Contains xs x → Contains (map f (filter p xs)) (f x)) → Contains xs x → Contains (map f (filter p (y ∷ xs))) (f x)
    later rec k = ⊎_elim (λ yes. rw yes (contains_there (f y) (map f (filter p xs)) (f x) (rec k))) (λ no. rw no (rec k)) (cases_Bool (p y))

pub given_in : {X Y : Type 0} (g : X → Option Y) (xs : List X) (x : X) (y : Y) → Contains xs x → g x ≡ Some y → Contains (filter_map g xs) y
given_in g [] x y c h = absurd (contains_none x c)
given_in {X} {Y} g (z ∷ xs) x y c h = ⊎_elim here (later (g z) refl (λ k. given_in g xs x y k h)) (contains_cases z xs x c)
  where
    here : z ≡ x → Contains (filter_map g (z ∷ xs)) y
    here same = let gives : g z ≡ Some y = ap g same ∙ h in rw gives (contains_here y (filter_map g xs))

    later : (o : Option Y) → g z ≡ o → (Contains xs x → Contains (filter_map g xs) y) → Contains xs x → Contains (filter_map g (z ∷ xs)) y
    later None e rec k = rw e (rec k)
    later (Some w) e rec k = rw e (contains_there w (filter_map g xs) y (rec k))
