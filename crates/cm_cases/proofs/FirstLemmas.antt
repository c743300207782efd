-- The first of some values with each text: one value more.
use Rattle.std.proofs.Common.{◌≡◌, ◌∙◌, ap, sym, refl, ℕ, ◌+◌, ◌<◌, Bool, true, false, cond, List, [], ◌∷◌, ◌++◌, take, get_or, length, Option, None, Some, Bor, ⊎_elim}
use Rattle.std.specs.Prelude.{find, if◌then◌else◌, is_some, option_map, unwrap_or}
use Rattle.std.specs.List.{list_any}
use Rattle.std.specs.Option.{option_and_then, option_map_or}
use Rattle.std.specs.Str.{bytes_eq}
use Rattle.std.proofs.lemmas.Bool.{cases_Bool, cond-true, cond-false, false_from_ne_true, both_ways}
use Rattle.std.proofs.lemmas.List.{take_more}
use Rattle.std.proofs.lemmas.Slice.Eq.{bytes_eq-Decides}
use Rattle.indexmap.specs.IndexMap.{IndexMap}
use Rattle.cm_stream.specs.Texts.{Utf8}
use Rattle.cm_cases.specs.Firsts.{HasFirsts, entry_of, or_else, value_at}
use Rattle.cm_cases.specs.declared.listing.CaseEntry.{CaseEntry}
use Rattle.cm_cases.specs.declared.listing.DocumentEntry.{DocumentEntry}
use Rattle.cm_cases.specs.declared.listing.Listing.{Listing}
use Rattle.cm_cases.specs.declared.listing.PickleEntry.{PickleEntry}
use Rattle.cm_cases.specs.declared.listing.Place.{Place}

or_none : {V : Type 0} (o : Option V) → or_else o None ≡ o
or_none None = refl
or_none (Some v) = refl

or_map : {V Y : Type 0} (f : V → Y) (a b : Option V) → option_map f (or_else a b) ≡ or_else (option_map f a) (option_map f b)
or_map f None b = refl
or_map f (Some v) b = refl

map_if : {V Y : Type 0} (f : V → Y) (b : Bool) (v : V) → option_map f (if b then Some v else None) ≡ (if b then Some (f v) else None)
map_if f true v = refl
map_if f false v = refl

find_push : {X : Type 0} (p : X → Bool) (xs : List X) (x : X) → find p (xs ++ x ∷ []) ≡ or_else (find p xs) (if p x then Some x else None)
find_push p [] x = ⊎_elim (λ yes. rw yes refl) (λ no. rw no refl) (cases_Bool (p x))
find_push p (y ∷ ys) x = ⊎_elim (λ yes. rw yes refl) (λ no. rw no (find_push p ys x)) (cases_Bool (p y))

apart : (other text : Utf8) → bytes_eq other text ≡ false → bytes_eq text other ≡ false
apart other text none = false_from_ne_true _ (λ t. both_ways _ none ((bytes_eq-Decides other text).1 (sym ((bytes_eq-Decides text other).0 t))))

there : {V : Type 0} (o : Option V) (b : Option V) → is_some o ≡ true → o ≡ or_else o b
there None b e = cc
there (Some v) b e = refl

none_there : {V : Type 0} (o : Option V) → is_some o ≡ false → o ≡ None
none_there None e = refl
none_there (Some v) e = cc

module _ {V S : Type 0} where
  -- a text that has no value gets one
  pub added : (old new : IndexMap (Bor Utf8) V S) (text : Utf8) (v : V) → is_some (value_at old text) ≡ false
      → ((q : Bor Utf8) → value_at new q.now ≡ cond (bytes_eq text q.now) (Some v) (value_at old q.now))
      → (other : Utf8) → value_at new other ≡ or_else (value_at old other) (if bytes_eq other text then Some v else None)
  added old new text v none all other =
      let q : Bor Utf8 = record { ref_ptr = (0, 0); now = other } in
      ⊎_elim
      (λ yes.
      let same : other ≡ text = (bytes_eq-Decides other text).0 yes in
      let is : bytes_eq text other ≡ true = (bytes_eq-Decides text other).1 (sym same) in
      let empty : value_at old other ≡ None = ap (value_at old) same ∙ none_there (value_at old text) none in
      all q ∙ cond-true _ _ _ is ∙ rw (empty, yes) refl)
      (λ no. all q ∙ cond-false _ _ _ (apart other text no) ∙ rw no (sym (or_none (value_at old other))))
      (cases_Bool (bytes_eq other text))

  -- one that has a value keeps it
  pub kept : (old : IndexMap (Bor Utf8) V S) (text : Utf8) (v : V) → is_some (value_at old text) ≡ true
      → (other : Utf8) → value_at old other ≡ or_else (value_at old other) (if bytes_eq other text then Some v else None)
  kept old text v some other =
      ⊎_elim
      (λ yes.
      let same : other ≡ text = (bytes_eq-Decides other text).0 yes in
      there (value_at old other) _ (ap (λ (t : Utf8). is_some (value_at old t)) same ∙ some))
      (λ no. rw no (sym (or_none (value_at old other))))
      (cases_Bool (bytes_eq other text))

  -- the first with one value more
  pub one_more : {X Y : Type 0} (seen : V → Y) (made : X → Y) (key : X → Utf8) (xs : List X) (x : X) (old new : IndexMap (Bor Utf8) V S) (text : Utf8) (v : V)
      → text ≡ key x → seen v ≡ made x → HasFirsts seen made key xs old
      → ((other : Utf8) → value_at new other ≡ or_else (value_at old other) (if bytes_eq other text then Some v else None))
      → HasFirsts seen made key (xs ++ x ∷ []) new
  one_more seen made key xs x old new text v t s h a other =
      ap (option_map seen) (a other) ∙ or_map seen (value_at old other) _
      ∙ (λ j. or_else (h other j) (map_if seen (bytes_eq other (t j)) v j))
      ∙ (λ j. or_else (option_map made (find (λ y. bytes_eq other (key y)) xs)) (if bytes_eq other (key x) then Some (s j) else None))
      ∙ ap (or_else (option_map made (find (λ y. bytes_eq other (key y)) xs))) (sym (map_if made (bytes_eq other (key x)) x))
      ∙ sym (or_map made (find (λ y. bytes_eq other (key y)) xs) (if bytes_eq other (key x) then Some x else None))
      ∙ ap (option_map made) (sym (find_push (λ y. bytes_eq other (key y)) xs x))

  -- those before a place and the one there are those before the next
  pub up_to_next : {X Y : Type 0} (seen : V → Y) (made : X → Y) (key : X → Utf8) (xs : List X) (i : ℕ) (x : X) (m : IndexMap (Bor Utf8) V S)
      → i < length xs → x ≡ get_or xs i x → HasFirsts seen made key (take i xs ++ x ∷ []) m
      → HasFirsts seen made key (take (i + 1) xs) m
  up_to_next {X} {Y} seen made key xs i x m l at h other =
      h other
      ∙ ap (λ (ys : List X). option_map made (find (λ y. bytes_eq other (key y)) ys)) (sym (take_more xs i x l ∙ ap (λ y. take i xs ++ y ∷ []) (sym at)))

  -- the first of one value more
  pub one_first : {X Y : Type 0} (seen : V → Y) (made : X → Y) (key : X → Utf8) (xs : List X) (i : ℕ) (x : X) (old new : IndexMap (Bor Utf8) V S) (text : Utf8) (v : V)
      → i < length xs → x ≡ get_or xs i x → text ≡ key x → seen v ≡ made x → HasFirsts seen made key (take i xs) old
      → ((other : Utf8) → value_at new other ≡ or_else (value_at old other) (if bytes_eq other text then Some v else None))
      → HasFirsts seen made key (take (i + 1) xs) new
  one_first seen made key xs i x old new text v l at t s h a =
      up_to_next seen made key xs i x new l at (one_more seen made key (take i xs) x old new text v t s h a)

map_same : {V : Type 0} (o : Option V) → option_map (λ x. x) o ≡ o
map_same None = refl
map_same (Some v) = refl

module _ {V S : Type 0} where
  -- what the map has for a text is the first with that text
  pub got_first : {X Y : Type 0} (seen : V → Y) (made : X → Y) (key : X → Utf8) (xs : List X) (m : IndexMap (Bor Utf8) V S) (text : Utf8) (o : Option V) → HasFirsts seen made key xs m → o ≡ value_at m text
      → option_map seen o ≡ option_map made (find (λ x. bytes_eq text (key x)) xs)
  got_first seen made key xs m text o h e = ap (option_map seen) e ∙ h text

  pub got_same : {X : Type 0} (seen : V → X) (key : X → Utf8) (xs : List X) (m : IndexMap (Bor Utf8) V S) (text : Utf8) (o : Option V) → HasFirsts seen (λ x. x) key xs m → o ≡ value_at m text
      → option_map seen o ≡ find (λ x. bytes_eq text (key x)) xs
  got_same seen key xs m text o h e = got_first seen (λ x. x) key xs m text o h e ∙ map_same _

any_is : {X : Type 0} (p : X → Bool) (xs : List X) → is_some (find p xs) ≡ list_any p xs
any_is p [] = refl
any_is p (x ∷ xs) = ⊎_elim (λ yes. rw yes refl) (λ no. rw no (any_is p xs)) (cases_Bool (p x))

some_map : {V Y : Type 0} (f : V → Y) (o : Option V) → is_some (option_map f o) ≡ is_some o
some_map f None = refl
some_map f (Some v) = refl

-- a map has a text exactly where a value has it
pub has_any : {V S X Y : Type 0} (seen : V → Y) (made : X → Y) (key : X → Utf8) (xs : List X) (m : IndexMap (Bor Utf8) V S) (text : Utf8) → HasFirsts seen made key xs m
    → is_some (value_at m text) ≡ list_any (λ x. bytes_eq text (key x)) xs
has_any seen made key xs m text h =
    sym (some_map seen (value_at m text)) ∙ ap is_some (h text) ∙ some_map made (find (λ x. bytes_eq text (key x)) xs) ∙ any_is (λ x. bytes_eq text (key x)) xs

or_of : {X Y : Type 0} (f : X → Y) (o : Option X) (d : Y) → unwrap_or (option_map f o) d ≡ option_map_or f o d
or_of f None d = refl
or_of f (Some x) d = refl

-- the places of the document that a map has for a text
pub places_found : {S : Type 0} (docs : List DocumentEntry) (m : IndexMap (Bor Utf8) (List Place) S) (text uri : Utf8) (o : Option (List Place)) → HasFirsts (λ l. l) (λ d. d.places) (λ d. d.uri) docs m → o ≡ value_at m text
    → text ≡ uri → unwrap_or o [] ≡ option_map_or (λ d. d.places) (find (λ d. bytes_eq uri d.uri) docs) []
places_found docs m text uri o h e same =
    ap (λ (w : Option (List Place)). unwrap_or w []) (sym (map_same o) ∙ got_first (λ l. l) (λ d. d.places) (λ d. d.uri) docs m text o h e)
    ∙ or_of (λ (d : DocumentEntry). d.places) (find (λ d. bytes_eq text d.uri) docs) []
    ∙ ap (λ (t : Utf8). option_map_or (λ d. d.places) (find (λ d. bytes_eq t d.uri) docs) []) same

-- the pickle of a case
pub entry_found : (l : Listing) (id : Utf8) (c : CaseEntry) (o : Option PickleEntry) → Some c ≡ find (λ c. bytes_eq id c.id) l.cases → o ≡ find (λ p. bytes_eq c.pickle_id p.id) l.pickles → o ≡ entry_of l id
entry_found l id c o case e = e ∙ ap (option_and_then (λ (c : CaseEntry). find (λ p. bytes_eq c.pickle_id p.id) l.pickles)) case

pub no_entry : (l : Listing) (id : Utf8) → None ≡ find (λ c. bytes_eq id c.id) l.cases → None ≡ entry_of l id
no_entry l id case = ap (option_and_then (λ (c : CaseEntry). find (λ p. bytes_eq c.pickle_id p.id) l.pickles)) case
