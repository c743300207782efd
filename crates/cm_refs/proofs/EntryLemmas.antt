-- Look-ups, insertions and changes of a map with text keys, through a row for each entry.
use Rattle.std.proofs.Common.{◌≡◌, ◌∙◌, ap, sym, refl, subst, ℕ, ◌<◌, suc, zero, Bool, true, false, List, [], ◌∷◌, ◌++◌, ◌||◌, map, get_or, arith, Option, None, Some, Bor}
use Rattle.std.specs.Prelude.{find, option_map, position, slice_get, unwrap_or}
use Rattle.std.specs.List.{list_any}
use Rattle.std.specs.Option.{option_copied}
use Rattle.std.specs.Map.{keys_of, values_of, lookup}
use Rattle.std.specs.Str.{bytes_eq}
use Rattle.std.specs.Ordering.{on}
use Rattle.kept_texts.specs.Kept.{bytes_of}
use Rattle.kept_texts.specs.declared.kept_text.KeptText.{KeptText}
use Rattle.std.proofs.lemmas.List.{map-append}
use Rattle.std.proofs.lemmas.List.Quantifiers.{position-Some}
use Rattle.std.proofs.lemmas.Slice.Eq.{bytes_eq-Decides}
use Rattle.indexmap.specs.IndexMap.{IndexMap, insert_entry, set_value_at}
use Rattle.indexmap.proofs.CallerLemmas.{insert_entry-new}
use Rattle.cm_refs.specs.Declarations.{Utf8, change_first}

abbrev pub Key : Type 0
Key = KeptText

abbrev pub key_eq : Key → Key → Bool
key_eq = on bytes_of bytes_eq

abbrev pub is_key : Utf8 → Key → Bool
is_key id k = bytes_eq id (bytes_of k)

module _ {V Y : Type 0} (row : Utf8 → V → Y) where
  abbrev pub rows : List (Key × V) → List Y
  rows = map (λ e. row (bytes_of e.0) e.1)

  module _ (id : Utf8) (p : Y → Bool) (says : (t : Utf8) (v : V) → p (row t v) ≡ bytes_eq id t) where
    find_entry : (es : List (Key × V)) → find p (rows es) ≡ option_map (row id) (lookup (is_key id) es)
    find_entry [] = refl
    find_entry (e ∷ es) = go (is_key id e.0) refl (find_entry es)
      where
        go : (b : Bool) → is_key id e.0 ≡ b → find p (rows es) ≡ option_map (row id) (lookup (is_key id) es)
            → find p (rows (e ∷ es)) ≡ option_map (row id) (lookup (is_key id) (e ∷ es))
        go true h rec =
            let same : id ≡ bytes_of e.0 = (bytes_eq-Decides _ _).0 h in
            rw (says (bytes_of e.0) e.1, h, same) refl
        go false h rec = rw (says (bytes_of e.0) e.1, h) rec

    pub found_entry : (es : List (Key × V)) → option_map (row id) (lookup (is_key id) es) ≡ find p (rows es)
    found_entry es = sym (find_entry es)

    pub absent_key : (es : List (Key × V)) → find p (rows es) ≡ None → lookup (is_key id) es ≡ None
    absent_key es h = go (lookup (is_key id) es) (found_entry es ∙ h)
      where
        go : (o : Option V) → option_map (row id) o ≡ None → o ≡ None
        go None e = refl
        go (Some v) e = cc

    pub absent_get : (k : Key) → bytes_of k ≡ id → (es : List (Key × V)) → find p (rows es) ≡ None → lookup (key_eq k) es ≡ None
    absent_get k same es h = subst (λ t. lookup (is_key t) es ≡ None) (sym same) (absent_key es h)

    pub inserted_rows : {S : Type 0} (k : Key) → bytes_of k ≡ id → (m : IndexMap Key V S) (v : V) → find p (rows m.entries) ≡ None
        → rows (insert_entry key_eq m.entries k v) ≡ rows m.entries ++ row id v ∷ []
    inserted_rows k same m v h =
        ap rows (insert_entry-new key_eq m k v (absent_get k same m.entries h))
        ∙ subst (λ t. rows (m.entries ++ (k, v) ∷ []) ≡ rows m.entries ++ row t v ∷ []) same (map-append _ m.entries _)

  -- what the entry at an index, of which the key is the first to be the id, says of the rows
  pub record EntryAt (p : Y → Bool) (es : List (Key × V)) (i : ℕ) (v : V) : Type 0 where
    pub key : Utf8
    pub row_at : find p (rows es) ≡ Some (row key v)
    pub changed : (g : Y → Y) (w : V) → row key w ≡ g (row key v) → change_first p g (rows es) ≡ rows (set_value_at es i w)

  module _ (id : Utf8) (p : Y → Bool) (says : (t : Utf8) (v : V) → p (row t v) ≡ bytes_eq id t) where
    entry_at : (es : List (Key × V)) (i : ℕ) (v : V)
        → ((d : Key) → is_key id (get_or (keys_of es) i d) ≡ true)
        → ((k : ℕ) (d : Key) → k < i → is_key id (get_or (keys_of es) k d) ≡ false)
        → slice_get (values_of es) i ≡ Some v → EntryAt p es i v
    entry_at [] i v here below at = cc
    entry_at (e ∷ es) zero v here below at =
        let same : e.1 ≡ v = ap (λ o. unwrap_or o v) at in
        let yes : p (row (bytes_of e.0) e.1) ≡ true = says _ _ ∙ here e.0 in
        record {
          key = bytes_of e.0;
          row_at = rw (yes, same) refl;
          changed = λ g w h. rw (yes, h, same) refl;
        }
    entry_at (e ∷ es) (suc i) v here below at =
        let no : p (row (bytes_of e.0) e.1) ≡ false = says _ _ ∙ below 0 e.0 (omega arith) in
        let rest = entry_at es i v here (λ k d h. below (suc k) d (omega arith)) at in
        record {
          key = rest.key;
          row_at = rw no rest.row_at;
          changed = λ g w h. rw no (ap (λ ys. row (bytes_of e.0) e.1 ∷ ys) (rest.changed g w h));
        }

    pub first_entry : (es : List (Key × V)) (i : ℕ) (v : V) → position (is_key id) (keys_of es) ≡ Some i
        → slice_get (values_of es) i ≡ Some v → EntryAt p es i v
    first_entry es i v h at =
        entry_at es i v (λ d. (position-Some (is_key id) (keys_of es) i d h).1) (λ k d lt. (position-Some (is_key id) (keys_of es) i d h).2 k lt) at

    absent_entry : (es : List (Key × V)) → lookup (is_key id) es ≡ None → (g : Y → Y) → change_first p g (rows es) ≡ rows es
    absent_entry [] h g = refl
    absent_entry (e ∷ es) h g = go (is_key id e.0) refl (λ r. absent_entry es r g)
      where
        go : (b : Bool) → is_key id e.0 ≡ b → (lookup (is_key id) es ≡ None → change_first p g (rows es) ≡ rows es)
            → change_first p g (rows (e ∷ es)) ≡ rows (e ∷ es)
        go true k rec = let bad : Some e.1 ≡ None = rw k at h in cc
        go false k rec =
            let less : lookup (is_key id) es ≡ None = rw k at h in
            rw (says (bytes_of e.0) e.1, k) (ap (λ ys. row (bytes_of e.0) e.1 ∷ ys) (rec less))

    pub no_entry : (es : List (Key × V)) → lookup (is_key id) es ≡ None → (g : Y → Y) → change_first p g (rows es) ≡ rows es
    no_entry = absent_entry

pub copied_map : {V Y : Type 0} (f : V → Y) (o : Option (Bor V)) → option_map (λ x. f x.now) o ≡ option_map f (option_copied o)
copied_map f None = refl
copied_map f (Some x) = refl

pub list_any-map : {X Y : Type 0} (p : Y → Bool) (f : X → Y) (xs : List X) → list_any p (map f xs) ≡ list_any (λ x. p (f x)) xs
list_any-map p f [] = refl
list_any-map p f (x ∷ xs) = ap (λ b. p (f x) || b) (list_any-map p f xs)
