-- What stays true of the values of a map with text keys, and tests of its rows.
use Rattle.std.proofs.Common.{◌≡◌, ◌∙◌, ap, refl, subst, sym, ℕ, suc, zero, Bool, false, List, [], ◌∷◌, map, Option, None, Some, All}
use Rattle.std.specs.Prelude.{find, is_some, position, slice_get, unwrap_or}
use Rattle.std.specs.List.{list_all}
use Rattle.std.specs.Map.{keys_of, lookup, values_of}
use Rattle.std.specs.Str.{bytes_eq}
use Rattle.kept_texts.specs.Kept.{bytes_of}
use Rattle.std.proofs.lemmas.List.Elements.{All-cons, All-head, All-tail, All-nil}
use Rattle.std.proofs.lemmas.List.{map-append}
use Rattle.std.proofs.lemmas.List.Elements.{All-push}
use Rattle.indexmap.specs.IndexMap.{IndexMap, insert_entry, set_value_at}
use Rattle.indexmap.proofs.CallerLemmas.{insert_entry-new}
use Rattle.indexmap.proofs.MapLemmas.{some_index}
use Rattle.cm_refs.proofs.EntryLemmas.{Key, absent_get, is_key, key_eq, no_entry}
use Rattle.cm_attempt.specs.Table.{Utf8, change_first}

pub none_of : {X : Type 0} (o : Option X) → is_some o ≡ false → o ≡ None
none_of None h = refl
none_of (Some x) h = cc

module _ {V Y : Type 0} (row : Utf8 → V → Y) where
  abbrev pub rows : List (Key × V) → List Y
  rows = map (λ e. row (bytes_of e.0) e.1)

  module _ (id : Utf8) (p : Y → Bool) (says : (t : Utf8) (v : V) → p (row t v) ≡ bytes_eq id t) where
    pub few_inserted : {S : Type 0} (k : Key) → bytes_of k ≡ id → (m : IndexMap Key V S) (v : V) → find p (rows m.entries) ≡ None
        → (P : V → Type 0) → All P (values_of m.entries) → P v → All P (values_of (insert_entry key_eq m.entries k v))
    few_inserted k same m v h P all one =
        rw (insert_entry-new key_eq m k v (absent_get row id p says k same m.entries h), map-append) (All-push P (values_of m.entries) v all one)

    -- nothing changes where no key is the id
    pub nowhere : (es : List (Key × V)) → position (is_key id) (keys_of es) ≡ None → (g : Y → Y) → change_first p g (rows es) ≡ rows es
    nowhere es h g = no_entry row id p says es (none_of (lookup (is_key id) es) (sym (some_index (is_key id) es) ∙ ap is_some h)) g

  -- a test that the key doesn't change
  pub list_all-rows : (p : Y → Bool) → ((t : Utf8) (v : V) → p (row t v) ≡ p (row [] v)) → (es : List (Key × V))
      → list_all p (rows es) ≡ list_all (λ v. p (row [] v)) (values_of es)
  list_all-rows p same [] = refl
  list_all-rows p same (e ∷ es) = rw (same (bytes_of e.0) e.1, list_all-rows p same es) refl

-- a write at an index keeps a fact on the values
pub few_after : {V : Type 0} (P Q : V → Type 0) → ((x : V) → P x → Q x) → (es : List (Key × V)) (i : ℕ) (v w : V)
    → All P (values_of es) → slice_get (values_of es) i ≡ Some v → (P v → Q w) → All Q (values_of (set_value_at es i w))
few_after P Q weaker [] i v w all at here = All-nil Q
few_after P Q weaker (e ∷ es) zero v w all at here =
    let same : e.1 ≡ v = ap (λ o. unwrap_or o v) at in
    All-cons Q w (values_of es) (here (subst P same (All-head P e.1 (values_of es) all))) (λ k d lt. weaker _ (All-tail P e.1 (values_of es) all k d lt))
few_after P Q weaker (e ∷ es) (suc i) v w all at here =
    All-cons Q e.1 (values_of (set_value_at es i w)) (weaker e.1 (All-head P e.1 (values_of es) all))
    (few_after P Q weaker es i v w (All-tail P e.1 (values_of es) all) at here)
