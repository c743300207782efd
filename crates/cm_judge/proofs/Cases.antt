-- The steps of a case beside those of its pickle, and the pickles that cases name.
use Rattle.std.proofs.Common.{◌≡◌, ◌∙◌, ap, sym, refl, ℕ, ◌+◌, ◌<◌, suc, zero, Bool, true, false, List, [], ◌∷◌, length, get_or, drop, map, arith, add-one}
use Rattle.std.specs.Prelude.{Option, None, Some, slice_get}
use Rattle.std.specs.List.{filter_map, list_any}
use Rattle.std.specs.Option.{option_map_or}
use Rattle.std.specs.Str.{bytes_eq}
use Rattle.kept_texts.specs.Kept.{bytes_of}
use Rattle.std.proofs.lemmas.List.{at_drop_more, map-append}
use Rattle.indexmap.specs.IndexSet.{insert_key}
use Rattle.cm_stream.specs.Texts.{Utf8, same_texts}
use Rattle.cm_envelope.specs.declared.envelope.TestStep.{TestStep}
use Rattle.cm_attempt.specs.Table.{has_text}
use Rattle.cm_refs.proofs.EntryLemmas.{Key, key_eq, list_any-map}
use Rattle.cm_state.specs.Summary.{with_name}

-- ---- the ids that some of the elements have, from an index on

module _ {X : Type 0} (f : X → Option Utf8) (ts : List X) (i : ℕ) (t : X) (within : i < length ts) (here : t ≡ get_or ts i t) where
  pub without_id : f t ≡ None → filter_map f (drop i ts) ≡ filter_map f (drop (i + 1) ts)
  without_id none =
      let none_there : f (get_or ts i t) ≡ None = ap f (sym here) ∙ none in
      at_drop_more (filter_map f) ts i t within ∙ rw none_there refl

  pub with_id : (id : Utf8) → f t ≡ Some id → filter_map f (drop i ts) ≡ id ∷ filter_map f (drop (i + 1) ts)
  with_id id some =
      let some_there : f (get_or ts i t) ≡ Some id = ap f (sym here) ∙ some in
      at_drop_more (filter_map f) ts i t within ∙ rw some_there refl

abbrev pub named_step : TestStep → Option Utf8
named_step s = s.pickle_step_id

-- ---- the text at an index

abbrev pub is_at : List Utf8 → ℕ → Utf8 → Bool
is_at ss n id = option_map_or (λ s. bytes_eq s id) (slice_get ss n) false

pub is_within : (ss : List Utf8) (n : ℕ) (id : Utf8) → is_at ss n id ≡ true → n < length ss
is_within [] n id h = cc
is_within (s ∷ ss) zero id h = omega arith
is_within (s ∷ ss) (suc n) id h = omega (arith, is_within ss n id h)

pub other_texts : (ss : List Utf8) (n : ℕ) (id : Utf8) (ids : List Utf8) → is_at ss n id ≡ false → same_texts (drop n ss) (id ∷ ids) ≡ false
other_texts [] zero id ids h = refl
other_texts [] (suc n) id ids h = refl
other_texts (s ∷ ss) zero id ids h = rw h refl
other_texts (s ∷ ss) (suc n) id ids h = other_texts ss n id ids h

same_further : (ss : List Utf8) (n : ℕ) (id : Utf8) (ids : List Utf8) → is_at ss n id ≡ true
    → same_texts (drop n ss) (id ∷ ids) ≡ same_texts (drop (suc n) ss) ids
same_further [] n id ids h = cc
same_further (s ∷ ss) zero id ids h = rw h refl
same_further (s ∷ ss) (suc n) id ids h = same_further ss n id ids h

pub same_after : (ss : List Utf8) (n : ℕ) (id : Utf8) (ids : List Utf8) → is_at ss n id ≡ true
    → same_texts (drop n ss) (id ∷ ids) ≡ same_texts (drop (n + 1) ss) ids
same_after ss n id ids h = rw add-one (same_further ss n id ids h)

-- ---- names

-- a name that is inserted goes last, if it is new
pub with_inserted : (keys : List Key) (k : Key) → map bytes_of (insert_key key_eq keys k) ≡ with_name (map bytes_of keys) (bytes_of k)
with_inserted keys k = go (list_any (key_eq k) keys) refl (list_any-map (bytes_eq (bytes_of k)) bytes_of keys)
  where
    go : (b : Bool) → list_any (key_eq k) keys ≡ b → has_text (bytes_of k) (map bytes_of keys) ≡ list_any (key_eq k) keys
        → map bytes_of (insert_key key_eq keys k) ≡ with_name (map bytes_of keys) (bytes_of k)
    go true e same = rw (same, e) refl
    go false e same = rw (same, e) (map-append bytes_of keys (k ∷ []))
