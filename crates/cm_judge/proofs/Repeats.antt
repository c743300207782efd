-- A set of the texts before an index.
use Rattle.std.proofs.Common.{◌≡◌, ◌∙◌, ap, sym, ℕ, ◌+◌, ◌<◌, Bool, false, List, [], ◌∷◌, ◌++◌, length, map, get_or, take, if◌then◌else◌, Bor}
use Rattle.std.specs.List.{list_any}
use Rattle.std.specs.Str.{bytes_eq}
use Rattle.std.proofs.lemmas.List.{map-append, take_more}
use Rattle.indexmap.specs.IndexSet.{insert_key}
use Rattle.cm_attempt.specs.Table.{Utf8, has_text}
use Rattle.cm_refs.proofs.EntryLemmas.{list_any-map}

abbrev now : Bor Utf8 → Utf8
now k = k.now

abbrev same_key : Bor Utf8 → Bor Utf8 → Bool
same_key a b = bytes_eq a.now b.now

module _ (keys : List (Bor Utf8)) (texts : List Utf8) (i : ℕ) (text : Utf8) (kept : map (λ k. k.now) keys ≡ take i texts)
    (here : text ≡ get_or texts i text) where
  pub has_text_before : (b : Bool) → b ≡ list_any (λ k. bytes_eq text k.now) keys → has_text (get_or texts i text) (take i texts) ≡ b
  has_text_before b found =
      (λ j. list_any (bytes_eq (sym here j)) (sym kept j)) ∙ list_any-map (bytes_eq text) now keys ∙ sym found

  -- the set after the text is inserted
  pub inserted_texts : (k : Bor Utf8) → k.now ≡ text → i < length texts → has_text (get_or texts i text) (take i texts) ≡ false
      → map (λ k. k.now) (insert_key (λ a b. bytes_eq a.now b.now) keys k) ≡ take (i + 1) texts
  inserted_texts k same lt new =
      let absent : list_any (same_key k) keys ≡ false =
      sym (list_any-map (bytes_eq k.now) now keys) ∙ (λ j. list_any (bytes_eq ((same ∙ here) j)) (kept j)) ∙ new in
      ap (λ b. map now (if b then keys else keys ++ k ∷ [])) absent
      ∙ map-append now keys (k ∷ [])
      ∙ (λ j. kept j ++ (same ∙ here) j ∷ [])
      ∙ sym (take_more texts i text lt)
