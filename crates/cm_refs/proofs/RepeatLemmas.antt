-- Equal texts in a list that grows at its end.
use Rattle.std.proofs.Common.{◌≡◌, ◌∙◌, ap, sym, refl, subst, ℕ, ◌+◌, ◌<◌, Bool, true, false, List, [], ◌∷◌, ◌++◌, ◌||◌, length, map, get_or, String, Global, take, drop, if◌then◌else◌}
use Rattle.std.specs.List.{list_any}
use Rattle.std.specs.Str.{bytes_eq}
use Rattle.std.specs.String.{string_bytes}
use Rattle.kept_texts.specs.Kept.{bytes_of}
use Rattle.indexmap.specs.IndexSet.{insert_key}
use Rattle.std.proofs.lemmas.List.{map-append, take_more, take-append-drop}
use Rattle.std.proofs.lemmas.List.Folds.{list_any-append}
use Rattle.std.proofs.lemmas.Slice.Eq.{bytes_eq-Decides}
use Rattle.cm_refs.specs.Declarations.{Utf8, has_repeat, has_text}
use Rattle.cm_refs.proofs.EntryLemmas.{Key, key_eq}
use Rattle.cm_refs.proofs.EntryLemmas.{list_any-map}

bytes_eq-swap : (a b : Utf8) → bytes_eq a b ≡ bytes_eq b a
bytes_eq-swap a b = by (bytes_eq a b) (bytes_eq b a) refl refl
  where
    by : (x y : Bool) → bytes_eq a b ≡ x → bytes_eq b a ≡ y → bytes_eq a b ≡ bytes_eq b a
    by true y e f = e ∙ sym ((bytes_eq-Decides b a).1 (sym ((bytes_eq-Decides a b).0 e)))
    by false true e f = (bytes_eq-Decides a b).1 (sym ((bytes_eq-Decides b a).0 f)) ∙ sym f
    by false false e f = e ∙ sym f

or_turned : (a b c d : Bool) → ((a || (b || false)) || (c || d)) ≡ ((b || c) || (a || d))
or_turned true true c d = refl
or_turned true false true d = refl
or_turned true false false d = refl
or_turned false true c d = refl
or_turned false false c d = refl

-- a list with one more text repeats where the text was there or the list did
pub has_repeat-push : (xs : List Utf8) (y : Utf8) → has_repeat (xs ++ y ∷ []) ≡ (has_text y xs || has_repeat xs)
has_repeat-push [] y = refl
has_repeat-push (x ∷ xs) y =
    (λ i. list_any-append (bytes_eq x) xs (y ∷ []) i || has_repeat-push xs y i)
    ∙ ap (λ b. (has_text x xs || (b || false)) || (has_text y xs || has_repeat xs)) (bytes_eq-swap x y)
    ∙ or_turned (has_text x xs) (bytes_eq y x) (has_text y xs) (has_repeat xs)

or_front : (a b c d : Bool) → (a || c) ≡ true → (c ≡ true → d ≡ true) → ((a || b) || d) ≡ true
or_front true b c d h rest = refl
or_front false true c d h rest = refl
or_front false false c d h rest = rest h

-- a repeat in front stays
pub has_repeat-front : (xs ys : List Utf8) → has_repeat xs ≡ true → has_repeat (xs ++ ys) ≡ true
has_repeat-front [] ys h = cc
has_repeat-front (x ∷ xs) ys h =
    ap (λ b. b || has_repeat (xs ++ ys)) (list_any-append (bytes_eq x) xs ys)
    ∙ or_front (has_text x xs) (has_text x ys) (has_repeat xs) (has_repeat (xs ++ ys)) h (has_repeat-front xs ys)

-- a text that is before its place too
pub repeat_at : (xs : List Utf8) (i : ℕ) (d : Utf8) → i < length xs → has_text (get_or xs i d) (take i xs) ≡ true → has_repeat xs ≡ true
repeat_at xs i d lt there =
    let front : has_repeat (take (i + 1) xs) ≡ true =
    ap has_repeat (take_more xs i d lt) ∙ has_repeat-push (take i xs) (get_or xs i d) ∙ ap (λ b. b || has_repeat (take i xs)) there in
    subst (λ l. has_repeat l ≡ true) (take-append-drop (i + 1) xs) (has_repeat-front (take (i + 1) xs) (drop (i + 1) xs) front)

-- a text that is new at its place
pub no_repeat_at : (xs : List Utf8) (i : ℕ) (d : Utf8) → i < length xs → has_text (get_or xs i d) (take i xs) ≡ false
    → has_repeat (take i xs) ≡ false → has_repeat (take (i + 1) xs) ≡ false
no_repeat_at xs i d lt new none =
    ap has_repeat (take_more xs i d lt) ∙ has_repeat-push (take i xs) (get_or xs i d) ∙ (λ j. new j || none j)

-- a text that is among those before its place
pub repeat_after : (all yielded : List (String Global)) (text : String Global) → yielded ≡ take (length yielded) all → length yielded < length all → text ≡ get_or all (length yielded) text
    → has_text (string_bytes text) (map string_bytes yielded) ≡ true → has_repeat (map string_bytes all) ≡ true
repeat_after all yielded text so_far lt here there =
    let next = length yielded + 1 in
    let front : take next all ≡ yielded ++ text ∷ [] =
    take_more all (length yielded) text lt ∙ (λ j. sym so_far j ++ sym here j ∷ []) in
    let whole : all ≡ (yielded ++ text ∷ []) ++ drop next all =
    sym (take-append-drop next all) ∙ ap (λ l. l ++ drop next all) front in
    let texts = map string_bytes yielded in
    let mapped : map string_bytes all ≡ (texts ++ string_bytes text ∷ []) ++ map string_bytes (drop next all) =
    ap (map string_bytes) whole ∙ map-append string_bytes (yielded ++ text ∷ []) (drop next all)
    ∙ ap (λ l. l ++ map string_bytes (drop next all)) (map-append string_bytes yielded (text ∷ [])) in
    ap has_repeat mapped
    ∙ has_repeat-front (texts ++ string_bytes text ∷ []) (map string_bytes (drop next all))
    (has_repeat-push texts (string_bytes text) ∙ ap (λ b. b || has_repeat texts) there)

-- a new text goes last
pub appended_text : (keys : List Key) (k : Key) (name : Utf8) → bytes_of k ≡ name → has_text name (map bytes_of keys) ≡ false
    → map bytes_of (insert_key key_eq keys k) ≡ map bytes_of keys ++ name ∷ []
appended_text keys k name same new =
    let absent : list_any (key_eq k) keys ≡ false =
    sym (list_any-map (bytes_eq (bytes_of k)) bytes_of keys) ∙ (λ j. list_any (bytes_eq (same j)) (map bytes_of keys)) ∙ new in
    ap (λ b. map bytes_of (if b then keys else keys ++ k ∷ [])) absent
    ∙ map-append bytes_of keys (k ∷ [])
    ∙ (λ j. map bytes_of keys ++ same j ∷ [])
