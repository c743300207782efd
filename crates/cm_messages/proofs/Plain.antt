-- Data without floats: objects, lists, and what is put into them.
use Rattle.std.proofs.Common.{◌≡◌, ℕ, List, [], ◌∷◌, ◌++◌, map, Bool, false, Less, Equal, Greater, Option, Some, None, refl}
use Rattle.std.specs.Prelude.{◌||◌, option_map}
use Rattle.std.specs.Ordering.{nat_cmp, match_ordering}
use Rattle.std.specs.Cmp.Lexicographic.{slice_cmp}
use Rattle.serde_json.specs.Data.{Data, array, object, Members, no_members, member, put}
use Rattle.serde_json.specs.View.{items_of}
use Rattle.serde_json.specs.Written.{has_float, items_have_float, members_have_float}
use Rattle.cm_messages.specs.Layout.{put_some, list_data}

abbrev pub IsPlain : Data → Type 0
IsPlain d = has_float d ≡ false

abbrev pub ArePlain : Members → Type 0
ArePlain no_members = Unit {0}
ArePlain (member k d ms) = IsPlain d × ArePlain ms

abbrev pub IsPlainObject : Data → Type 0
IsPlainObject (object ms) = ArePlain ms
IsPlainObject d = ⊥

abbrev pub IsPlainIfSome : Option Data → Type 0
IsPlainIfSome None = Unit {0}
IsPlainIfSome (Some d) = IsPlain d

abbrev pub AllPlain : List Data → Type 0
AllPlain [] = Unit {0}
AllPlain (d ∷ ds) = IsPlain d × AllPlain ds

either : (a b : Bool) → a ≡ false → b ≡ false → (a || b) ≡ false
either a b p q = rw (p, q)

pub plain_members : (ms : Members) → ArePlain ms → members_have_float ms ≡ false
plain_members no_members h = refl
plain_members (member k d ms) h = either (has_float d) (members_have_float ms) h.0 (plain_members ms h.1)

pub plain_object : (d : Data) → IsPlainObject d → IsPlain d
plain_object (object ms) h = plain_members ms h
plain_object _ h = absurd h

pub plain_items : (ds : List Data) → AllPlain ds → IsPlain (array (items_of ds))
plain_items [] h = refl
plain_items (d ∷ ds) h = either (has_float d) (items_have_float (items_of ds)) h.0 (plain_items ds h.1)

pub all_of_map : {X : Type 0} (json : X → Data) → ((x : X) → IsPlain (json x)) → (xs : List X) → AllPlain (map json xs)
all_of_map json h [] = tt
all_of_map json h (x ∷ xs) = (h x, all_of_map json h xs)

pub all_of_two : (ds es : List Data) → AllPlain ds → AllPlain es → AllPlain (ds ++ es)
all_of_two [] es h k = k
all_of_two (d ∷ ds) es h k = (h.0, all_of_two ds es h.1 k)

pub plain_list : {X : Type 0} (json : X → Data) → ((x : X) → IsPlain (json x)) → (xs : List X) → IsPlain (list_data json xs)
plain_list json h xs = plain_items (map json xs) (all_of_map json h xs)

pub plain_put : (k : List ℕ) (d : Data) (ms : Members) → IsPlain d → ArePlain ms → ArePlain (put k d ms)
plain_put k d no_members p h = (p, tt)
plain_put k d (member l e ms) p h =
    elim (slice_cmp nat_cmp k l) as (λ o. ArePlain (match_ordering o (member k d (member l e ms)) (member l d ms) (member l e (put k d ms)))) [
      | Less ↦ (p, h)
      | Equal ↦ (p, h.1)
      | Greater ↦ (h.0, plain_put k d ms p h.1)
    ]

pub plain_put_some : (k : List ℕ) (o : Option Data) (ms : Members) → IsPlainIfSome o → ArePlain ms → ArePlain (put_some k o ms)
plain_put_some k None ms p h = h
plain_put_some k (Some d) ms p h = plain_put k d ms p h

pub plain_map : {X : Type 0} (json : X → Data) → ((x : X) → IsPlain (json x)) → (o : Option X) → IsPlainIfSome (option_map json o)
plain_map json h None = tt
plain_map json h (Some x) = h x
