-- What is read of the members of a value with texts of UTF-8.
use Rattle.std.proofs.Common.{ℕ, Bool, true, false, List, [], ◌∷◌, Option, Some, None, Result, Ok, Err, IsUtf8, codes, Ordering, Less, Equal, Greater}
use Rattle.std.specs.Prelude.{IfOk, IfSome, option_and_then, option_map}
use Rattle.std.specs.List.{AllByRecursion}
use Rattle.std.specs.Ordering.{nat_cmp, match_ordering}
use Rattle.std.specs.Cmp.Lexicographic.{slice_cmp}
use Rattle.serde_json.specs.Data.{Data, Items, Members, array, boolean, item, member, no_items, no_members, null, number, object, string}
use Rattle.serde_json.specs.Find.{as_array, as_object, as_str, get_member}
use Rattle.gk_document.specs.MediaType.{unless_empty}
use Rattle.cm_envelope.specs.Member.{◌>>=◌, each, good, items_in, list_of, list_of_values, media_type_member, nested_member, object_in, optional_in, optional_member, optional_nested_in, optional_nested_member, present_member, required_member, rule, unless_null}
use Rattle.cm_shown_laws.proofs.JsonTexts.{HasTexts, ItemsHaveTexts, MembersHaveTexts}
use Rattle.cm_compiled_good.proofs.Fine.{clean, MediaOf}

-- ---- readings

-- of each value with texts of UTF-8 is read what is asked
abbrev pub Reads : {A : Type 0} → (Data → Result A (List ℕ)) → (A → Type 0) → Type 0
Reads read P = (d : Data) → HasTexts d → IfOk (read d) P

abbrev pub Finds : {A : Type 0} → (Data → Option A) → (A → Type 0) → Type 0
Finds find P = (d : Data) → HasTexts d → IfSome (find d) P

pub bound : {A B E : Type 0} (r : Result A E) (f : A → Result B E) (P : A → Type 0) (Q : B → Type 0) → IfOk r P → ((x : A) → P x → IfOk (f x) Q) → IfOk (r >>= f) Q
bound (Ok x) f P Q h one = one x h
bound (Err e) f P Q h one = tt

pub chosen : {A B : Type 0} (o : Option A) (f : A → Option B) (P : A → Type 0) (Q : B → Type 0) → IfSome o P → ((x : A) → P x → IfSome (f x) Q) → IfSome (option_and_then f o) Q
chosen None f P Q h one = tt
chosen (Some x) f P Q h one = one x h

pub good_is : {A : Type 0} (name : List ℕ) (o : Option A) (P : A → Type 0) → IfSome o P → IfOk (good name o) P
good_is name None P h = tt
good_is name (Some x) P h = h

-- what comes after a rule that is checked
pub ruled : {A : Type 0} (name : List ℕ) (b : Bool) (r : Result A (List ℕ)) (P : A → Type 0) → IfOk r P → IfOk (rule name b >>= λ checked. r) P
ruled name true r P h = h
ruled name false r P h = tt

-- ---- members

not_null : Finds unless_null HasTexts
not_null null h = tt
not_null (boolean b) h = h
not_null (number n) h = h
not_null (string s) h = h
not_null (array ds) h = h
not_null (object ms) h = h

among : (k : List ℕ) (ms : Members) → MembersHaveTexts ms → IfSome (get_member k ms) HasTexts
among k no_members h = tt
among k (member l e ms) h = go (slice_cmp nat_cmp k l) (among k ms h.1)
  where
    go : (o : Ordering) → IfSome (get_member k ms) HasTexts → IfSome (match_ordering o (get_member k ms) (Some e) (get_member k ms)) HasTexts
    go Less later = later
    go Equal later = h.0
    go Greater later = later

pub present : (name : List ℕ) → Finds (present_member name) HasTexts
present name null h = tt
present name (boolean b) h = tt
present name (number n) h = tt
present name (string s) h = tt
present name (array ds) h = tt
present name (object ms) h = chosen (get_member name ms) unless_null HasTexts HasTexts (among name ms h) not_null

pub str_is : Finds as_str IsUtf8
str_is null h = tt
str_is (boolean b) h = tt
str_is (number n) h = tt
str_is (string s) h = h
str_is (array ds) h = tt
str_is (object ms) h = tt

array_is : Finds as_array ItemsHaveTexts
array_is null h = tt
array_is (boolean b) h = tt
array_is (number n) h = tt
array_is (string s) h = tt
array_is (array ds) h = h
array_is (object ms) h = tt

pub required : {A : Type 0} (type : Data → Option A) (name : List ℕ) (P : A → Type 0) → Finds type P → Reads (required_member type name) P
required type name P one d h = good_is name (option_and_then type (present_member name d)) P (chosen (present_member name d) type HasTexts P (present name d h) one)

pub required_text : (name : List ℕ) → Reads (required_member as_str name) IsUtf8
required_text name = required as_str name IsUtf8 str_is

-- an optional value is as asked
abbrev pub Maybe : {A : Type 0} → (A → Type 0) → Option A → Type 0
Maybe P o = IfSome o P

some_of : {A : Type 0} (P : A → Type 0) (o : Option A) → IfSome o P → IfSome (option_map Some o) (Maybe P)
some_of P None h = tt
some_of P (Some x) h = h

pub optional : {A : Type 0} (type : Data → Option A) (name : List ℕ) (P : A → Type 0) → Finds type P → Reads (optional_member type name) (Maybe P)
optional {A} type name P one d h = go (present_member name d) (present name d h)
  where
    go : (o : Option Data) → IfSome o HasTexts → IfOk (optional_in type name o) (Maybe P)
    go None k = tt
    go (Some e) k = good_is name (option_map Some (type e)) (Maybe P) (some_of P (type e) (one e k))

media_kept : (o : Option (List ℕ)) → IfSome o IsUtf8 → MediaOf clean (option_and_then unless_empty o)
media_kept None h = tt
media_kept (Some []) h = tt
media_kept (Some (b ∷ bs)) h = h

pub media_read : Reads media_type_member (MediaOf clean)
media_read d h = bound (optional_member as_str (codes "mediaType") d) _ (Maybe IsUtf8) (MediaOf clean) (optional as_str (codes "mediaType") IsUtf8 str_is d h) media_kept

within_object : {A : Type 0} (read : Data → Result A (List ℕ)) (name : List ℕ) (P : A → Type 0) → Reads read P → Reads (object_in name read) P
within_object read name P one d h = go (as_object d)
  where
    go : (o : Option Members) → IfOk (good name o >>= λ ms. read d) P
    go None = tt
    go (Some ms) = one d h

pub nested : {A : Type 0} (read : Data → Result A (List ℕ)) (name : List ℕ) (P : A → Type 0) → Reads read P → Reads (nested_member read name) P
nested read name P one d h = bound (good name (present_member name d)) (object_in name read) HasTexts P (good_is name (present_member name d) HasTexts (present name d h)) (within_object read name P one)

pub optional_nested : {A : Type 0} (read : Data → Result A (List ℕ)) (name : List ℕ) (P : A → Type 0) → Reads read P → Reads (optional_nested_member read name) (Maybe P)
optional_nested {A} read name P one d h = go (present_member name d) (present name d h)
  where
    go : (o : Option Data) → IfSome o HasTexts → IfOk (optional_nested_in read name o) (Maybe P)
    go None k = tt
    go (Some e) k = bound (object_in name read e) (λ x. Ok (Some x)) P (Maybe P) (within_object read name P one e k) (λ x y. y)

each_read : {A : Type 0} (read : Data → Result A (List ℕ)) (P : A → Type 0) → Reads read P → (ds : Items) → ItemsHaveTexts ds → IfOk (each read ds) (AllByRecursion P)
each_read read P one no_items h = tt
each_read read P one (item d ds) h = bound (read d) _ P (AllByRecursion P) (one d h.0) (λ x k. bound (each read ds) _ (AllByRecursion P) (AllByRecursion P) (each_read read P one ds h.1) (λ xs ks. (k, ks)))

pub items_read : (name : List ℕ) (o : Option Data) → IfSome o HasTexts → IfOk (items_in name o) ItemsHaveTexts
items_read name None h = tt
items_read name (Some d) h = good_is name (as_array d) ItemsHaveTexts (array_is d h)

pub listed : {A : Type 0} (read : Data → Result A (List ℕ)) (name : List ℕ) (P : A → Type 0) → Reads read P → Reads (list_of read name) (AllByRecursion P)
listed read name P one d h =
    bound (items_in name (present_member name d)) (each (object_in name read)) ItemsHaveTexts (AllByRecursion P) (items_read name (present_member name d) (present name d h)) (each_read (object_in name read) P (within_object read name P one))

pub listed_values : {A : Type 0} (type : Data → Option A) (name : List ℕ) (P : A → Type 0) → Finds type P → Reads (list_of_values type name) (AllByRecursion P)
listed_values type name P one d h =
    bound (items_in name (present_member name d)) (each (λ e. good name (type e))) ItemsHaveTexts (AllByRecursion P) (items_read name (present_member name d) (present name d h))
    (each_read (λ e. good name (type e)) P (λ e k. good_is name (type e) P (one e k)))

-- each text is UTF-8
abbrev pub AreTexts : List (List ℕ) → Type 0
AreTexts ids = AllByRecursion IsUtf8 ids
