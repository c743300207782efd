-- Reading the members of a JSON object. A reading is the value, or the name of the first bad member.
use Rattle.std.specs.Prelude.{ℕ, List, [], ◌∷◌, codes, Bool, true, not, ◌&&◌, if◌then◌else◌, Option, Some, None, is_some, option_map, option_and_then, unwrap_or, Result, Ok, Err, ⊤}
use Rattle.serde_json.specs.Data.{Data, Items, no_items, item}
use Rattle.serde_json.specs.Find.{get, as_str, as_null, as_number, as_u64, as_array, as_object}
use Rattle.gk_document.specs.MediaType.{unless_empty}

infixl 10 ◌>>=◌
abbrev pub ◌>>=◌ : {A B E : Type 0} → Result A E → (A → Result B E) → Result B E
(Ok x) >>= f = f x
(Err e) >>= f = Err e

-- Null is absence.
abbrev pub unless_null : Data → Option Data
unless_null d = if is_some (as_null d) then None else Some d

abbrev pub present_member : List ℕ → Data → Option Data
present_member name d = option_and_then unless_null (get name d)

-- a member: its name, and its value unless it is absent or null
abbrev pub NamedMember : Type 0
NamedMember = List ℕ × Option Data

abbrev pub member_of : List ℕ → Data → NamedMember
member_of name d = (name, present_member name d)

abbrev pub as_whole_number : Data → Option ℕ
as_whole_number d = option_and_then as_u64 (as_number d)

-- what was found, or the member is bad
abbrev pub good : {A : Type 0} → List ℕ → Option A → Result A (List ℕ)
good name None = Err name
good name (Some x) = Ok x

-- ---- members of one value

abbrev pub required_in : {A : Type 0} → (Data → Option A) → List ℕ → Option Data
    → Result A (List ℕ)
required_in type name d = good name (option_and_then type d)

abbrev pub required_member : {A : Type 0} → (Data → Option A) → List ℕ → Data → Result A (List ℕ)
required_member type name d = required_in type name (present_member name d)

abbrev pub optional_in : {A : Type 0} → (Data → Option A) → List ℕ → Option Data
    → Result (Option A) (List ℕ)
optional_in type name None = Ok None
optional_in type name (Some d) = good name (option_map Some (type d))

abbrev pub optional_member : {A : Type 0} → (Data → Option A) → List ℕ → Data
    → Result (Option A) (List ℕ)
optional_member type name d = optional_in type name (present_member name d)

-- with a value for an absent member
abbrev pub optional_or_in : {A : Type 0} → A → (Data → Option A) → List ℕ → Option Data
    → Result A (List ℕ)
optional_or_in absent type name d = do
  found ← optional_in type name d
  Ok (unwrap_or found absent)

abbrev pub optional_or : {A : Type 0} → A → (Data → Option A) → List ℕ → Data → Result A (List ℕ)
optional_or absent type name d = optional_or_in absent type name (present_member name d)

-- the media type of a doc string, which is none where it is empty
abbrev pub media_type_in : List ℕ → Option Data → Result (Option (List ℕ)) (List ℕ)
media_type_in name d = do
  media ← optional_in as_str name d
  Ok (option_and_then unless_empty media)

abbrev pub media_type_member : Data → Result (Option (List ℕ)) (List ℕ)
media_type_member d = media_type_in (codes "mediaType") (present_member (codes "mediaType") d)

-- ---- objects and lists

-- An element or a nested object that is no object makes the member bad.
abbrev pub object_in : {A : Type 0} → List ℕ → (Data → Result A (List ℕ)) → Data → Result A (List ℕ)
object_in name read d = good name (as_object d) >>= λ members. read d

abbrev pub nested_in : {A : Type 0} → (Data → Result A (List ℕ)) → List ℕ → Option Data
    → Result A (List ℕ)
nested_in read name d = good name d >>= object_in name read

abbrev pub nested_member : {A : Type 0} → (Data → Result A (List ℕ)) → List ℕ → Data
    → Result A (List ℕ)
nested_member read name d = nested_in read name (present_member name d)

abbrev pub optional_nested_in : {A : Type 0} → (Data → Result A (List ℕ)) → List ℕ → Option Data
    → Result (Option A) (List ℕ)
optional_nested_in read name None = Ok None
optional_nested_in read name (Some d) = object_in name read d >>= λ x. Ok (Some x)

abbrev pub optional_nested_member : {A : Type 0} → (Data → Result A (List ℕ)) → List ℕ → Data
    → Result (Option A) (List ℕ)
optional_nested_member read name d = optional_nested_in read name (present_member name d)

-- the items, one after the other
abbrev pub each : {A : Type 0} → (Data → Result A (List ℕ)) → Items → Result (List A) (List ℕ)
each read no_items = Ok []
each read (item d ds) = do
  first ← read d
  others ← each read ds
  Ok (first ∷ others)

-- An absent list is empty.
abbrev pub items_in : List ℕ → Option Data → Result Items (List ℕ)
items_in name None = Ok no_items
items_in name (Some d) = good name (as_array d)

abbrev pub list_in : {A : Type 0} → (Data → Result A (List ℕ)) → List ℕ → Option Data
    → Result (List A) (List ℕ)
list_in read name d = items_in name d >>= each (object_in name read)

abbrev pub list_of : {A : Type 0} → (Data → Result A (List ℕ)) → List ℕ → Data
    → Result (List A) (List ℕ)
list_of read name d = list_in read name (present_member name d)

abbrev pub values_in : {A : Type 0} → (Data → Option A) → List ℕ → Option Data
    → Result (List A) (List ℕ)
values_in type name d = items_in name d >>= each (λ e. good name (type e))

abbrev pub list_of_values : {A : Type 0} → (Data → Option A) → List ℕ → Data
    → Result (List A) (List ℕ)
list_of_values type name d = values_in type name (present_member name d)

-- ---- rules, checked when their member is reached

abbrev pub rule : List ℕ → Bool → Result ⊤ (List ℕ)
rule name holds = if holds then Ok tt else Err name

abbrev pub has_one_of : List ℕ → List ℕ → Data → Bool
has_one_of a b d =
    if is_some (present_member a d) then not (is_some (present_member b d))
    else is_some (present_member b d)

abbrev pub has_both : List ℕ → List ℕ → Data → Bool
has_both a b d = is_some (present_member a d) && is_some (present_member b d)

abbrev pub all_items : (Data → Bool) → Items → Bool
all_items test no_items = true
all_items test (item d ds) = test d && all_items test ds

-- where the member is a list, each item passes the test
abbrev pub each_item_in : (Data → Bool) → Option Data → Bool
each_item_in test d = unwrap_or (option_map (all_items test) (option_and_then as_array d)) true

abbrev pub each_item : (Data → Bool) → List ℕ → Data → Bool
each_item test name d = each_item_in test (present_member name d)
