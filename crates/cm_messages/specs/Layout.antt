-- What the layouts of messages are made of: objects, lists, and what both documents and pickles hold.
use Rattle.std.specs.Prelude.{ℕ, List, [], ◌∷◌, map, Option, Some, None, option_map, option_and_then, decimal}
use Rattle.serde_json.specs.Data.{Data, string, array, object, Members, no_members, member, put}
use Rattle.serde_json.specs.View.{items_of}
use Rattle.gk_document.specs.MediaType.{unless_empty}

abbrev pub members_of : List (List ℕ × Data) → Members
members_of [] = no_members
members_of (m ∷ ms) = member m.0 m.1 (members_of ms)

abbrev pub object_of : List (List ℕ × Data) → Data
object_of ms = object (members_of ms)

abbrev pub list_data : {A : Type 0} → (A → Data) → List A → Data
list_data json xs = array (items_of (map json xs))

-- the members, with one more where there is a value
abbrev pub put_some : List ℕ → Option Data → Members → Members
put_some name None ms = ms
put_some name (Some d) ms = put name d ms

-- an object with a member that may be absent
abbrev pub object_with : List ℕ → Option Data → List (List ℕ × Data) → Data
object_with name value ms = object (put_some name value (members_of ms))

abbrev pub object_with_two : List ℕ → Option Data → List ℕ → Option Data → List (List ℕ × Data)
    → Data
object_with_two first value second other ms =
    object (put_some second other (put_some first value (members_of ms)))

-- an id is a number in decimal
abbrev pub id_data : ℕ → Data
id_data id = string (decimal id)

-- a media type, where it is not empty
abbrev pub media_data : Option (List ℕ) → Option Data
media_data media = option_map string (option_and_then unless_empty media)
