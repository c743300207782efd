-- Members of an object that are looked for by one walk over its members.
use Rattle.std.specs.Prelude.{◌≡◌, ℕ, ◌+◌, List, [], ◌∷◌, slice_index_or, Option, Some, None, option_map, unwrap_or, if◌then◌else◌, ⊤}
use Rattle.std.specs.Str.{bytes_eq}
use Rattle.serde_json.specs.Data.{Data}
use Rattle.serde_json.specs.View.{view}
use Rattle.cm_reading.specs.declared.member.Member.{Member}
use Rattle.cm_envelope.specs.Member.{NamedMember, present_member}

-- what was found of a member
abbrev pub value_of : Member → Option Data
value_of m = option_map (λ v. view v.now) m.value

-- a member's name, and what was found of it
abbrev pub as_named : Member → NamedMember
as_named m = (m.name.now, value_of m)

-- a member that is given this value where it has this name
abbrev pub with_value : List ℕ → Data → NamedMember → NamedMember
with_value name d m = if bytes_eq m.0 name then (m.0, Some d) else m

-- What was found before stays where there is no other.
abbrev pub or_before : Option Data → Option Data → Option Data
or_before found None = found
or_before found (Some d) = Some (unwrap_or found d)

-- a member once it was looked for in the object
abbrev pub looked_for : Data → NamedMember → NamedMember
looked_for d m = (m.0, or_before (present_member m.0 d) m.1)

-- The members from the place at on are those of a list, each once it was looked for.
abbrev pub AreFound : Data → List Member → ℕ → List Member → Type 0
AreFound d found at [] = ⊤
AreFound d found at (m ∷ ms) =
    ((x : Member) → as_named (slice_index_or found at x) ≡ looked_for d (as_named m))
    × AreFound d found (at + 1) ms
