-- Values whose text is read back.
use Rattle.std.specs.Prelude.{ℕ, ◌^◌, ◌<◌, ◌&&◌, Bool, true, List, ⊤}
use Rattle.std.specs.Ordering.{nat_cmp, is_lt}
use Rattle.std.specs.Cmp.Lexicographic.{slice_cmp}
use Rattle.std.specs.Str.{IsUtf8}
use Rattle.serde_json.specs.Data.{Num, unsigned, negative, float, Data, null, boolean, number, string, array, object, Items, no_items, item, Members, no_members, member}

abbrev pub IsWhole : Num → Type 0
IsWhole (unsigned n) = n < 2 ^ 64
IsWhole (negative z) = ⊥
IsWhole (float x) = ⊥

-- the texts in the value are UTF-8, its numbers whole and of 64 bits
abbrev mutual
  pub IsPlain : Data → Type 0
  IsPlain null = ⊤
  IsPlain (boolean b) = ⊤
  IsPlain (number n) = IsWhole n
  IsPlain (string s) = IsUtf8 s
  IsPlain (array ds) = ItemsArePlain ds
  IsPlain (object ms) = MembersArePlain ms

  pub ItemsArePlain : Items → Type 0
  ItemsArePlain no_items = ⊤
  ItemsArePlain (item d ds) = IsPlain d × ItemsArePlain ds

  pub MembersArePlain : Members → Type 0
  MembersArePlain no_members = ⊤
  MembersArePlain (member k d ms) = IsUtf8 k × IsPlain d × MembersArePlain ms

-- the name comes before those of the members
abbrev pub sorts_before : List ℕ → Members → Bool
sorts_before name no_members = true
sorts_before name (member k d ms) = is_lt (slice_cmp nat_cmp name k) && sorts_before name ms

-- the objects in the value have their members in the order of their names
abbrev mutual
  pub in_order : Data → Bool
  in_order null = true
  in_order (boolean b) = true
  in_order (number n) = true
  in_order (string s) = true
  in_order (array ds) = items_in_order ds
  in_order (object ms) = members_in_order ms

  pub items_in_order : Items → Bool
  items_in_order no_items = true
  items_in_order (item d ds) = in_order d && items_in_order ds

  pub members_in_order : Members → Bool
  members_in_order no_members = true
  members_in_order (member k d ms) = sorts_before k ms && (in_order d && members_in_order ms)
