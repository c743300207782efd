-- The compact text of a plain value is read as that value.
use Rattle.std.proofs.Common.{◌≡◌, ℕ, suc, ◌≤◌, max, List, [], ◌∷◌, ◌++◌, Bool, true, false, Some, Ordering, Less, Equal, Greater, IsUtf8, refl, sym, ap, ap₂, ◌∙◌, arith, append-nil, decimal, nat_cmp}
use Rattle.std.specs.Prelude.{⊤}
use Rattle.std.specs.Ordering.{ordering_reverse, is_lt}
use Rattle.std.proofs.lemmas.Bool.{and_parts}
use Rattle.std.specs.Cmp.Lexicographic.{slice_cmp}
use Rattle.std.proofs.lemmas.Cmp.{nat_list_cmp_total}
use Rattle.std.proofs.lemmas.Fmt.{IsAscii-decimal}
use Rattle.std.proofs.lemmas.Str.{IsUtf8-append, IsUtf8-nil, IsUtf8-from_ascii}
use Rattle.json.specs.Lex.{tokens}
use Rattle.json.specs.Tree as tree
use Rattle.json.proofs.Printed.Decimals.{IsNumber-decimal}
use Rattle.json.proofs.Printed.Tokens.{tokens-print}
use Rattle.json.proofs.Printed.Trees.{ArePrintable-json_tokens, value-json_tokens}
use Rattle.json.proofs.Printed.Utf8.{IsUtf8-quoted, IsUtf8-boolean, IsUtf8-are_ascii}
use Rattle.serde_json.specs.Data.{unsigned, negative, float, Data, null, boolean, number, string, array, object, Items, no_items, item, Members, no_members, member, put, depth, items_depth, members_depth}
use Rattle.serde_json.specs.Read.{read, max_depth, of_json, of_items, of_members}
use Rattle.serde_json.specs.Written.{outline, items_outline, members_outline, compact_text, items_text, members_text, comma_if}
use Rattle.serde_json.proofs.Numbers.{number_of-decimal}
use Rattle.serde_json.proofs.Texts.{print-outline}
use Rattle.cm_read_back.specs.Laws.{PlainHaveLines}
use Rattle.cm_read_back.specs.Values.{IsPlain, ItemsArePlain, MembersArePlain, sorts_before, in_order, items_in_order, members_in_order}

-- ---- members that go in one after another, in order

abbrev joined : Members → Members → Members
joined no_members more = more
joined (member k d ms) more = member k d (joined ms more)

-- all of the first come before the second
abbrev AllBefore : Members → Members → Type 0
AllBefore no_members more = ⊤
AllBefore (member k d ms) more = (sorts_before k more ≡ true) × AllBefore ms more

joined_none : (ms : Members) → joined ms no_members ≡ ms
joined_none no_members = refl
joined_none (member k d ms) = ap (member k d) (joined_none ms)

joined_one : (found ms : Members) (k : List ℕ) (d : Data) → joined (joined found (member k d no_members)) ms ≡ joined found (member k d ms)
joined_one no_members ms k d = refl
joined_one (member l e found) ms k d = ap (member l e) (joined_one found ms k d)

is_less : (o : Ordering) → is_lt o ≡ true → o ≡ Less
is_less Less h = refl
is_less Equal h = cc
is_less Greater h = cc

put_last : (found ms : Members) (k : List ℕ) (d : Data) → AllBefore found (member k d ms) → put k d found ≡ joined found (member k d no_members)
put_last no_members ms k d h = refl
put_last (member l e found) ms k d h =
    let above : slice_cmp nat_cmp k l ≡ Greater = nat_list_cmp_total.antisymm k l ∙ ap ordering_reverse (is_less _ (and_parts _ _ h.0).0) in
    rw above (ap (member l e) (put_last found ms k d h.1))

one_more : (found ms : Members) (k : List ℕ) (d : Data) → AllBefore found (member k d ms) → sorts_before k ms ≡ true → AllBefore (joined found (member k d no_members)) ms
one_more no_members ms k d h s = (s, tt)
one_more (member l e found) ms k d h s = ((and_parts _ _ h.0).1, one_more found ms k d h.1 s)

mutual
  value_back : (d : Data) → IsPlain d → in_order d ≡ true → of_json (outline d) ≡ Some d
  value_back null h o = refl
  value_back (boolean b) h o = refl
  value_back (number (unsigned n)) h o = rw (number_of-decimal n h) refl
  value_back (number (negative z)) h o = absurd h
  value_back (number (float x)) h o = absurd h
  value_back (string s) h o = refl
  value_back (array ds) h o = rw (items_back ds h o) refl
  value_back (object ms) h o = rw (members_back ms no_members h o tt) refl

  items_back : (ds : Items) → ItemsArePlain ds → items_in_order ds ≡ true → of_items (items_outline ds) ≡ Some ds
  items_back no_items h o = refl
  items_back (item d ds) h o = let p = and_parts _ _ o in rw (value_back d h.0 p.0, items_back ds h.1 p.1) refl

  members_back : (ms found : Members) → MembersArePlain ms → members_in_order ms ≡ true → AllBefore found ms → of_members (members_outline ms) found ≡ Some (joined found ms)
  members_back no_members found h o b = ap Some (sym (joined_none found))
  members_back (member k d ms) found h o b =
      let p = and_parts _ _ o in
      let q = and_parts _ _ p.1 in
      rw (value_back d h.1 q.0, put_last found ms k d b)
      (members_back ms (joined found (member k d no_members)) h.2 q.1 (one_more found ms k d b p.0) ∙ ap Some (joined_one found ms k d))

-- ---- what is printed

mutual
  numbers_are : (d : Data) → IsPlain d → tree.HasNumbers (outline d)
  numbers_are null h = tt
  numbers_are (boolean b) h = tt
  numbers_are (number (unsigned n)) h = IsNumber-decimal n h
  numbers_are (number (negative z)) h = absurd h
  numbers_are (number (float x)) h = absurd h
  numbers_are (string s) h = tt
  numbers_are (array ds) h = items_numbers_are ds h
  numbers_are (object ms) h = members_numbers_are ms h

  items_numbers_are : (ds : Items) → ItemsArePlain ds → tree.ItemsHaveNumbers (items_outline ds)
  items_numbers_are no_items h = tt
  items_numbers_are (item d ds) h = (numbers_are d h.0, items_numbers_are ds h.1)

  members_numbers_are : (ms : Members) → MembersArePlain ms → tree.MembersHaveNumbers (members_outline ms)
  members_numbers_are no_members h = tt
  members_numbers_are (member k d ms) h = (numbers_are d h.1, members_numbers_are ms h.2)

mutual
  depth_is : (d : Data) → tree.depth (outline d) ≡ depth d
  depth_is null = refl
  depth_is (boolean b) = refl
  depth_is (number n) = refl
  depth_is (string s) = refl
  depth_is (array ds) = ap suc (items_depth_is ds)
  depth_is (object ms) = ap suc (members_depth_is ms)

  items_depth_is : (ds : Items) → tree.items_depth (items_outline ds) ≡ items_depth ds
  items_depth_is no_items = refl
  items_depth_is (item d ds) = ap₂ max (depth_is d) (items_depth_is ds)

  members_depth_is : (ms : Members) → tree.members_depth (members_outline ms) ≡ members_depth ms
  members_depth_is no_members = refl
  members_depth_is (member k d ms) = ap₂ max (depth_is d) (members_depth_is ms)

-- ---- UTF-8

comma_utf8 : (later : Bool) → IsUtf8 (comma_if later)
comma_utf8 true = IsUtf8-are_ascii (44 ∷ []) refl
comma_utf8 false = IsUtf8-nil

byte_then : (x : ℕ) (s : List ℕ) → IsUtf8 (x ∷ []) → IsUtf8 s → IsUtf8 (x ∷ s)
byte_then x s u v = IsUtf8-append (x ∷ []) s u v

mutual
  pub text_utf8 : (d : Data) → IsPlain d → IsUtf8 (compact_text d)
  text_utf8 null h = IsUtf8-are_ascii _ refl
  text_utf8 (boolean b) h = IsUtf8-boolean b
  text_utf8 (number (unsigned n)) h = IsUtf8-from_ascii (decimal n) (IsAscii-decimal n h)
  text_utf8 (number (negative z)) h = absurd h
  text_utf8 (number (float x)) h = absurd h
  text_utf8 (string s) h = IsUtf8-quoted s h
  text_utf8 (array ds) h = byte_then 91 _ (IsUtf8-are_ascii (91 ∷ []) refl) (items_utf8 false ds h)
  text_utf8 (object ms) h = byte_then 123 _ (IsUtf8-are_ascii (123 ∷ []) refl) (members_utf8 false ms h)

  items_utf8 : (later : Bool) (ds : Items) → ItemsArePlain ds → IsUtf8 (items_text later ds)
  items_utf8 later no_items h = IsUtf8-are_ascii (93 ∷ []) refl
  items_utf8 later (item d ds) h = IsUtf8-append (comma_if later) _ (comma_utf8 later) (IsUtf8-append (compact_text d) _ (text_utf8 d h.0) (items_utf8 true ds h.1))

  members_utf8 : (later : Bool) (ms : Members) → MembersArePlain ms → IsUtf8 (members_text later ms)
  members_utf8 later no_members h = IsUtf8-are_ascii (125 ∷ []) refl
  members_utf8 later (member k d ms) h =
      let rest = IsUtf8-append (compact_text d) _ (text_utf8 d h.1) (members_utf8 true ms h.2) in
      IsUtf8-append (comma_if later) _ (comma_utf8 later) (IsUtf8-append _ _ (IsUtf8-quoted k h.0) (byte_then 58 _ (IsUtf8-are_ascii (58 ∷ []) refl) rest))

-- ---- the whole

text_back : (d : Data) → IsPlain d → in_order d ≡ true → depth d ≤ max_depth → read (compact_text d) ≡ Some d
text_back d h o shallow =
    let j = outline d in
    let ts : tokens (compact_text d) ≡ tree.json_tokens j ++ [] = ap tokens (sym (print-outline d)) ∙ tokens-print (tree.json_tokens j) (ArePrintable-json_tokens j (numbers_are d h)) ∙ sym (append-nil (tree.json_tokens j)) in
    let e = depth_is d in
    let v = value-json_tokens j max_depth [] (omega arith) in
    rw (ts, v) (value_back d h o)

pub plain_have_lines : PlainHaveLines
plain_have_lines d h o = (text_utf8 d h, λ shallow. text_back d h o shallow)
