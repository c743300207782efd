-- The text without spaces of a plain value is on one line.
use Rattle.std.proofs.Common.{◌≡◌, ℕ, ◌+◌, ◌<◌, ◌≤◌, ◌/◌, ◌%◌, ◌==◌, nat_lt, List, [], ◌∷◌, Bool, true, false, cond, ◌||◌, refl, arith, decimal}
use Rattle.std.specs.Char.{digit_char}
use Rattle.std.proofs.lemmas.Bool.Decides.{nat_tests}
use Rattle.std.proofs.lemmas.Fmt.{decimal_by_steps}
use Rattle.json.specs.Print.{escape_letter, escape_byte, escape, quoted}
use Rattle.serde_json.specs.Data.{unsigned, negative, float, Data, null, boolean, number, string, array, object, Items, no_items, item, Members, no_members, member}
use Rattle.serde_json.specs.Written.{compact_text, items_text, members_text, comma_if}
use Rattle.cm_envelope.specs.Feeds.{has_line_feed}
use Rattle.cm_envelope.proofs.Lines.{has_line_feed-append}
use Rattle.cm_read_back.specs.Values.{IsPlain, ItemsArePlain, MembersArePlain}

-- ---- strings

letter_no_feed : (x : ℕ) → (escape_letter x == 10) ≡ false
letter_no_feed x = go (x == 34 || x == 92) refl (x == 8) (x == 12) (x == 10) (x == 13) (x == 9)
  where
    go : (a : Bool) → (x == 34 || x == 92) ≡ a → (b c d e f : Bool)
        → (cond a x (cond b 98 (cond c 102 (cond d 110 (cond e 114 (cond f 116 0))))) == 10) ≡ false
    go true h b c d e f = grind (arith, nat_tests, h)
    go false h true c d e f = refl
    go false h false true d e f = refl
    go false h false false true e f = refl
    go false h false false false true f = refl
    go false h false false false false true = refl
    go false h false false false false false = refl

digit_no_feed : (d : ℕ) → (digit_char d == 10) ≡ false
digit_no_feed d = go (nat_lt d 10)
  where
    go : (b : Bool) → (cond b (48 + d) (87 + d) == 10) ≡ false
    go true = grind (arith, nat_tests)
    go false = grind (arith, nat_tests)

byte_no_feed : (x : ℕ) → has_line_feed (escape_byte x) ≡ false
unfolding escape_byte
byte_no_feed x = go (nat_lt 0 (escape_letter x)) (nat_lt x 32) refl
  where
    go : (a b : Bool) → nat_lt x 32 ≡ b
        → has_line_feed (cond a (92 ∷ escape_letter x ∷ []) (cond b (92 ∷ 117 ∷ 48 ∷ 48 ∷ digit_char (x / 16) ∷ digit_char (x % 16) ∷ []) (x ∷ []))) ≡ false
    go true b h = rw (letter_no_feed x) refl
    go false true h = rw (digit_no_feed (x / 16), digit_no_feed (x % 16)) refl
    go false false h = let other : (x == 10) ≡ false = grind (arith, nat_tests, h) in rw other refl

escape_no_feed : (s : List ℕ) → has_line_feed (escape s) ≡ false
escape_no_feed [] = refl
escape_no_feed (x ∷ s) = has_line_feed-append (escape_byte x) (escape s) (byte_no_feed x) (escape_no_feed s)

quoted_no_feed : (s : List ℕ) → has_line_feed (quoted s) ≡ false
quoted_no_feed s = has_line_feed-append (escape s) (34 ∷ []) (escape_no_feed s) refl

-- ---- numbers

one_digit : (n d : ℕ) → d ≤ 9 → has_line_feed ((48 + d) ∷ []) ≡ false
one_digit n d h = let other : ((48 + d) == 10) ≡ false = grind (arith, nat_tests) in rw other refl

pub decimal_no_feed : (n : ℕ) → n < 18446744073709551616 → has_line_feed (decimal n) ≡ false
decimal_no_feed n h = decimal_by_steps (λ m ds. has_line_feed ds ≡ false) (λ m k. one_digit m m (omega arith))
    (λ m ds k rec. has_line_feed-append ds ((48 + m % 10) ∷ []) rec (one_digit m (m % 10) (omega arith))) n h

-- ---- values

comma_no_feed : (later : Bool) → has_line_feed (comma_if later) ≡ false
comma_no_feed true = refl
comma_no_feed false = refl

mutual
  pub text_no_feed : (d : Data) → IsPlain d → has_line_feed (compact_text d) ≡ false
  text_no_feed null h = refl
  text_no_feed (boolean true) h = refl
  text_no_feed (boolean false) h = refl
  text_no_feed (number (unsigned n)) h = decimal_no_feed n h
  text_no_feed (number (negative z)) h = absurd h
  text_no_feed (number (float x)) h = absurd h
  text_no_feed (string s) h = quoted_no_feed s
  text_no_feed (array ds) h = items_no_feed false ds h
  text_no_feed (object ms) h = members_no_feed false ms h

  items_no_feed : (later : Bool) (ds : Items) → ItemsArePlain ds → has_line_feed (items_text later ds) ≡ false
  items_no_feed later no_items h = refl
  items_no_feed later (item d ds) h =
      has_line_feed-append (comma_if later) _ (comma_no_feed later) (has_line_feed-append (compact_text d) _ (text_no_feed d h.0) (items_no_feed true ds h.1))

  members_no_feed : (later : Bool) (ms : Members) → MembersArePlain ms → has_line_feed (members_text later ms) ≡ false
  members_no_feed later no_members h = refl
  members_no_feed later (member k d ms) h =
      has_line_feed-append (comma_if later) _ (comma_no_feed later)
      (has_line_feed-append (quoted k) _ (quoted_no_feed k) (has_line_feed-append (compact_text d) _ (text_no_feed d h.1) (members_no_feed true ms h.2)))
