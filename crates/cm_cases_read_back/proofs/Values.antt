-- What is shown of the text without spaces of a plain value is read as that value.
use Rattle.std.proofs.Common.{◌≡◌, ℕ, Bool, true, false, cond, List, [], ◌∷◌, ◌++◌, IsUtf8, Option, Some, refl, sym, ap, ap₂, ◌∙◌, append_assoc, append-nil, decimal}
use Rattle.std.specs.Prelude.{if◌then◌else◌, option_and_then}
use Rattle.std.proofs.lemmas.Str.{IsUtf8-nil}
use Rattle.json.specs.Lex.{Lexeme, between, colon, comma, fresh, lex, punctuate, string_token, token}
use Rattle.json.specs.Print.{escape, quoted, token_text}
use Rattle.json.specs.Json as json
use Rattle.json.specs.Text.{content, prepend}
use Rattle.json.specs.Token.{Token, begin_array, begin_object, end_array, end_object}
use Rattle.json.specs.Word.{ends_word, word}
use Rattle.json.proofs.Printed.Decimals.{IsNumber-decimal}
use Rattle.json.proofs.Printed.Numbers.{in_word-ended, lex-number}
use Rattle.json.proofs.Printed.Strings.{content-escape, lex-escape}
use Rattle.json.proofs.Printed.Utf8.{IsUtf8-are_ascii, IsUtf8-quoted}
use Rattle.serde_json.specs.Data.{Data, Items, Members, array, boolean, float, item, member, negative, no_items, no_members, null, number, object, string, unsigned}
use Rattle.serde_json.specs.Read.{max_depth, of_json, read}
use Rattle.serde_json.specs.Written.{comma_if, compact_text, items_text, members_text, number_text}
use Rattle.cm_cases.specs.Shown.{shown_json}
use Rattle.cm_read_back.specs.Values.{IsPlain, ItemsArePlain, MembersArePlain}
use Rattle.cm_read_back.proofs.Values.{plain_have_lines, text_utf8}
use Rattle.cm_cases_read_back.specs.Laws.{ShownHaveLines}
use Rattle.cm_cases_read_back.proofs.Strings.{are_bare, bare_shown, bare_utf8, decimal_shown, escape_utf8, shown_both, shown_utf8, string_stands}

-- ---- the lexemes of a value

abbrev commas : Bool → List Lexeme
commas later = if later then comma ∷ [] else []

abbrev mutual
  lexemes : Data → List Lexeme
  lexemes null = token Token.null ∷ []
  lexemes (boolean b) = token (Token.boolean b) ∷ []
  lexemes (number n) = token (Token.number (number_text n)) ∷ []
  lexemes (string s) = token (Token.string s) ∷ []
  lexemes (array ds) = token begin_array ∷ items_lexemes false ds
  lexemes (object ms) = token begin_object ∷ members_lexemes false ms

  items_lexemes : Bool → Items → List Lexeme
  items_lexemes later no_items = token end_array ∷ []
  items_lexemes later (item d ds) = commas later ++ (lexemes d ++ items_lexemes true ds)

  members_lexemes : Bool → Members → List Lexeme
  members_lexemes later no_members = token end_object ∷ []
  members_lexemes later (member k d ms) = commas later ++ (token (Token.string k) ∷ colon ∷ (lexemes d ++ members_lexemes true ms))

-- ---- a text that writes strings in some way

module _ (w : List ℕ → List ℕ) where
  abbrev mutual
    written : Data → List ℕ
    written null = token_text Token.null
    written (boolean b) = token_text (Token.boolean b)
    written (number n) = number_text n
    written (string s) = w s
    written (array ds) = 91 ∷ items_written false ds
    written (object ms) = 123 ∷ members_written false ms

    items_written : Bool → Items → List ℕ
    items_written later no_items = 93 ∷ []
    items_written later (item d ds) = comma_if later ++ (written d ++ items_written true ds)

    members_written : Bool → Members → List ℕ
    members_written later no_members = 125 ∷ []
    members_written later (member k d ms) = comma_if later ++ (w k ++ 58 ∷ (written d ++ members_written true ms))

  items_end : (ds : Items) (r : List ℕ) → ends_word (items_written true ds ++ r) ≡ true
  items_end no_items r = refl
  items_end (item d ds) r = refl

  members_end : (ms : Members) (r : List ℕ) → ends_word (members_written true ms ++ r) ≡ true
  members_end no_members r = refl
  members_end (member k d ms) r = refl

  comma_lexed : (later : Bool) (r : List ℕ) → lex between (comma_if later ++ r) ≡ commas later ++ lex between r
  unfolding lex
  comma_lexed true r = refl
  comma_lexed false r = refl

  module _ (strings : (s r : List ℕ) → IsUtf8 s → lex between (w s ++ r) ≡ token (Token.string s) ∷ lex between r) where
    mutual
      unfolding lex word

      lexed : (d : Data) → IsPlain d → (r : List ℕ) → ends_word r ≡ true → lex between (written d ++ r) ≡ lexemes d ++ lex between r
      lexed null h r ended = ap₂ (λ b l. token (cond b Token.null Token.bad) ∷ l) ended (in_word-ended r ended)
      lexed (boolean true) h r ended = ap₂ (λ b l. token (cond b (Token.boolean true) Token.bad) ∷ l) ended (in_word-ended r ended)
      lexed (boolean false) h r ended = ap₂ (λ b l. token (cond b (Token.boolean false) Token.bad) ∷ l) ended (in_word-ended r ended)
      lexed (number (unsigned n)) h r ended = lex-number (decimal n) r (IsNumber-decimal n h) ended
      lexed (number (negative z)) h r ended = absurd h
      lexed (number (float x)) h r ended = absurd h
      lexed (string s) h r ended = strings s r h
      lexed (array ds) h r ended = ap (λ l. token begin_array ∷ l) (items_lexed false ds h r)
      lexed (object ms) h r ended = ap (λ l. token begin_object ∷ l) (members_lexed false ms h r)

      items_lexed : (later : Bool) (ds : Items) → ItemsArePlain ds → (r : List ℕ) → lex between (items_written later ds ++ r) ≡ items_lexemes later ds ++ lex between r
      items_lexed later no_items h r = refl
      items_lexed later (item d ds) h r =
          ap (lex between) (append_assoc (comma_if later) _ r ∙ ap (λ l. comma_if later ++ l) (append_assoc (written d) _ r))
          ∙ comma_lexed later _
          ∙ ap (λ l. commas later ++ l)
          (lexed d h.0 (items_written true ds ++ r) (items_end ds r) ∙ ap (λ l. lexemes d ++ l) (items_lexed true ds h.1 r) ∙ sym (append_assoc (lexemes d) _ _))
          ∙ sym (append_assoc (commas later) _ _)

      members_lexed : (later : Bool) (ms : Members) → MembersArePlain ms → (r : List ℕ) → lex between (members_written later ms ++ r) ≡ members_lexemes later ms ++ lex between r
      members_lexed later no_members h r = refl
      members_lexed later (member k d ms) h r =
          ap (lex between) (append_assoc (comma_if later) _ r ∙ ap (λ l. comma_if later ++ l) (append_assoc (w k) _ r ∙ ap (λ l. w k ++ 58 ∷ l) (append_assoc (written d) _ r)))
          ∙ comma_lexed later _
          ∙ ap (λ l. commas later ++ l)
          (strings k _ h.0
          ∙ ap (λ l. token (Token.string k) ∷ colon ∷ l)
          (lexed d h.1 (members_written true ms ++ r) (members_end ms r) ∙ ap (λ l. lexemes d ++ l) (members_lexed true ms h.2 r) ∙ sym (append_assoc (lexemes d) _ _)))
          ∙ sym (append_assoc (commas later) _ _)

-- ---- the text as it is

mutual
  as_written : (d : Data) → compact_text d ≡ written quoted d
  as_written null = refl
  as_written (boolean b) = refl
  as_written (number n) = refl
  as_written (string s) = refl
  as_written (array ds) = ap (λ l. 91 ∷ l) (items_as_written false ds)
  as_written (object ms) = ap (λ l. 123 ∷ l) (members_as_written false ms)

  items_as_written : (later : Bool) (ds : Items) → items_text later ds ≡ items_written quoted later ds
  items_as_written later no_items = refl
  items_as_written later (item d ds) = ap₂ (λ (a b : List ℕ). comma_if later ++ (a ++ b)) (as_written d) (items_as_written true ds)

  members_as_written : (later : Bool) (ms : Members) → members_text later ms ≡ members_written quoted later ms
  members_as_written later no_members = refl
  members_as_written later (member k d ms) = ap₂ (λ (a b : List ℕ). comma_if later ++ (quoted k ++ 58 ∷ (a ++ b))) (as_written d) (members_as_written true ms)

quoted_lexed : (s r : List ℕ) → IsUtf8 s → lex between (quoted s ++ r) ≡ token (Token.string s) ∷ lex between r
unfolding lex
quoted_lexed s r u =
    ap (λ l. lex between (34 ∷ l)) (append_assoc (escape s) (34 ∷ []) r) ∙ ap₂ (λ o l. token (string_token o) ∷ l) (content-escape s r) (lex-escape s r)

-- ---- the text as it is shown

bare_then : (x : ℕ) (xs : List ℕ) → are_bare (x ∷ []) ≡ true → shown_json (x ∷ xs) ≡ x ∷ shown_json xs
bare_then x xs e = shown_both (x ∷ []) xs (bare_utf8 (x ∷ []) e) ∙ ap (λ l. l ++ shown_json xs) (bare_shown (x ∷ []) e)

abbrev shown_quoted : List ℕ → List ℕ
shown_quoted s = 34 ∷ (shown_json (escape s) ++ 34 ∷ [])

whole : (s : List ℕ) → prepend s (Some []) ≡ Some s
whole s = ap Some (append-nil s)

shown_lexed : (s r : List ℕ) → IsUtf8 s → lex between (shown_quoted s ++ r) ≡ token (Token.string s) ∷ lex between r
unfolding lex content
shown_lexed s r u =
    let stands = string_stands s u in
    ap (λ l. lex between (34 ∷ l)) (append_assoc (shown_json (escape s)) (34 ∷ []) r)
    ∙ ap₂ (λ o l. token (string_token o) ∷ l) (stands.read (34 ∷ r) ∙ whole s) (stands.lexed (34 ∷ r))

quoted_shown : (s : List ℕ) → IsUtf8 s → shown_json (quoted s) ≡ shown_quoted s
quoted_shown s u =
    bare_then 34 (escape s ++ 34 ∷ []) refl
    ∙ ap (λ l. 34 ∷ l) (shown_both (escape s) (34 ∷ []) (escape_utf8 s u) ∙ ap (λ l. shown_json (escape s) ++ l) (bare_shown (34 ∷ []) refl))

comma_utf8 : (later : Bool) → IsUtf8 (comma_if later)
comma_utf8 true = IsUtf8-are_ascii (44 ∷ []) refl
comma_utf8 false = IsUtf8-nil

comma_shown : (later : Bool) → shown_json (comma_if later) ≡ comma_if later
comma_shown true = bare_shown (44 ∷ []) refl
comma_shown false = bare_shown [] refl

mutual
  as_shown : (d : Data) → IsPlain d → shown_json (compact_text d) ≡ written shown_quoted d
  as_shown null h = bare_shown (token_text Token.null) refl
  as_shown (boolean true) h = bare_shown (token_text (Token.boolean true)) refl
  as_shown (boolean false) h = bare_shown (token_text (Token.boolean false)) refl
  as_shown (number (unsigned n)) h = decimal_shown n h
  as_shown (number (negative z)) h = absurd h
  as_shown (number (float x)) h = absurd h
  as_shown (string s) h = quoted_shown s h
  as_shown (array ds) h = bare_then 91 (items_text false ds) refl ∙ ap (λ l. 91 ∷ l) (items_as_shown false ds h)
  as_shown (object ms) h = bare_then 123 (members_text false ms) refl ∙ ap (λ l. 123 ∷ l) (members_as_shown false ms h)

  items_as_shown : (later : Bool) (ds : Items) → ItemsArePlain ds → shown_json (items_text later ds) ≡ items_written shown_quoted later ds
  items_as_shown later no_items h = bare_shown (93 ∷ []) refl
  items_as_shown later (item d ds) h =
      shown_both (comma_if later) _ (comma_utf8 later)
      ∙ ap₂ (λ (a b : List ℕ). a ++ b) (comma_shown later) (shown_both (compact_text d) _ (text_utf8 d h.0) ∙ ap₂ (λ (a b : List ℕ). a ++ b) (as_shown d h.0) (items_as_shown true ds h.1))

  members_as_shown : (later : Bool) (ms : Members) → MembersArePlain ms → shown_json (members_text later ms) ≡ members_written shown_quoted later ms
  members_as_shown later no_members h = bare_shown (125 ∷ []) refl
  members_as_shown later (member k d ms) h =
      shown_both (comma_if later) _ (comma_utf8 later)
      ∙ ap₂ (λ (a b : List ℕ). a ++ b) (comma_shown later)
      (shown_both (quoted k) _ (IsUtf8-quoted k h.0)
      ∙ ap₂ (λ (a b : List ℕ). a ++ b) (quoted_shown k h.0)
      (bare_then 58 _ refl ∙ ap (λ l. 58 ∷ l) (shown_both (compact_text d) _ (text_utf8 d h.1) ∙ ap₂ (λ (a b : List ℕ). a ++ b) (as_shown d h.1) (members_as_shown true ms h.2))))

-- ---- the whole

-- what is read of tokens
abbrev read_tokens : List Token → Option Data
read_tokens ts = option_and_then of_json (option_and_then (λ p. json.if_last p.0 p.1) (json.value max_depth ts))

same_lexed : (d : Data) → IsPlain d → lex between (shown_json (compact_text d)) ≡ lex between (compact_text d)
same_lexed d h =
    ap (lex between) (as_shown d h ∙ sym (append-nil (written shown_quoted d))) ∙ lexed shown_quoted shown_lexed d h [] refl
    ∙ sym (lexed quoted quoted_lexed d h [] refl) ∙ ap (lex between) (append-nil (written quoted d) ∙ sym (as_written d))

same_read : (d : Data) → IsPlain d → read (shown_json (compact_text d)) ≡ read (compact_text d)
same_read d h = ap (λ (ls : List Lexeme). read_tokens (punctuate fresh ls)) (same_lexed d h)

pub shown_have_lines : ShownHaveLines
shown_have_lines d h o =
    let line = plain_have_lines d h o in (shown_utf8 (compact_text d) line.0, λ shallow. same_read d h ∙ line.1 shallow)
