-- The texts of a value that is read of a text of UTF-8 are UTF-8.
use Rattle.std.proofs.Common.{◌≡◌, ◌==◌, ℕ, suc, zero, Bool, true, false, cond, List, [], ◌∷◌, ◌++◌, length, Option, Some, None, refl, sym, subst, arith, append_assoc, IsUtf8, Ordering, Less, Equal, Greater}
use Rattle.std.specs.Prelude.{option_and_then, option_map, IfSome, ⊤}
use Rattle.std.specs.List.{AllByRecursion}
use Rattle.std.proofs.lemmas.Bool.{eqb-true}
use Rattle.std.specs.Ordering.{nat_cmp, match_ordering}
use Rattle.std.specs.Cmp.Lexicographic.{slice_cmp}
use Rattle.json.specs.Text.{plain, content}
use Rattle.json.specs.Token.{Token}
use Rattle.json.specs.Word.{after_number, ends_word, head, is_operator, is_space, literal, number_before, word}
use Rattle.json.specs.Lex.{Class, Lexeme, Mode, Place, after_comma, after_key, after_value, backslash, begins_colon, between, class, colon, comma, fresh, if_allowed, in_escape, in_string, in_word, lex, lex_byte, may_begin, may_close, operator, operator_lexeme, other, place_token, punctuate, quote, space, string_token, token, tokens}
use Rattle.json.specs.Ascii as ascii
use Rattle.json.specs.Json as json
use Rattle.serde_json.specs.Data.{Data, Items, Members, Num, array, boolean, item, member, no_items, no_members, null, number, object, put, string}
use Rattle.serde_json.specs.Read.{max_depth, number_of, of_items, of_json, of_members, read}
use Rattle.cm_compiled_good.proofs.Filling.{cut_utf8}
use Rattle.cm_shown_laws.proofs.JsonStrings.{by_test, content_utf8}

-- ---- lexemes

abbrev TokenText : Token → Type 0
TokenText (Token.key s) = IsUtf8 s
TokenText (Token.string s) = IsUtf8 s
TokenText _ = ⊤

abbrev LexemeText : Lexeme → Type 0
LexemeText (token t) = TokenText t
LexemeText comma = ⊤
LexemeText colon = ⊤

abbrev AreTexts : List Lexeme → Type 0
AreTexts ls = AllByRecursion LexemeText ls

string_text : (o : Option (List ℕ)) → IfSome o IsUtf8 → TokenText (string_token o)
string_text None h = tt
string_text (Some s) h = h

operator_text : (x : ℕ) → LexemeText (operator_lexeme x)
operator_text x = by_test LexemeText (x == 123) _ _ (λ e. tt) (λ n0. by_test LexemeText (x == 125) _ _ (λ e. tt) (λ n1. by_test LexemeText (x == 91) _ _ (λ e. tt) (λ n2. by_test LexemeText (x == 93) _ _ (λ e. tt) (λ n3. by_test LexemeText (x == 44) _ _ (λ e. tt) (λ n4. tt)))))

literal_text : (name : List ℕ) (t : Token) (text : List ℕ) → TokenText t → TokenText (literal name t text)
literal_text name t text h = by_test TokenText _ t Token.bad (λ e. h) (λ e. tt)

number_text : (text : List ℕ) (o : Option (List ℕ)) → TokenText (number_before text o)
number_text text None = tt
number_text text (Some rest) = by_test TokenText (ends_word rest) _ _ (λ e. tt) (λ e. tt)

word_text : (text : List ℕ) → TokenText (word text)
unfolding word
word_text text = pick (head text == 116) (head text == 102) (head text == 110)
  where
    pick : (t f n : Bool) → TokenText (cond t (literal ascii.true_text (Token.boolean true) text) (cond f (literal ascii.false_text (Token.boolean false) text) (cond n (literal ascii.null_text Token.null text) (number_before text (after_number text)))))
    pick true f n = literal_text ascii.true_text (Token.boolean true) text tt
    pick false true n = literal_text ascii.false_text (Token.boolean false) text tt
    pick false false true = literal_text ascii.null_text Token.null text tt
    pick false false false = number_text text (after_number text)

quote_of : (q b o s : Bool) → cond q quote (cond b backslash (cond o operator (cond s space other))) ≡ quote → q ≡ true
quote_of true b o s e = refl
quote_of false true o s e = absurd cc
quote_of false false true s e = absurd cc
quote_of false false false true e = absurd cc
quote_of false false false false e = absurd cc

quote_is : (x : ℕ) → class x ≡ quote → x ≡ 34
quote_is x e = eqb-true x 34 (quote_of (x == 34) (x == 92) (is_operator x) (is_space x) e)

lexed_byte : (m : Mode) (c : Class) (x : ℕ) (xs : List ℕ) (k : Mode → List Lexeme) → (c ≡ quote → IsUtf8 xs) → ((n : Mode) → AreTexts (k n)) → AreTexts (lex_byte m c x xs k)
lexed_byte between quote x xs k u more = (string_text (content plain xs) (content_utf8 xs (u refl)), more in_string)
lexed_byte between backslash x xs k u more = (tt, more in_word)
lexed_byte between operator x xs k u more = (operator_text x, more between)
lexed_byte between space x xs k u more = more between
lexed_byte between other x xs k u more = (word_text (x ∷ xs), more in_word)
lexed_byte in_word quote x xs k u more = more in_word
lexed_byte in_word backslash x xs k u more = more in_word
lexed_byte in_word operator x xs k u more = (operator_text x, more between)
lexed_byte in_word space x xs k u more = more between
lexed_byte in_word other x xs k u more = more in_word
lexed_byte in_string quote x xs k u more = more between
lexed_byte in_string backslash x xs k u more = more in_escape
lexed_byte in_string operator x xs k u more = more in_string
lexed_byte in_string space x xs k u more = more in_string
lexed_byte in_string other x xs k u more = more in_string
lexed_byte in_escape c x xs k u more = more in_string

lexed : (m : Mode) (p d : List ℕ) → IsUtf8 (p ++ d) → AreTexts (lex m d)
unfolding lex
lexed m p [] u = tt
lexed m p (x ∷ xs) u =
    lexed_byte m (class x) x xs (λ next. lex next xs) (λ e. let is = quote_is x e in (cut_utf8 p x xs (omega arith) u).1)
    (λ n. lexed n (p ++ x ∷ []) xs (subst IsUtf8 (sym (append_assoc p (x ∷ []) xs)) u))

-- ---- tokens

abbrev HaveTexts : List Token → Type 0
HaveTexts ts = AllByRecursion TokenText ts

allowed : (b : Bool) (t : Token) (k : Place → List Token) (next : Place) → TokenText t → ((p : Place) → HaveTexts (k p)) → HaveTexts (if_allowed b t k next)
allowed true t k next h more = (h, more next)
allowed false t k next h more = (tt, tt)

placed : (p : Place) (t : Token) (before_colon : Bool) (k : Place → List Token) → TokenText t → ((q : Place) → HaveTexts (k q)) → HaveTexts (place_token p t before_colon k)
placed p Token.begin_object b k h more = allowed (may_begin p) Token.begin_object k fresh tt more
placed p Token.end_object b k h more = allowed (may_close p) Token.end_object k after_value tt more
placed p Token.begin_array b k h more = allowed (may_begin p) Token.begin_array k fresh tt more
placed p Token.end_array b k h more = allowed (may_close p) Token.end_array k after_value tt more
placed p (Token.key s) b k h more = (tt, tt)
placed p (Token.string s) true k h more = allowed (may_begin p) (Token.key s) k after_key h more
placed p (Token.string s) false k h more = allowed (may_begin p) (Token.string s) k after_value h more
placed p (Token.number s) b k h more = allowed (may_begin p) (Token.number s) k after_value tt more
placed p (Token.boolean c) b k h more = allowed (may_begin p) (Token.boolean c) k after_value tt more
placed p Token.null b k h more = allowed (may_begin p) Token.null k after_value tt more
placed p Token.bad b k h more = (tt, tt)

punctuated : (p : Place) (ls : List Lexeme) → AreTexts ls → HaveTexts (punctuate p ls)
unfolding punctuate
punctuated fresh [] h = tt
punctuated after_value [] h = tt
punctuated after_comma [] h = (tt, tt)
punctuated after_key [] h = (tt, tt)
punctuated fresh (token t ∷ ls) h = placed fresh t (begins_colon ls) (λ next. punctuate next ls) h.0 (λ q. punctuated q ls h.1)
punctuated after_value (token t ∷ ls) h = placed after_value t (begins_colon ls) (λ next. punctuate next ls) h.0 (λ q. punctuated q ls h.1)
punctuated after_comma (token t ∷ ls) h = placed after_comma t (begins_colon ls) (λ next. punctuate next ls) h.0 (λ q. punctuated q ls h.1)
punctuated after_key (token t ∷ ls) h = placed after_key t (begins_colon ls) (λ next. punctuate next ls) h.0 (λ q. punctuated q ls h.1)
punctuated fresh (comma ∷ ls) h = (tt, tt)
punctuated after_value (comma ∷ ls) h = punctuated after_comma ls h.1
punctuated after_comma (comma ∷ ls) h = (tt, tt)
punctuated after_key (comma ∷ ls) h = (tt, tt)
punctuated fresh (colon ∷ ls) h = (tt, tt)
punctuated after_value (colon ∷ ls) h = (tt, tt)
punctuated after_comma (colon ∷ ls) h = (tt, tt)
punctuated after_key (colon ∷ ls) h = punctuated fresh ls h.1

tokens_text : (text : List ℕ) → IsUtf8 text → HaveTexts (tokens text)
tokens_text text u = punctuated fresh (lex between text) (lexed between [] text u)

-- ---- values

abbrev mutual
  JsonText : json.Json → Type 0
  JsonText json.null = ⊤
  JsonText (json.boolean b) = ⊤
  JsonText (json.number s) = ⊤
  JsonText (json.string s) = IsUtf8 s
  JsonText (json.array js) = ItemsText js
  JsonText (json.object ms) = MembersText ms

  ItemsText : json.Items → Type 0
  ItemsText json.no_items = ⊤
  ItemsText (json.item j js) = JsonText j × ItemsText js

  MembersText : json.Members → Type 0
  MembersText json.no_members = ⊤
  MembersText (json.member k j ms) = JsonText j × MembersText ms

-- what is read has such texts, and so have the tokens after it
abbrev Reads : {A : Type 0} → (A → Type 0) → Option (A × List Token) → Type 0
Reads P o = IfSome o (λ r. P r.0 × HaveTexts r.1)

-- a parser reads so
abbrev Parses : {A : Type 0} → (A → Type 0) → json.Parse A → Type 0
Parses P parse = (ts : List Token) → HaveTexts ts → Reads P (parse ts)

mapped : {A B : Type 0} (P : A → Type 0) (Q : B → Type 0) (f : A → B) → ((x : A) → P x → Q (f x)) → (o : Option (A × List Token)) → Reads P o → Reads Q (json.parse_map f o)
mapped P Q f one None h = tt
mapped P Q f one (Some r) h = (one r.0 h.0, h.1)

after_end : (ts : List Token) → HaveTexts ts → IfSome (json.after_end_array ts) HaveTexts
after_end [] h = tt
after_end (Token.begin_object ∷ ts) h = tt
after_end (Token.end_object ∷ ts) h = tt
after_end (Token.begin_array ∷ ts) h = tt
after_end (Token.end_array ∷ ts) h = h.1
after_end (Token.key s ∷ ts) h = tt
after_end (Token.string s ∷ ts) h = tt
after_end (Token.number s ∷ ts) h = tt
after_end (Token.boolean b ∷ ts) h = tt
after_end (Token.null ∷ ts) h = tt
after_end (Token.bad ∷ ts) h = tt

key_read : Parses (λ k. ⊤) json.read_key
key_read [] h = tt
key_read (Token.begin_object ∷ ts) h = tt
key_read (Token.end_object ∷ ts) h = (tt, h.1)
key_read (Token.begin_array ∷ ts) h = tt
key_read (Token.end_array ∷ ts) h = tt
key_read (Token.key s ∷ ts) h = (tt, h.1)
key_read (Token.string s ∷ ts) h = tt
key_read (Token.number s ∷ ts) h = tt
key_read (Token.boolean b ∷ ts) h = tt
key_read (Token.null ∷ ts) h = tt
key_read (Token.bad ∷ ts) h = tt

and_then : {A B : Type 0} (P : A → Type 0) (Q : B → Type 0) (f : A → List Token → Option (B × List Token)) → ((x : A) (ts : List Token) → P x → HaveTexts ts → Reads Q (f x ts)) → (o : Option (A × List Token)) → Reads P o
    → Reads Q (option_and_then (λ r. f r.0 r.1) o)
and_then P Q f one None h = tt
and_then P Q f one (Some r) h = one r.0 r.1 h.0 h.1

items_stepped : (value : json.Parse json.Json) (more : json.Parse json.Items) → Parses JsonText value → Parses ItemsText more → (ts : List Token) → HaveTexts ts → (o : Option (List Token)) → IfSome o HaveTexts → Reads ItemsText (json.items_step value more ts o)
items_stepped value more one others ts h (Some rest) k = (tt, k)
items_stepped value more one others ts h None k =
    and_then JsonText ItemsText (λ j us. json.parse_map (json.item j) (more us)) (λ j us x y. mapped ItemsText ItemsText (json.item j) (λ js z. (x, z)) (more us) (others us y)) (value ts) (one ts h)

items_read : (value : json.Parse json.Json) → Parses JsonText value → (n : ℕ) → Parses ItemsText (json.items value n)
unfolding json.items
items_read value one zero ts h = tt
items_read value one (suc n) ts h = items_stepped value (json.items value n) one (items_read value one n) ts h (json.after_end_array ts) (after_end ts h)

members_stepped : (value : json.Parse json.Json) (more : json.Parse json.Members) → Parses JsonText value → Parses MembersText more → (k : Option (List ℕ)) → Parses MembersText (json.members_step value more k)
members_stepped value more one others None ts h = (tt, h)
members_stepped value more one others (Some k) ts h =
    and_then JsonText MembersText (λ j us. json.parse_map (json.member k j) (more us)) (λ j us x y. mapped MembersText MembersText (json.member k j) (λ ms z. (x, z)) (more us) (others us y)) (value ts) (one ts h)

members_read : (value : json.Parse json.Json) → Parses JsonText value → (n : ℕ) → Parses MembersText (json.members value n)
unfolding json.members
members_read value one zero ts h = tt
members_read value one (suc n) ts h =
    and_then (λ k. ⊤) MembersText (λ k us. json.members_step value (json.members value n) k us) (λ k us x y. members_stepped value (json.members value n) one (members_read value one n) k us y) (json.read_key ts) (key_read ts h)

value_by : (a : json.Parse json.Items) (o : json.Parse json.Members) → Parses ItemsText a → Parses MembersText o → Parses JsonText (json.value_with a o)
value_by a o p q [] h = tt
value_by a o p q (Token.begin_object ∷ ts) h = mapped MembersText JsonText json.object (λ ms z. z) (o ts) (q ts h.1)
value_by a o p q (Token.end_object ∷ ts) h = tt
value_by a o p q (Token.begin_array ∷ ts) h = mapped ItemsText JsonText json.array (λ js z. z) (a ts) (p ts h.1)
value_by a o p q (Token.end_array ∷ ts) h = tt
value_by a o p q (Token.key s ∷ ts) h = tt
value_by a o p q (Token.string s ∷ ts) h = (h.0, h.1)
value_by a o p q (Token.number s ∷ ts) h = (tt, h.1)
value_by a o p q (Token.boolean b ∷ ts) h = (tt, h.1)
value_by a o p q (Token.null ∷ ts) h = (tt, h.1)
value_by a o p q (Token.bad ∷ ts) h = tt

value_read : (depth : ℕ) → Parses JsonText (json.value depth)
unfolding json.value
value_read zero ts h = value_by (λ us. None) (λ us. None) (λ us k. tt) (λ us k. tt) ts h
value_read (suc depth) ts h =
    value_by (λ us. json.items (json.value depth) (length us) us) (λ us. json.members (json.value depth) (length us) us) (λ us k. items_read (json.value depth) (value_read depth) (length us) us k)
    (λ us k. members_read (json.value depth) (value_read depth) (length us) us k) ts h

-- ---- the value, with its members by their names

-- the texts in the value are UTF-8, but for the names of members
abbrev mutual
  pub HasTexts : Data → Type 0
  HasTexts null = ⊤
  HasTexts (boolean b) = ⊤
  HasTexts (number n) = ⊤
  HasTexts (string s) = IsUtf8 s
  HasTexts (array ds) = ItemsHaveTexts ds
  HasTexts (object ms) = MembersHaveTexts ms

  pub ItemsHaveTexts : Items → Type 0
  ItemsHaveTexts no_items = ⊤
  ItemsHaveTexts (item d ds) = HasTexts d × ItemsHaveTexts ds

  pub MembersHaveTexts : Members → Type 0
  MembersHaveTexts no_members = ⊤
  MembersHaveTexts (member k d ms) = HasTexts d × MembersHaveTexts ms

abbrev IsOf : {A : Type 0} → (A → Type 0) → Option A → Type 0
IsOf P o = IfSome o P

put_texts : (k : List ℕ) (d : Data) (ms : Members) → HasTexts d → MembersHaveTexts ms → MembersHaveTexts (put k d ms)
put_texts k d no_members h g = (h, tt)
put_texts k d (member l e ms) h g = go (slice_cmp nat_cmp k l) (put_texts k d ms h g.1)
  where
    go : (o : Ordering) → MembersHaveTexts (put k d ms) → MembersHaveTexts (match_ordering o (member k d (member l e ms)) (member l d ms) (member l e (put k d ms)))
    go Less more = (h, g)
    go Equal more = (h, g.1)
    go Greater more = (g.0, more)

made : {A B : Type 0} (P : A → Type 0) (Q : B → Type 0) (f : A → B) → ((x : A) → P x → Q (f x)) → (o : Option A) → IsOf P o → IsOf Q (option_map f o)
made P Q f one None h = tt
made P Q f one (Some x) h = one x h

chained : {A B : Type 0} (P : A → Type 0) (Q : B → Type 0) (f : A → Option B) → ((x : A) → P x → IsOf Q (f x)) → (o : Option A) → IsOf P o → IsOf Q (option_and_then f o)
chained P Q f one None h = tt
chained P Q f one (Some x) h = one x h

any_number : (o : Option Num) → IsOf HasTexts (option_map number o)
any_number None = tt
any_number (Some n) = tt

mutual
  json_texts : (j : json.Json) → JsonText j → IsOf HasTexts (of_json j)
  json_texts json.null h = tt
  json_texts (json.boolean b) h = tt
  json_texts (json.number s) h = any_number (number_of s)
  json_texts (json.string s) h = h
  json_texts (json.array js) h = made ItemsHaveTexts HasTexts array (λ ds k. k) (of_items js) (items_texts js h)
  json_texts (json.object ms) h = made MembersHaveTexts HasTexts object (λ ns k. k) (of_members ms no_members) (members_texts ms no_members h tt)

  items_texts : (js : json.Items) → ItemsText js → IsOf ItemsHaveTexts (of_items js)
  items_texts json.no_items h = tt
  items_texts (json.item j js) h = chained HasTexts ItemsHaveTexts (λ d. option_map (item d) (of_items js)) (λ d k. made ItemsHaveTexts ItemsHaveTexts (item d) (λ ds z. (k, z)) (of_items js) (items_texts js h.1)) (of_json j) (json_texts j h.0)

  members_texts : (ms : json.Members) (found : Members) → MembersText ms → MembersHaveTexts found → IsOf MembersHaveTexts (of_members ms found)
  members_texts json.no_members found h g = g
  members_texts (json.member k j ms) found h g = chained HasTexts MembersHaveTexts (λ d. of_members ms (put k d found)) (λ d z. members_texts ms (put k d found) h.1 (put_texts k d found z g)) (of_json j) (json_texts j h.0)

last_text : (j : json.Json) (ts : List Token) → JsonText j → IsOf JsonText (json.if_last j ts)
last_text j [] h = h
last_text j (t ∷ ts) h = tt

read_is : (text : List ℕ) → IsUtf8 text → IsOf HasTexts (read text)
read_is text u =
    chained JsonText HasTexts of_json json_texts (option_and_then (λ p. json.if_last p.0 p.1) (json.value max_depth (tokens text)))
    (chained (λ r. JsonText r.0 × HaveTexts r.1) JsonText (λ r. json.if_last r.0 r.1) (λ r h. last_text r.0 r.1 h.0) (json.value max_depth (tokens text)) (value_read max_depth (tokens text) (tokens_text text u)))

pub read_texts : (text : List ℕ) (d : Data) → IsUtf8 text → read text ≡ Some d → HasTexts d
read_texts text d u e = subst (IsOf HasTexts) e (read_is text u)
