-- Texts that are copied and joined.
use Rattle.std.proofs.Common.{◌≡◌, ℕ, suc, ◌+◌, ◌<◌, Bool, true, false, cond, List, [], ◌∷◌, ◌++◌, length, take, get_or, refl, sym, ap, subst, ◌∙◌, append_assoc, arith}
use Rattle.std.specs.Prelude.{map, codes, ◌==◌}
use Rattle.std.specs.List.{join_with_byte}
use Rattle.std.specs.Str.{IsUtf8, chars, encode_utf8_all}
use Rattle.std.proofs.lemmas.Str.{encodes-chars, encodes-append}
use Rattle.std.proofs.lemmas.List.{take_more, map-append, length-map, length-take-le}
use Rattle.std.proofs.lemmas.Bool.{false≢true}
use Rattle.std.proofs.lemmas.Bool.Decides.{nat_tests}
use Rattle.gk_tree.specs.declared.token.IndentedLine.{IndentedLine}
use Rattle.gk_grammar.specs.Token.{Line}
use Rattle.gk_line.specs.declared.tags_and_comments.TagText.{TagText}
use Rattle.gk_document.specs.declared.tree.Tag.{Tag}
use Rattle.gk_grammar.specs.Grammar.{at}
use Rattle.gk_grammar.specs.Token as read
use Rattle.gk_grammar.specs.Machine.{tags_from}
use Rattle.gk_tree.specs.Views.{text_of, word_of, kept_line}

suc_not : (n : ℕ) → (suc n == 0) ≡ false
suc_not n = grind (arith, nat_tests)

pub text_same : (bs : List ℕ) → IsUtf8 bs → text_of bs ≡ bs
text_same bs u = encodes-chars bs u

-- a text that grew by these characters
pub characters_added : (old new line : List ℕ) → IsUtf8 old → IsUtf8 new → chars new ≡ chars old ++ line → new ≡ old ++ encode_utf8_all line
characters_added old new line u v h =
    sym (encodes-chars new v)
    ∙ ap (λ (z : List ℕ). encode_utf8_all z) h
    ∙ encodes-append (chars old) line
    ∙ ap (λ (z : List ℕ). z ++ encode_utf8_all line) (encodes-chars old u)

pub first_line : (b : Bool) (old new line : List ℕ) → b ≡ true → new ≡ old ++ line → new ≡ cond b (old ++ line) ((old ++ 10 ∷ []) ++ line)
first_line true old new line h e = e
first_line false old new line h e = absurd (false≢true h)

pub next_line : (b : Bool) (old mid new line : List ℕ) → b ≡ false → mid ≡ old ++ 10 ∷ [] → new ≡ mid ++ line → new ≡ cond b (old ++ line) ((old ++ 10 ∷ []) ++ line)
next_line true old mid new line h m e = absurd (false≢true (sym h))
next_line false old mid new line h m e = e ∙ ap (λ (z : List ℕ). z ++ line) m

-- one more text
pub join_more : (c : ℕ) (xs : List (List ℕ)) (y : List ℕ) → 0 < length xs → join_with_byte c (xs ++ y ∷ []) ≡ (join_with_byte c xs ++ c ∷ []) ++ y
join_more c [] y h = absurd (omega arith)
join_more c (x ∷ []) y h = sym (append_assoc x (c ∷ []) y)
join_more c (x ∷ z ∷ xs) y h =
    ap (λ (q : List ℕ). x ++ c ∷ q) (join_more c (z ∷ xs) y (omega arith))
    ∙ ap (λ (q : List ℕ). x ++ c ∷ q) (append_assoc (join_with_byte c (z ∷ xs)) (c ∷ []) y)
    ∙ sym (append_assoc x (c ∷ join_with_byte c (z ∷ xs)) (c ∷ y))
    ∙ sym (append_assoc (x ++ c ∷ join_with_byte c (z ∷ xs)) (c ∷ []) y)

-- one more tag
tags_from_more : (n node : ℕ) (ws : List read.TagText) (w : read.TagText) →
    tags_from n node (ws ++ w ∷ []) ≡ tags_from n node ws ++ record { node = node + length ws; location = at n w.column; name = codes "@" ++ w.word } ∷ []
tags_from_more n node [] w = ap (λ (z : ℕ). record { node = z; location = at n w.column; name = codes "@" ++ w.word } ∷ []) (omega arith)
tags_from_more n node (x ∷ ws) w =
    ap (λ (z : List Tag). record { node = node; location = at n x.column; name = codes "@" ++ x.word } ∷ z)
    (tags_from_more n (node + 1) ws w
    ∙ ap (λ (z : ℕ). tags_from n (node + 1) ws ++ record { node = z; location = at n w.column; name = codes "@" ++ w.word } ∷ []) (omega arith))

pub turn_tags : (all tags : List Tag) (n node next i : ℕ) (words : List TagText) (d : TagText) (name : List ℕ) → i < length words →
    name ≡ codes "@" ++ text_of (get_or words i d).word.now → next ≡ node + i → length (take i words) ≡ i → all ≡ tags ++ tags_from n node (map word_of (take i words)) →
    all ++ record { node = next; location = at n (get_or words i d).column; name = name } ∷ [] ≡ tags ++ tags_from n node (map word_of (take (i + 1) words))
turn_tags all tags n node next i words d name h e m len so_far =
    let w = get_or words i d in
    let front = take i words in
    let last : Tag = record { node = next; location = at n w.column; name = name } in
    let more : take (i + 1) words ≡ front ++ w ∷ [] = take_more words i d h in
    let step = tags_from_more n node (map word_of front) (word_of w) in
    let long : length (map word_of front) ≡ i = map_length front ∙ len in
    ap (λ (z : List Tag). z ++ last ∷ []) so_far
    ∙ append_assoc tags (tags_from n node (map word_of front)) (last ∷ [])
    ∙ ap (λ (z : List Tag). tags ++ z)
    (ap (λ (z : ℕ). tags_from n node (map word_of front) ++ record { node = z; location = at n w.column; name = name } ∷ []) (m ∙ ap (λ (z : ℕ). node + z) (sym long))
    ∙ ap (λ (z : List ℕ). tags_from n node (map word_of front) ++ record { node = node + length (map word_of front); location = at n w.column; name = z } ∷ []) e
    ∙ sym step
    ∙ ap (λ (z : List read.TagText). tags_from n node z) (sym (map-append word_of front (w ∷ [])) ∙ ap (λ (z : List TagText). map word_of z) (sym more)))
  where
    map_length : (xs : List TagText) → length (map word_of xs) ≡ length xs
    map_length [] = refl
    map_length (x ∷ xs) = ap suc (map_length xs)

-- one more line
joined_more : (texts : List (List ℕ)) (old new line : List ℕ) → old ≡ join_with_byte 10 texts →
    new ≡ cond (length texts == 0) (old ++ line) ((old ++ 10 ∷ []) ++ line) → new ≡ join_with_byte 10 (texts ++ line ∷ [])
joined_more [] old new line h e = e ∙ ap (λ (q : List ℕ). q ++ line) h
joined_more (x ∷ xs) old new line h e = e ∙ ap (λ (b : Bool). cond b (old ++ line) ((old ++ 10 ∷ []) ++ line)) (suc_not (length xs)) ∙ ap (λ (q : List ℕ). (q ++ 10 ∷ []) ++ line) h ∙ sym (join_more 10 (x ∷ xs) line (omega arith))

pub turn_lines : (f : Line → List ℕ) (lines : List IndentedLine) (i : ℕ) (d : IndentedLine) (old new line : List ℕ) → i < length lines →
    old ≡ join_with_byte 10 (map f (map kept_line (take i lines))) → line ≡ f (kept_line (get_or lines i d)) →
    new ≡ cond (i == 0) (old ++ line) ((old ++ 10 ∷ []) ++ line) → new ≡ join_with_byte 10 (map f (map kept_line (take (i + 1) lines)))
turn_lines f lines i d old new line h so_far is e =
    let texts = map f (map kept_line (take i lines)) in
    let long : length texts ≡ i = length-map (map kept_line (take i lines)) f ∙ length-map (take i lines) kept_line ∙ length-take-le i lines (omega arith) in
    joined_more texts old new line so_far (subst (λ (n : ℕ). new ≡ cond (n == 0) (old ++ line) ((old ++ 10 ∷ []) ++ line)) (sym long) e)
    ∙ ap (λ (z : List ℕ). join_with_byte 10 (texts ++ z ∷ [])) is
    ∙ ap (λ (z : List (List ℕ)). join_with_byte 10 z)
    (sym (ap (λ (z : List IndentedLine). map f (map kept_line z)) (take_more lines i d h)
    ∙ ap (λ (z : List Line). map f z) (map-append kept_line (take i lines) (get_or lines i d ∷ []))
    ∙ map-append f (map kept_line (take i lines)) (kept_line (get_or lines i d) ∷ [])))
