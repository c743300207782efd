-- A text has at least as many bytes as its document has nodes.
use Rattle.std.proofs.Common.{◌≡◌, ℕ, suc, ◌+◌, ◌≤◌, Bool, true, false, cond, List, [], ◌∷◌, length, Option, Some, None, Ok, refl, ap, arith, length-append}
use Rattle.std.proofs.lemmas.List.Splits.{length-slice_split}
use Rattle.std.proofs.lemmas.List.Sums.{count_by-le-length}
use Rattle.std.proofs.lemmas.List.{length-take-le, length-map}
use Rattle.std.proofs.lemmas.Str.{length-le-encodes, encodes-chars}
use Rattle.std.specs.Prelude.{map, codes, filter, take, ◌==◌, ◌-◌, ◌&&◌, slice_index}
use Rattle.std.specs.Char.{is_whitespace}
use Rattle.std.specs.Option.{is_some}
use Rattle.std.specs.Str.{chars, IsUtf8}
use Rattle.std.specs.Str.Lines.{lines_of_parts, strip_carriage_return}
use Rattle.std.specs.List.{enumerate_from, slice_split, onto_first}
use Rattle.gk_line.specs.Texts.{after}
use Rattle.gk_line.specs.Tokens as tokens
use Rattle.gk_line.specs.Tokens.{indent_of}
use Rattle.gk_line.specs.Tags.{TagWord, tags_of, tag_pieces, spaced_piece, pieces_from, is_tag, uncommented_line}
use Rattle.gk_line.specs.Cells.{without_first}
use Rattle.gk_line.specs.Lines as lines
use Rattle.gk_line.specs.Lines.{without_mark}
use Rattle.gk_grammar.specs.Token.{Token, Tags, Title, Step, Row, line, line_of, token_of, tag_text, tag_list}
use Rattle.gk_grammar.specs.Tree.{Document}
use Rattle.gk_grammar.specs.Grammar.{feature_nodes}
use Rattle.gk_grammar.specs.Documents.{lines_read, IsDocumentOf}
use Rattle.gk_grammar.proofs.Order.{stand_length}
use Rattle.gk_grammar.proofs.Places.{line_places, places, text_stands}
use Rattle.gk_grammar.proofs.Reading.{NoTags, each_token}

-- ---- the tags of a line

filter_shorter : {A : Type 0} (f : A → Bool) (xs : List A) → length (filter f xs) ≤ length xs
filter_shorter f [] = omega arith
filter_shorter {A = A} f (x ∷ xs) = go (f x) (filter_shorter f xs)
  where
    go : (b : Bool) → length (filter f xs) ≤ length xs → length (cond b (x ∷ filter f xs) (filter f xs)) ≤ length (x ∷ xs)
    go true h = omega arith
    go false h = omega arith

first_off : {A : Type 0} (n : ℕ) (xs : List A) → length xs ≤ n + 1 → length (without_first xs) ≤ n
first_off n [] h = omega arith
first_off n (x ∷ xs) h = omega arith

pieces_length : (c : ℕ) (ps : List (List ℕ)) → length (pieces_from c ps) ≡ length ps
pieces_length c [] = refl
pieces_length c (p ∷ ps) = ap suc (pieces_length (c + length p + 1) ps)

uncommented_shorter : (text : List ℕ) → length (uncommented_line text) ≤ length text
unfolding uncommented_line
uncommented_shorter [] = omega arith
uncommented_shorter (c ∷ cs) = go (is_whitespace c && is_some (after (codes "#") cs)) (uncommented_shorter cs)
  where
    go : (b : Bool) → length (uncommented_line cs) ≤ length cs → length (cond b [] (c ∷ uncommented_line cs)) ≤ length (c ∷ cs)
    go true h = omega arith
    go false h = omega arith

pub tags_fewer : (text : List ℕ) → length (tags_of text) ≤ length text
unfolding tags_of tag_pieces
tags_fewer text =
    let f = filter_shorter is_tag (tag_pieces text) in
    let p = pieces_length 0 (slice_split (λ c. c == 64) (uncommented_line text)) in
    let s = length-slice_split (λ c. c == 64) (uncommented_line text) in
    let c = count_by-le-length (λ c. c == 64) (uncommented_line text) in
    let u = uncommented_shorter text in
    let w = first_off (length (uncommented_line text)) (pieces_from 0 (slice_split (λ c. c == 64) (uncommented_line text))) (omega arith) in
    omega arith

-- ---- the places of a line

words_length : (n : ℕ) (ws : List TagWord) → length (line_places (line n [] 0 (Tags (Ok (map tag_text ws))))) ≡ length ws
words_length n [] = refl
words_length n (w ∷ ws) = ap suc (words_length n ws)

nothing_there : (n i : ℕ) (text : List ℕ) → length (line_places (line n text i (token_of []))) ≡ 0
unfolding token_of tokens.is_blank_line
nothing_there n i text = refl

one_place : (n i : ℕ) (text : List ℕ) (k : Token) → NoTags k → length (line_places (line n text i k)) ≤ 1
one_place n i text (Tags r) h = absurd h
one_place n i text (Title b k m) h = omega arith
one_place n i text (Step k y m) h = omega arith
one_place n i text (Row cells) h = omega arith
one_place n i text _ h = omega arith

line_fewer : (n : ℕ) (text : List ℕ) → length (line_places (line_of (n, text))) ≤ length text
line_fewer n [] = let z = nothing_there n (indent_of []) [] in omega arith
line_fewer n (c ∷ cs) =
    each_token (λ k. length (line_places (line n (c ∷ cs) (indent_of (c ∷ cs)) k)) ≤ length (c ∷ cs)) (c ∷ cs) (add_tags (spaced_piece (c ∷ cs))) (λ k h. let o = one_place n (indent_of (c ∷ cs)) (c ∷ cs) k h in omega arith)
  where
    add_tags : (o : Option TagWord) → length (line_places (line n (c ∷ cs) (indent_of (c ∷ cs)) (Tags (tag_list o (tags_of (c ∷ cs)))))) ≤ length (c ∷ cs)
    add_tags None = let w = words_length n (tags_of (c ∷ cs)) in let f = tags_fewer (c ∷ cs) in omega arith
    add_tags (Some w) = omega arith

-- ---- the lines of a text

abbrev total : List (List ℕ) → ℕ
total [] = 0
total (x ∷ xs) = length x + total xs

places_fewer : (n : ℕ) (texts : List (List ℕ)) → length (places (map line_of (enumerate_from n texts))) ≤ total texts
places_fewer n [] = omega arith
places_fewer n (t ∷ ts) =
    let a = length-append (line_places (line_of (n, t))) (places (map line_of (enumerate_from (n + 1) ts))) in
    let l = line_fewer n t in
    let r = places_fewer (n + 1) ts in
    omega arith

parts_total : (p : ℕ → Bool) (text : List ℕ) → total (slice_split p text) ≤ length text
parts_total p [] = omega arith
parts_total p (c ∷ cs) = go (p c) (parts_total p cs)
  where
    onto : (parts : List (List ℕ)) → total (onto_first c parts) ≤ suc (total parts)
    onto [] = omega arith
    onto (x ∷ xs) = omega arith

    go : (b : Bool) → total (slice_split p cs) ≤ length cs → total (cond b ([] ∷ slice_split p cs) (onto_first c (slice_split p cs))) ≤ length (c ∷ cs)
    go true h = omega arith
    go false h = let o = onto (slice_split p cs) in omega arith

stripped_shorter : (l : List ℕ) → length (strip_carriage_return l) ≤ length l
stripped_shorter l = go (slice_index l (length l - 1) == 13)
  where
    go : (b : Bool) → length (cond b (take (length l - 1) l) l) ≤ length l
    go true = let t = length-take-le (length l - 1) l (omega arith) in omega arith
    go false = omega arith

lines_total : (parts : List (List ℕ)) → total (lines_of_parts parts) ≤ total parts
lines_total [] = omega arith
lines_total (x ∷ []) = go (length x == 0)
  where
    go : (b : Bool) → total (cond b [] (x ∷ [])) ≤ total (x ∷ [])
    go true = omega arith
    go false = omega arith
lines_total (x ∷ y ∷ more) = let r = lines_total (y ∷ more) in let s = stripped_shorter x in omega arith

mark_shorter : (text : List ℕ) → length (without_mark text) ≤ length text
unfolding without_mark
mark_shorter [] = omega arith
mark_shorter (c ∷ cs) = go (c == 0xFEFF)
  where
    go : (b : Bool) → length (cond b cs (c ∷ cs)) ≤ length (c ∷ cs)
    go true = omega arith
    go false = omega arith

read_fewer : (text : List ℕ) → length (places (lines_read text)) ≤ length (chars text)
unfolding lines_read lines.lines_of lines.numbered_lines
read_fewer text =
    let m = mark_shorter (chars text) in
    let p = parts_total (λ b. b == 10) (without_mark (chars text)) in
    let l = lines_total (slice_split (λ b. b == 10) (without_mark (chars text))) in
    let r = places_fewer 1 (lines_of_parts (slice_split (λ b. b == 10) (without_mark (chars text)))) in
    omega arith

parts_fewer : (p : ℕ → Bool) (text : List ℕ) → length (slice_split p text) ≤ length text + 1
parts_fewer p text = let s = length-slice_split p text in let c = count_by-le-length p text in omega arith

kept_fewer : (parts : List (List ℕ)) → length (lines_of_parts parts) ≤ length parts
kept_fewer [] = omega arith
kept_fewer (x ∷ []) = go (length x == 0)
  where
    go : (b : Bool) → length (cond b [] (x ∷ [])) ≤ length (x ∷ [])
    go true = omega arith
    go false = omega arith
kept_fewer (x ∷ y ∷ more) = let r = kept_fewer (y ∷ more) in omega arith

numbered_alike : (n : ℕ) (texts : List (List ℕ)) → length (enumerate_from n texts) ≡ length texts
numbered_alike n [] = refl
numbered_alike n (t ∷ ts) = ap suc (numbered_alike (n + 1) ts)

-- a text has at most one line more than bytes
pub lines_fewer : (text : List ℕ) → IsUtf8 text → length (lines_read text) ≤ length text + 1
unfolding lines_read lines.lines_of lines.numbered_lines
lines_fewer text u =
    let parts = slice_split (λ b. b == 10) (without_mark (chars text)) in
    let a = length-map (enumerate_from 1 (lines_of_parts parts)) line_of in
    let n = numbered_alike 1 (lines_of_parts parts) in
    let k = kept_fewer parts in
    let p = parts_fewer (λ b. b == 10) (without_mark (chars text)) in
    let m = mark_shorter (chars text) in
    let c = length-le-encodes (chars text) in
    let e = ap length (encodes-chars text u) in
    omega arith

pub nodes_fewer : (text : List ℕ) (d : Document) → IsUtf8 text → IsDocumentOf text d → d.nodes ≤ length text
nodes_fewer text d u h =
    let s = stand_length (feature_nodes d.feature) (places (lines_read text)) (text_stands d.feature (lines_read text) d.comments h.text) in
    let r = read_fewer text in
    let c = length-le-encodes (chars text) in
    let e = ap length (encodes-chars text u) in
    let n = h.count in
    omega arith
