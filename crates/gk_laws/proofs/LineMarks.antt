-- What stands in a line at the columns of its token.
use Rattle.std.proofs.Common.{◌≡◌, ℕ, ◌+◌, Bool, true, false, List, [], ◌∷◌, ◌++◌, Option, Some, None, Ok, Err, refl, sym, ap, subst, ◌∙◌, append_assoc, cond}
use Rattle.std.specs.Prelude.{map, codes, filter, is_some}
use Rattle.std.specs.Char.{is_whitespace}
use Rattle.std.specs.Option.{option_map}
use Rattle.std.specs.List.{AllByRecursion, flat_map}
use Rattle.std.specs.Str.{encode_utf8_all}
use Rattle.gk_document.specs.declared.tree.Fence.{Fence}
use Rattle.gk_document.specs.declared.tree.KeywordType.{KeywordType}
use Rattle.gk_document.specs.Fences.{fence_characters}
use Rattle.gk_line.specs.Tags.{TagWord, spaced_piece, tags_of, tag_pieces, is_tag}
use Rattle.gk_line.specs.Texts.{after, text_after_indent, trimmed_text}
use Rattle.gk_line.specs.Tokens.{TitleText, StepText, FenceText, begins_by, fences, fence_of, indent_of, title_keywords, step_of, step_words, title_of}
use Rattle.gk_line.specs.declared.tokens.Block.{Block}
use Rattle.gk_grammar.specs.Token.{Utf8, TagText, Token, Tags, Title, Step, Row, Fenced, Line, line, line_of, token_of, tag_list, tag_text, title_token, step_token, fence_token}
use Rattle.gk_grammar.specs.Grammar.{at}
use Rattle.gk_laws.specs.Marks.{Exactly, AsTag, StandsIn, Mark}
use Rattle.gk_laws.specs.TagLines.{after_mark, words_after}
use Rattle.gk_laws.specs.TokenKinds.{ReadsAs}
use Rattle.gk_laws.specs.Trimming.{IsTrimmed}
use Rattle.gk_laws.proofs.Keywords.{fence_at, fence_key, is_found, listed, marked, step_at, step_key, title_at, title_key}
use Rattle.gk_laws.proofs.TagCuts.{pieces_are_cut}
use Rattle.gk_laws.proofs.TextParts.{trimmed_ends}
use Rattle.gk_laws.proofs.TokenReadings.{reads}
use Rattle.gk_laws.proofs.Trims.{front_split, is_trimmed}

-- what may stand in a line by its token
abbrev pub line_marks : Line → List Mark
line_marks (line n t i (Tags (Ok words))) =
    map (λ (w : TagText). (at n w.column, AsTag (codes "@" ++ w.word))) words
line_marks (line n t i (Title b k m)) = (at n (i + 1), Exactly k) ∷ []
line_marks (line n t i (Step k y m)) = (at n (i + 1), Exactly k) ∷ []
line_marks (line n t i (Row cells)) = (at n (i + 1), Exactly (codes "|")) ∷ []
line_marks (line n t i (Fenced f m)) = (at n (i + 1), Exactly (fence_characters f)) ∷ []
line_marks _ = []

-- ---- titles, steps, fences and rows

title_stands : (t : List ℕ) (b : Block) (k m : Utf8)
    → option_map (title_token b) (title_of b t) ≡ Some (Title b k m)
    → StandsIn t (indent_of t + 1) (Exactly k)
unfolding title_of
title_stands t b k m e = go (title_of b t) refl e
  where
    go : (o : Option TitleText) → title_of b t ≡ o
        → option_map (title_token b) o ≡ Some (Title b k m) → StandsIn t (indent_of t + 1) (Exactly k)
    go None is e = absurd cc
    go (Some x) is e =
        let f = is_found title_key (title_at t) (text_after_indent t) (title_keywords b) x is in
        let m = marked t (title_key f.0) f.2 f.3 in
        let same : encode_utf8_all x.keyword ≡ k = cc in
        record {
          before = m.indent;
          characters = f.0;
          later = codes ":" ++ m.rest;
          cut = m.whole ∙ ap (λ (z : List ℕ). m.indent ++ z) (append_assoc f.0 (codes ":") m.rest);
          at_column = m.is_column;
          writes = sym same ∙ ap (λ (z : TitleText). encode_utf8_all z.keyword) f.4;
        }

step_stands : (t : List ℕ) (k : Utf8) (y : KeywordType) (m : Utf8)
    → option_map step_token (step_of t) ≡ Some (Step k y m) → StandsIn t (indent_of t + 1) (Exactly k)
unfolding step_of
step_stands t k y m e = go (step_of t) refl e
  where
    go : (o : Option StepText) → step_of t ≡ o → option_map step_token o ≡ Some (Step k y m)
        → StandsIn t (indent_of t + 1) (Exactly k)
    go None is e = absurd cc
    go (Some x) is e =
        let f = is_found step_key (step_at t) (text_after_indent t) step_words x is in
        let m = marked t (step_key f.0) f.2 f.3 in
        let same : encode_utf8_all x.keyword ≡ k = cc in
        record {
          before = m.indent;
          characters = step_key f.0;
          later = m.rest;
          cut = m.whole;
          at_column = m.is_column;
          writes = sym same ∙ ap (λ (z : StepText). encode_utf8_all z.keyword) f.4;
        }

fence_bytes : (f : Fence) → fence_characters f ≡ encode_utf8_all (fence_characters f)
unfolding lib.Utf8.encode
fence_bytes Fence.Quotes = refl
fence_bytes Fence.Backticks = refl

fence_stands : (t : List ℕ) (f : Fence) (m : Utf8)
    → option_map fence_token (fence_of t) ≡ Some (Fenced f m)
    → StandsIn t (indent_of t + 1) (Exactly (fence_characters f))
unfolding fence_of
fence_stands t f m e = go (fence_of t) refl e
  where
    go : (o : Option FenceText) → fence_of t ≡ o → option_map fence_token o ≡ Some (Fenced f m)
        → StandsIn t (indent_of t + 1) (Exactly (fence_characters f))
    go None is e = absurd cc
    go (Some x) is e =
        let found = is_found fence_key (fence_at t) (text_after_indent t) fences x is in
        let m = marked t found.0.0 found.2 found.3 in
        let same : x.fence ≡ f = cc in
        let by_entry : x.fence ≡ found.0.1 = ap (λ (z : FenceText). z.fence) found.4 in
        let characters : found.0.0 ≡ fence_characters f =
        listed found.0 found.1 ∙ ap fence_characters (sym by_entry ∙ same) in
        record {
          before = m.indent;
          characters = found.0.0;
          later = m.rest;
          cut = m.whole;
          at_column = m.is_column;
          writes = fence_bytes f ∙ ap encode_utf8_all (sym characters);
        }

row_stands : (t : List ℕ) → begins_by (codes "|") t ≡ true
    → StandsIn t (indent_of t + 1) (Exactly (codes "|"))
unfolding begins_by lib.Utf8.encode
row_stands t e = go (after (codes "|") (text_after_indent t)) refl e
  where
    go : (o : Option (List ℕ)) → after (codes "|") (text_after_indent t) ≡ o → is_some o ≡ true
        → StandsIn t (indent_of t + 1) (Exactly (codes "|"))
    go None is e = absurd cc
    go (Some rest) is e =
        let m = marked t (codes "|") rest is in
        record {
          before = m.indent;
          characters = codes "|";
          later = m.rest;
          cut = m.whole;
          at_column = m.is_column;
          writes = refl;
        }

-- ---- tags

abbrev StandsAsTag : List ℕ → TagWord → Type 0
StandsAsTag t w = StandsIn t w.column (AsTag (codes "@" ++ encode_utf8_all w.word))

trimmed_piece : (p : List ℕ) → (front : List ℕ) × IsTrimmed is_whitespace p front (trimmed_text p)
trimmed_piece p =
    let front = (front_split is_whitespace p).0 in
    (front, subst (IsTrimmed is_whitespace p front) (sym (trimmed_ends p)) (is_trimmed is_whitespace p))

words_stand : (t before : List ℕ) (pieces : List (List ℕ)) (tail : List ℕ)
    → t ≡ before ++ (flat_map after_mark pieces ++ tail)
    → AllByRecursion (StandsAsTag t) (words_after before pieces)
words_stand t before [] tail e = tt
words_stand t before (p ∷ ps) tail e =
    let more : List ℕ = flat_map after_mark ps ++ tail in
    let here : t ≡ before ++ (after_mark p ++ more) =
    e ∙ ap (λ (z : List ℕ). before ++ z) (append_assoc (after_mark p) (flat_map after_mark ps) tail) in
    let piece = trimmed_piece p in
    let space : List ℕ = piece.0 in
    let back : List ℕ = piece.1.back in
    let word : List ℕ = trimmed_text p in
    let parts : p ++ more ≡ (space ++ word) ++ (back ++ more) =
    ap (λ (z : List ℕ). z ++ more) (piece.1.parts ∙ sym (append_assoc space word back))
    ∙ append_assoc (space ++ word) back more in (
      record {
        before = before;
        characters = codes "@" ++ (space ++ word);
        later = back ++ more;
        cut = here ∙ ap (λ (z : List ℕ). before ++ (codes "@" ++ z)) parts;
        at_column = refl;
        writes = (space, word, piece.1.spaces.0, refl, refl);
      },
      words_stand t (before ++ after_mark p) ps tail
          (here ∙ sym (append_assoc before (after_mark p) more)),
    )

all_filtered : {A : Type 0} (P : A → Type 0) (test : A → Bool) (xs : List A) → AllByRecursion P xs
    → AllByRecursion P (filter test xs)
all_filtered P test [] a = tt
all_filtered {A} P test (x ∷ xs) a = go (test x) (all_filtered P test xs a.1)
  where
    go : (b : Bool) → AllByRecursion P (filter test xs)
        → AllByRecursion P (cond b (x ∷ filter test xs) (filter test xs))
    go true h = (a.0, h)
    go false h = h

tags_stand : (t : List ℕ) → AllByRecursion (StandsAsTag t) (tags_of t)
unfolding tags_of
tags_stand t =
    let cut = (pieces_are_cut t (tag_pieces t)).0 refl in
    let whole : t ≡ cut.1 ++ (flat_map after_mark cut.2 ++ cut.3.comment) =
    cut.3.whole ∙ ap (λ (z : List ℕ). z ++ cut.3.comment) cut.4.whole
    ∙ append_assoc cut.1 (flat_map after_mark cut.2) cut.3.comment in
    all_filtered (StandsAsTag t) is_tag (tag_pieces t)
    (subst (AllByRecursion (StandsAsTag t)) (sym cut.5) (words_stand t cut.1 cut.2 cut.3.comment whole))

-- ---- a line

-- what a mark of line n says, where the line is this text
abbrev pub IsIn : ℕ → List ℕ → Mark → Type 0
IsIn n t m = (m.0.line ≡ n) × StandsIn t m.0.column m.1

tag_words_stand : (n : ℕ) (t : List ℕ) (ws : List TagWord) → AllByRecursion (StandsAsTag t) ws
    → AllByRecursion (IsIn n t)
    (map (λ (w : TagText). (at n w.column, AsTag (codes "@" ++ w.word))) (map tag_text ws))
tag_words_stand n t [] a = tt
tag_words_stand n t (w ∷ ws) a = ((refl, a.0), tag_words_stand n t ws a.1)

tag_line_stands : (n : ℕ) (t : List ℕ) (o : Option TagWord) (words : List TagText)
    → Ok words ≡ tag_list o (tags_of t)
    → AllByRecursion (IsIn n t)
    (map (λ (w : TagText). (at n w.column, AsTag (codes "@" ++ w.word))) words)
tag_line_stands n t None words e =
    let same : words ≡ map tag_text (tags_of t) = cc in
    subst (λ (z : List TagText). AllByRecursion (IsIn n t)
    (map (λ (w : TagText). (at n w.column, AsTag (codes "@" ++ w.word))) z))
    (sym same) (tag_words_stand n t (tags_of t) (tags_stand t))
tag_line_stands n t (Some spaced) words e = absurd cc

by_token : (n : ℕ) (t : List ℕ) (k : Token) → ReadsAs t k
    → AllByRecursion (IsIn n t) (line_marks (line n t (indent_of t) k))
by_token n t (Tags (Ok words)) h = tag_line_stands n t (spaced_piece t) words h.1
by_token n t (Tags (Err c)) h = tt
by_token n t (Title b k m) h = ((refl, title_stands t b k m h), tt)
by_token n t (Step k y m) h = ((refl, step_stands t k y m h), tt)
by_token n t (Row cells) h = ((refl, row_stands t h.0), tt)
by_token n t (Fenced f m) h = ((refl, fence_stands t f m h), tt)
by_token n t _ h = tt

-- all marks of a line stand in it
pub line_marks_stand : (n : ℕ) (t : List ℕ) → AllByRecursion (IsIn n t) (line_marks (line_of (n, t)))
line_marks_stand n t = by_token n t (token_of t) (reads t)
