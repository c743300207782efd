-- The lines of a text are numbered from 1, and the tags of a line are in order.
use Rattle.std.proofs.Common.{◌≡◌, ℕ, ◌+◌, ◌≤◌, Bool, true, false, cond, List, [], ◌∷◌, length, Option, Some, None, refl, arith}
use Rattle.std.specs.Prelude.{map, codes, filter}
use Rattle.std.specs.Option.{option_map}
use Rattle.std.specs.List.{AllByRecursion, enumerate_from, slice_split}
use Rattle.gk_line.specs.Texts.{first_some, or_else}
use Rattle.gk_line.specs.Tokens.{indent_of, is_blank_line, begins_by, language_of, title_of, step_of, fence_of, TitleText, StepText, FenceText, blocks}
use Rattle.gk_line.specs.Tags.{TagWord, tags_of, tag_pieces, spaced_piece, pieces_from, is_tag, uncommented_line}
use Rattle.gk_line.specs.Cells.{without_first, cells_of}
use Rattle.gk_line.specs.Lines as lines
use Rattle.gk_line.specs.declared.tokens.Block.{Block}
use Rattle.gk_grammar.specs.Token.{TagText, Token, Blank, Comment, Tags, Title, Step, Row, Other, line, line_of, token_of, tag_text, tag_list, comment_token, word_token, token_or_other, title_token, step_token, fence_token, cell}
use Rattle.gk_grammar.specs.Tree.{Location}
use Rattle.gk_grammar.specs.Grammar.{at, stands_before}
use Rattle.gk_grammar.specs.Documents.{lines_read}
use Rattle.gk_grammar.proofs.Order.{Rise, before_by_column}
use Rattle.gk_grammar.proofs.Places.{line_places, AreNumberedFrom}

-- ---- the tags of a line

-- each column is that of the one before it, or further on; the first is c at least
abbrev pub WordsRise : ℕ → List TagWord → Type 0
WordsRise c [] = Unit {0}
WordsRise c (w ∷ ws) = (c ≤ w.column) × WordsRise (w.column + 1) ws

rise_sooner : (b c : ℕ) (ws : List TagWord) → b ≤ c → WordsRise c ws → WordsRise b ws
rise_sooner b c [] h r = tt
rise_sooner b c (w ∷ ws) h r = (let k = r.0 in omega arith, r.1)

pieces_rise : (c : ℕ) (ps : List (List ℕ)) → WordsRise c (pieces_from c ps)
pieces_rise c [] = tt
pieces_rise c (p ∷ ps) = (omega arith, rise_sooner (c + 1) (c + length p + 1) (pieces_from (c + length p + 1) ps) (omega arith) (pieces_rise (c + length p + 1) ps))

rise_without : (c : ℕ) (ws : List TagWord) → WordsRise c ws → WordsRise c (without_first ws)
rise_without c [] r = tt
rise_without c (w ∷ ws) r = rise_sooner c (w.column + 1) ws (let k = r.0 in omega arith) r.1

rise_filter : (f : TagWord → Bool) (c : ℕ) (ws : List TagWord) → WordsRise c ws → WordsRise c (filter f ws)
rise_filter f c [] r = tt
rise_filter f c (w ∷ ws) r = go (f w) (rise_filter f (w.column + 1) ws r.1)
  where
    go : (b : Bool) → WordsRise (w.column + 1) (filter f ws) → WordsRise c (cond b (w ∷ filter f ws) (filter f ws))
    go true h = (r.0, h)
    go false h = rise_sooner c (w.column + 1) (filter f ws) (let k = r.0 in omega arith) h

pub tags_rise : (text : List ℕ) → WordsRise 0 (tags_of text)
unfolding tags_of tag_pieces
tags_rise text = rise_filter is_tag 0 _ (rise_without 0 _ (pieces_rise 0 (slice_split _ (uncommented_line text))))

-- ---- the places of a line

all_after : (n : ℕ) (p : Location) (ws : List TagWord) → p.line ≡ n → WordsRise (p.column + 1) ws →
    AllByRecursion (λ (q : Location). stands_before p q ≡ true) (map (λ (w : TagText). at n w.column) (map tag_text ws))
all_after n p [] e r = tt
all_after n p (w ∷ ws) e r = (before_by_column p (at n w.column) e (let k = r.0 in omega arith), all_after n p ws e (rise_sooner (p.column + 1) (w.column + 1) ws (let k = r.0 in omega arith) r.1))

words_rise : (n c : ℕ) (ws : List TagWord) → WordsRise c ws → Rise (map (λ (w : TagText). at n w.column) (map tag_text ws))
words_rise n c [] r = tt
words_rise n c (w ∷ ws) r = (all_after n (at n w.column) ws refl r.1, words_rise n (w.column + 1) ws r.1)

-- a token other than tags
abbrev pub NoTags : Token → Type 0
NoTags (Tags r) = ⊥
NoTags _ = Unit {0}

-- a token other than tags, or none
abbrev IsPlain : Option Token → Type 0
IsPlain None = Unit {0}
IsPlain (Some k) = NoTags k

-- what holds of tags that were read and of all other tokens holds of each token that a line is read as
pub each_token : (P : Token → Type 0) (text : List ℕ) → P (Tags (tag_list (spaced_piece text) (tags_of text))) → ((k : Token) → NoTags k → P k) → P (token_of text)
unfolding token_of first_some
each_token P text f g = go (is_blank_line text) (begins_by (codes "#") text) (begins_by (codes "@") text) (begins_by (codes "|") text)
  where
    comment : (w : Option (List ℕ)) → P (comment_token w)
    comment None = g Comment tt
    comment (Some word) = g _ tt

    either : (a b : Option Token) → IsPlain a → IsPlain b → IsPlain (or_else a b)
    either None b h k = k
    either (Some x) b h k = h

    titled : (b : Block) (o : Option TitleText) → IsPlain (option_map (title_token b) o)
    titled b None = tt
    titled b (Some t) = tt

    stepped : (o : Option StepText) → IsPlain (option_map step_token o)
    stepped None = tt
    stepped (Some t) = tt

    fenced : (o : Option FenceText) → IsPlain (option_map fence_token o)
    fenced None = tt
    fenced (Some t) = tt

    titles : (bs : List Block) → IsPlain (first_some (λ b. option_map (title_token b) (title_of b text)) bs)
    titles [] = tt
    titles (b ∷ bs) = either (option_map (title_token b) (title_of b text)) (first_some (λ b. option_map (title_token b) (title_of b text)) bs) (titled b (title_of b text)) (titles bs)

    other : (o : Option Token) → IsPlain o → P (token_or_other o)
    other None h = g Other tt
    other (Some k) h = g k h

    go : (blank hash mark bar : Bool) → P (cond blank Blank (cond hash (comment_token (language_of text)) (cond mark (Tags (tag_list (spaced_piece text) (tags_of text))) (cond bar (Row (map cell (cells_of text))) (token_or_other (word_token text))))))
    go true hash mark bar = g Blank tt
    go false true mark bar = comment (language_of text)
    go false false true bar = f
    go false false false true = g _ tt
    go false false false false = other (word_token text) (either _ _ (titles blocks) (either _ _ (stepped (step_of text)) (fenced (fence_of text))))

plain_rise : (n i : ℕ) (text : List ℕ) (k : Token) → NoTags k → Rise (line_places (line n text i k))
plain_rise n i text (Tags r) h = absurd h
plain_rise n i text (Title b k m) h = (tt, tt)
plain_rise n i text (Step k y m) h = (tt, tt)
plain_rise n i text (Row cells) h = (tt, tt)
plain_rise n i text _ h = tt

pub line_rises : (n : ℕ) (text : List ℕ) → Rise (line_places (line_of (n, text)))
line_rises n text = each_token (λ k. Rise (line_places (line n text (indent_of text) k))) text (add_tags (spaced_piece text)) (λ k h. plain_rise n (indent_of text) text k h)
  where
    add_tags : (o : Option TagWord) → Rise (line_places (line n text (indent_of text) (Tags (tag_list o (tags_of text)))))
    add_tags None = words_rise n 0 (tags_of text) (tags_rise text)
    add_tags (Some w) = tt

-- ---- lines

pub numbered_are_lines : (n : ℕ) (texts : List (List ℕ)) → AreNumberedFrom n (map line_of (enumerate_from n texts))
numbered_are_lines n [] = tt
numbered_are_lines n (t ∷ ts) = (refl, line_rises n t, numbered_are_lines (n + 1) ts)

pub read_are_lines : (text : List ℕ) → AreNumberedFrom 1 (lines_read text)
unfolding lines_read lines.lines_of lines.numbered_lines
read_are_lines text = numbered_are_lines 1 _
