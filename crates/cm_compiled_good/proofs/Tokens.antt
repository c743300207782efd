-- The texts in the token of a line are UTF-8, and its columns are within the line.
use Rattle.std.proofs.Common.{◌≡◌, ℕ, ◌+◌, ◌≤◌, List, [], ◌∷◌, ◌++◌, Bool, true, false, cond, length, map, Option, Some, None, Ok, IsUtf8, codes, refl, sym, subst, arith}
use Rattle.std.specs.Prelude.{⊤}
use Rattle.std.specs.Char.{IsScalar, is_whitespace}
use Rattle.std.specs.List.{AllByRecursion, enumerate_from}
use Rattle.std.specs.Option.{option_map}
use Rattle.std.proofs.lemmas.List.Sums.{prefix_len-le-length}
use Rattle.gk_line.specs.Texts.{text_after_indent, trimmed_text, after, first_some, or_else}
use Rattle.gk_line.specs.Tokens.{indent_of, is_blank_line, begins_by, language_of, title_of, step_of, fence_of, TitleText, StepText, FenceText, fences, blocks}
use Rattle.gk_line.specs.Tags.{TagWord, tags_of, spaced_piece}
use Rattle.gk_line.specs.Cells.{CellText, cells_of}
use Rattle.gk_line.specs.Places.{IsAtColumn, RiseWithin}
use Rattle.gk_line.specs.declared.tokens.Block.{Block}
use Rattle.gk_document.specs.declared.tree.Cell.{Cell}
use Rattle.gk_document.specs.declared.tree.Fence.{Fence}
use Rattle.gk_line.proofs.ColumnLemmas.{tags-placed, tag_columns_rise, cell_columns_rise}
use Rattle.gk_line.proofs.PlaceLemmas.{placed-read, title-placed, step-placed}
use Rattle.gk_grammar.specs.Token.{TagText, Token, Blank, Tags, Title, Step, Row, Fenced, Line, line, line_of, token_of, tag_text, tag_list, comment_token, word_token, token_or_other, title_token, step_token, fence_token, cell}
use Rattle.cm_compiled_good.proofs.Fine.{Fits64}
use Rattle.cm_compiled_good.proofs.Cells.{CellFits, row_fits}
use Rattle.cm_compiled_good.proofs.Scalars.{Scalars, encoded, parts_apart, Fits}

-- ---- tokens

abbrev pub WordOk : TagText → Type 0
WordOk w = IsUtf8 w.word × Fits64 w.column

abbrev pub CellOk : Cell → Type 0
CellOk c = IsUtf8 c.value × Fits64 c.column

abbrev pub TokenOk : Token → Type 0
TokenOk (Tags (Ok words)) = AllByRecursion WordOk words
TokenOk (Title b k m) = IsUtf8 k × IsUtf8 m
TokenOk (Step k y m) = IsUtf8 k × IsUtf8 m
TokenOk (Row cells) = AllByRecursion CellOk cells
TokenOk (Fenced f m) = IsUtf8 m
TokenOk _ = ⊤

abbrev OptionOk : Option Token → Type 0
OptionOk None = ⊤
OptionOk (Some k) = TokenOk k

-- what is in a line, and its mark
stands : (cs mark text : List ℕ) (column : ℕ) → Scalars cs → IsAtColumn cs mark text column → Scalars mark × Scalars text
stands cs mark text column h s =
    let one = parts_apart IsScalar s.front (mark ++ (s.gap ++ (text ++ s.back))) (subst Scalars s.parts h) in
    let two = parts_apart IsScalar mark (s.gap ++ (text ++ s.back)) one.1 in
    let three = parts_apart IsScalar s.gap (text ++ s.back) two.1 in
    (two.0, (parts_apart IsScalar text s.back three.1).0)

-- ---- tags and cells

words_ok : (m : ℕ) (low : ℕ) (cs : List ℕ) (ws : List TagWord) → Scalars cs → Fits64 m → AllByRecursion (λ (w : TagWord). IsAtColumn cs (codes "@") w.word w.column) ws
    → RiseWithin low m (map (λ (w : TagWord). w.column) ws) → AllByRecursion WordOk (map tag_text ws)
words_ok m low cs [] h small s r = tt
words_ok m low cs (w ∷ ws) h small s r =
    let within = r.1 in
    ((encoded w.word (stands cs (codes "@") w.word w.column h s.0).1, omega arith), words_ok m (w.column + 1) cs ws h small s.1 r.2)

cells_ok : (m low : ℕ) (cs : List CellText) → Fits64 m → AllByRecursion CellFits cs → RiseWithin low m (map (λ (c : CellText). c.column) cs) → AllByRecursion CellOk (map cell cs)
cells_ok m low [] small h r = tt
cells_ok m low (c ∷ cs) small h r = let within = r.1 in ((encoded c.value h.0, omega arith), cells_ok m (c.column + 1) cs small h.1 r.2)

tags_ok : (cs : List ℕ) → Scalars cs → Fits64 (length cs) → (o : Option TagWord) → TokenOk (Tags (tag_list o (tags_of cs)))
tags_ok cs h small None = words_ok (length cs) 1 cs (tags_of cs) h small (tags-placed cs) (tag_columns_rise cs)
tags_ok cs h small (Some w) = tt

-- ---- keywords

either : (a b : Option Token) → OptionOk a → OptionOk b → OptionOk (or_else a b)
either None b h k = k
either (Some x) b h k = h

title_ok : (cs : List ℕ) → Scalars cs → (b : Block) → OptionOk (option_map (title_token b) (title_of b cs))
title_ok cs h b = go (title_of b cs) refl
  where
    go : (o : Option TitleText) → title_of b cs ≡ o → OptionOk (option_map (title_token b) o)
    go None e = tt
    go (Some t) e =
        let parts = stands cs (t.keyword ++ codes ":") t.name t.column h (title-placed b cs t e) in
        (encoded t.keyword (parts_apart IsScalar t.keyword (codes ":") parts.0).0, encoded t.name parts.1)

titles_ok : (cs : List ℕ) → Scalars cs → (bs : List Block) → OptionOk (first_some (λ b. option_map (title_token b) (title_of b cs)) bs)
unfolding first_some
titles_ok cs h [] = tt
titles_ok cs h (b ∷ bs) = either (option_map (title_token b) (title_of b cs)) _ (title_ok cs h b) (titles_ok cs h bs)

step_ok : (cs : List ℕ) → Scalars cs → OptionOk (option_map step_token (step_of cs))
step_ok cs h = go (step_of cs) refl
  where
    go : (o : Option StepText) → step_of cs ≡ o → OptionOk (option_map step_token o)
    go None e = tt
    go (Some s) e =
        let parts = stands cs s.keyword s.text s.column h (step-placed cs s e) in
        (encoded s.keyword parts.0, encoded s.text parts.1)

fence_ok : (cs : List ℕ) → Scalars cs → OptionOk (option_map fence_token (fence_of cs))
unfolding fence_of first_some
fence_ok cs h = firsts fences
  where
    one : (mark : List ℕ) (f : Fence) (o : Option (List ℕ)) → after mark (text_after_indent cs) ≡ o
        → OptionOk (option_map fence_token (option_map (λ rest. record { fence = f; media = trimmed_text rest; column = indent_of cs + 1 }) o))
    one mark f None e = tt
    one mark f (Some rest) e =
        encoded (trimmed_text rest) (stands cs mark (trimmed_text rest) (indent_of cs + 1) h (placed-read cs (text_after_indent cs) mark rest (trimmed_text rest) (indent_of cs + 1) refl (sym e) refl refl)).1

    join : (a b : Option FenceText) → OptionOk (option_map fence_token a) → OptionOk (option_map fence_token b) → OptionOk (option_map fence_token (or_else a b))
    join None b h k = k
    join (Some x) b h k = h

    firsts : (fs : List (List ℕ × Fence)) → OptionOk (option_map fence_token (first_some (λ (z : List ℕ × Fence). option_map (λ rest. record { fence = z.1; media = trimmed_text rest; column = indent_of cs + 1 }) (after z.0 (text_after_indent cs))) fs))
    firsts [] = tt
    firsts (x ∷ fs) = join _ _ (one x.0 x.1 (after x.0 (text_after_indent cs)) refl) (firsts fs)

-- ---- lines

pub token_ok : (cs : List ℕ) → Scalars cs → Fits64 (length cs) → TokenOk (token_of cs)
unfolding token_of
token_ok cs h small = go (is_blank_line cs) (begins_by (codes "#") cs) (begins_by (codes "@") cs) (begins_by (codes "|") cs)
  where
    comment : (w : Option (List ℕ)) → TokenOk (comment_token w)
    comment None = tt
    comment (Some word) = tt

    other : (o : Option Token) → OptionOk o → TokenOk (token_or_other o)
    other None k = tt
    other (Some x) k = k

    go : (blank hash mark bar : Bool) → TokenOk (cond blank Blank (cond hash (comment_token (language_of cs)) (cond mark (Tags (tag_list (spaced_piece cs) (tags_of cs))) (cond bar (Row (map cell (cells_of cs))) (token_or_other (word_token cs))))))
    go true hash mark bar = tt
    go false true mark bar = comment (language_of cs)
    go false false true bar = tags_ok cs h small (spaced_piece cs)
    go false false false true = cells_ok (length cs) 1 (cells_of cs) small (row_fits cs h) (cell_columns_rise cs)
    go false false false false = other (word_token cs) (either _ _ (titles_ok cs h blocks) (either _ _ (step_ok cs h) (fence_ok cs h)))

abbrev pub LineOk : Line → Type 0
LineOk (line n t i k) = Fits64 n × Scalars t × Fits64 (i + 1) × TokenOk k

indent_short : (t : List ℕ) → indent_of t ≤ length t
unfolding indent_of
indent_short t = prefix_len-le-length is_whitespace t

pub lines_ok : (m n : ℕ) (ts : List (List ℕ)) → AllByRecursion (Fits m) ts → Fits64 (m + 1) → Fits64 (n + length ts) → AllByRecursion LineOk (map line_of (enumerate_from n ts))
lines_ok m n [] h small few = tt
lines_ok m n (t ∷ ts) h small few =
    let short = h.0.1 in
    let indent : indent_of t ≤ length t = indent_short t in
    ((omega arith, h.0.0, omega arith, token_ok t h.0.0 (omega arith)), lines_ok m (n + 1) ts h.1 small (omega arith))
