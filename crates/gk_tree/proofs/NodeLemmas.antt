-- How many nodes a line adds.
use Rattle.std.proofs.Common.{◌≡◌, ℕ, suc, ◌+◌, ◌≤◌, Bool, true, false, cond, List, [], ◌∷◌, ◌++◌, ◌==◌, length, Option, Some, None, Result, Ok, Err, refl, ap, arith}
use Rattle.std.specs.Prelude.{map, codes}
use Rattle.std.specs.Option.{option_map}
use Rattle.std.specs.Str.{chars}
use Rattle.std.proofs.lemmas.List.{length-map}
use Rattle.gk_line.specs.Texts.{or_else, first_some}
use Rattle.gk_line.specs.Tokens.{is_blank_line, begins_by, language_of, title_of, TitleText, step_of, StepText, fence_of, FenceText, indent_of}
use Rattle.gk_line.specs.Tags.{TagWord, spaced_piece, tags_of}
use Rattle.gk_line.specs.Cells.{cells_of}
use Rattle.gk_document.specs.declared.tree.Cell.{Cell}
use Rattle.gk_document.specs.declared.tree.Fence.{Fence}
use Rattle.gk_line.specs.declared.tokens.Block.{Block}
use Rattle.gk_line.specs.declared.tokens.Block.TheVariants as block
use Rattle.gk_document.specs.declared.tree.Argument.TheVariants.{Table, Text as Quoted}
use Rattle.gk_grammar.specs.declared.fault.FaultKind.{FaultKind}
use Rattle.gk_grammar.specs.declared.fault.FaultKind.TheVariants as kind
use Rattle.gk_grammar.specs.Grammar.{stops, is_fence, english}
use Rattle.gk_grammar.specs.Tree as tree
use Rattle.gk_grammar.specs.Token.{Utf8, TagText, Token, Blank, Comment, Language, Tags, Title, Step, Row, Fenced, Other, line, line_of, token_of, comment_token, title_token, step_token, fence_token, word_token, token_or_other, tag_list, tag_text, cell}
use Rattle.gk_grammar.specs.Machine.{State, PlacedFault, Phase, Start, AfterLanguage, AfterTags, InDescription, AfterStep, InDocString, InExamplesTable, FlatBlock, next, at_phase, close_block, another_row, step_row, step_fence, title_node_count, after_step, in_examples_table, before_first_block, at_start, after_language, after_tags, after_description, with_description, with_steps, with_rows, follows, takes_tags, open_block, pass_over, with_doc_string, count_of, row_at, same_text}
use Rattle.gk_grammar.proofs.Bytes.{tags_fewer}
use Rattle.gk_tree.proofs.TokenLemmas.{chars_bound}

-- the tags of a tag line, and one node of any other line
room : Token → ℕ
room (Tags (Ok words)) = suc (length words)
room _ = 1

IsAtMost : ℕ → Result State PlacedFault → Type 0
IsAtMost n (Ok s) = s.nodes ≤ n
IsAtMost n (Err b) = Unit {0}

own_at_most : (b : Block) → title_node_count b ≤ 1
own_at_most block.Feature = omega arith
own_at_most block.Rule = omega arith
own_at_most block.Background = omega arith
own_at_most block.Scenario = omega arith
own_at_most block.Examples = omega arith

abbrev place : FaultKind → ℕ → ℕ → PlacedFault
place k n column = record { kind = k; line = n; column = column }

either : (n : ℕ) (b : Bool) (r t : Result State PlacedFault) → IsAtMost n r → IsAtMost n t → IsAtMost n (cond b r t)
either n true r t h k = h
either n false r t h k = k

leaving_adds : (s : State) (c : FlatBlock) (n i : ℕ) (cs : List ℕ) (t : Token) → IsAtMost (s.nodes + room t) (close_block s c (line n cs i t))
unfolding IsAtMost room
leaving_adds s c n i cs (Tags (Ok words)) = omega arith
leaving_adds s c n i cs (Tags (Err column)) = tt
leaving_adds s c n i cs (Title b k m) = either (s.nodes + 1) (follows (Some c.block) b) (Ok (open_block (record s { flat_blocks = s.flat_blocks ++ c ∷ [] }) b [] n i k m)) (Err (place kind.Unexpected n (i + 1))) (omega (arith, own_at_most b)) tt
leaving_adds s c n i cs Blank = tt
leaving_adds s c n i cs Comment = tt
leaving_adds s c n i cs (Language w) = tt
leaving_adds s c n i cs (Step k y m) = tt
leaving_adds s c n i cs (Row cells) = tt
leaving_adds s c n i cs (Fenced f media) = tt
leaving_adds s c n i cs Other = tt

row_adds : (s : State) (phase : List tree.Row → Phase) (rows : List tree.Row) (n i : ℕ) (cells : List Cell) → IsAtMost (s.nodes + 1) (another_row s phase rows n i cells)
unfolding IsAtMost
row_adds s phase rows n i cells =
    either (s.nodes + 1) (length cells == count_of rows) (Ok (record s { nodes = s.nodes + 1; phase = phase (rows ++ row_at s n i cells ∷ []) })) (Err (place kind.CellCount n (i + 1))) (omega arith) tt

step_row_adds : (s : State) (c : FlatBlock) (before : List tree.Step) (last : tree.Step) (a : Option tree.Argument) (n i : ℕ) (cells : List Cell) → IsAtMost (s.nodes + 1) (step_row s c before last a n i cells)
unfolding IsAtMost
step_row_adds s c before last None n i cells = omega arith
step_row_adds s c before last (Some (Table rows)) n i cells = row_adds s (λ rs. AfterStep c before (record last { argument = Some (Table rs) })) rows n i cells
step_row_adds s c before last (Some (Quoted d)) n i cells = tt

step_fence_adds : (s : State) (c : FlatBlock) (before : List tree.Step) (last : tree.Step) (a : Option tree.Argument) (n i : ℕ) (f : Fence) (media : Utf8) → IsAtMost (s.nodes + 1) (step_fence s c before last a n i f media)
unfolding IsAtMost
step_fence_adds s c before last None n i f media = omega arith
step_fence_adds s c before last (Some a) n i f media = tt

stepping_adds : (s : State) (c : FlatBlock) (before : List tree.Step) (last : tree.Step) (n i : ℕ) (cs : List ℕ) (t : Token) → IsAtMost (s.nodes + room t) (after_step s c before last (line n cs i t))
unfolding IsAtMost room
stepping_adds s c before last n i cs (Step k y m) = omega arith
stepping_adds s c before last n i cs (Row cells) = step_row_adds s c before last last.argument n i cells
stepping_adds s c before last n i cs (Fenced f media) = step_fence_adds s c before last last.argument n i f media
stepping_adds s c before last n i cs Blank = omega arith
stepping_adds s c before last n i cs Comment = omega arith
stepping_adds s c before last n i cs (Language w) = omega arith
stepping_adds s c before last n i cs (Tags r) = leaving_adds s (with_steps c (before ++ last ∷ [])) n i cs (Tags r)
stepping_adds s c before last n i cs (Title b k m) = leaving_adds s (with_steps c (before ++ last ∷ [])) n i cs (Title b k m)
stepping_adds s c before last n i cs Other = tt

listing_adds : (s : State) (c : FlatBlock) (rows : List tree.Row) (n i : ℕ) (cs : List ℕ) (t : Token) → IsAtMost (s.nodes + room t) (in_examples_table s c rows (line n cs i t))
unfolding IsAtMost room
listing_adds s c rows n i cs (Row cells) = row_adds s (λ rs. InExamplesTable c rs) rows n i cells
listing_adds s c rows n i cs Blank = omega arith
listing_adds s c rows n i cs Comment = omega arith
listing_adds s c rows n i cs (Language w) = omega arith
listing_adds s c rows n i cs (Tags r) = leaving_adds s (with_rows c rows) n i cs (Tags r)
listing_adds s c rows n i cs (Title b k m) = leaving_adds s (with_rows c rows) n i cs (Title b k m)
listing_adds s c rows n i cs (Step k y m) = tt
listing_adds s c rows n i cs (Fenced f media) = tt
listing_adds s c rows n i cs Other = tt

beginning_adds : (s : State) (p : Phase) (n i : ℕ) (cs : List ℕ) (t : Token) → IsAtMost (s.nodes + room t) (before_first_block s p (line n cs i t))
unfolding IsAtMost room
beginning_adds s p n i cs Blank = omega arith
beginning_adds s p n i cs Comment = omega arith
beginning_adds s p n i cs (Tags (Ok words)) = omega arith
beginning_adds s p n i cs (Tags (Err column)) = tt
beginning_adds s p n i cs (Title block.Feature k m) = omega arith
beginning_adds s p n i cs (Title block.Rule k m) = tt
beginning_adds s p n i cs (Title block.Background k m) = tt
beginning_adds s p n i cs (Title block.Scenario k m) = tt
beginning_adds s p n i cs (Title block.Examples k m) = tt
beginning_adds s p n i cs (Language w) = tt
beginning_adds s p n i cs (Step k y m) = tt
beginning_adds s p n i cs (Row cells) = tt
beginning_adds s p n i cs (Fenced f media) = tt
beginning_adds s p n i cs Other = tt

before_adds : (s : State) (n i : ℕ) (cs : List ℕ) (t : Token) → IsAtMost (s.nodes + room t) (at_start s (line n cs i t))
unfolding IsAtMost room
before_adds s n i cs (Language w) = either (s.nodes + 1) (same_text w english) (Ok (record s { phase = AfterLanguage })) (Err (place kind.UnsupportedLanguage n (i + 1))) (omega arith) tt
before_adds s n i cs Blank = beginning_adds s Start n i cs Blank
before_adds s n i cs Comment = beginning_adds s Start n i cs Comment
before_adds s n i cs (Tags r) = beginning_adds s Start n i cs (Tags r)
before_adds s n i cs (Title b k m) = beginning_adds s Start n i cs (Title b k m)
before_adds s n i cs (Step k y m) = tt
before_adds s n i cs (Row cells) = tt
before_adds s n i cs (Fenced f media) = tt
before_adds s n i cs Other = tt

spoken_adds : (s : State) (n i : ℕ) (cs : List ℕ) (t : Token) → IsAtMost (s.nodes + room t) (after_language s (line n cs i t))
unfolding IsAtMost room
spoken_adds s n i cs (Language w) = omega arith
spoken_adds s n i cs Blank = beginning_adds s AfterLanguage n i cs Blank
spoken_adds s n i cs Comment = beginning_adds s AfterLanguage n i cs Comment
spoken_adds s n i cs (Tags r) = beginning_adds s AfterLanguage n i cs (Tags r)
spoken_adds s n i cs (Title b k m) = beginning_adds s AfterLanguage n i cs (Title b k m)
spoken_adds s n i cs (Step k y m) = tt
spoken_adds s n i cs (Row cells) = tt
spoken_adds s n i cs (Fenced f media) = tt
spoken_adds s n i cs Other = tt

tags_add : (s : State) (before : Option Block) (tags : List tree.Tag) (n i : ℕ) (cs : List ℕ) (t : Token) → IsAtMost (s.nodes + room t) (after_tags s before tags (line n cs i t))
unfolding IsAtMost room
tags_add s before tags n i cs Blank = omega arith
tags_add s before tags n i cs Comment = omega arith
tags_add s before tags n i cs (Language w) = omega arith
tags_add s before tags n i cs (Tags (Ok words)) = omega arith
tags_add s before tags n i cs (Tags (Err column)) = tt
tags_add s before tags n i cs (Title b k m) =
    let here = Err (place kind.Unexpected n (i + 1)) in
    let inner = either (s.nodes + 1) (takes_tags b) (Ok (open_block s b tags n i k m)) here (omega (arith, own_at_most b)) tt in
    either (s.nodes + 1) (follows before b) (cond (takes_tags b) (Ok (open_block s b tags n i k m)) here) here inner tt
tags_add s before tags n i cs (Step k y m) = tt
tags_add s before tags n i cs (Row cells) = tt
tags_add s before tags n i cs (Fenced f media) = tt
tags_add s before tags n i cs Other = tt

entering_adds : (s : State) (c : FlatBlock) (n i : ℕ) (cs : List ℕ) (t : Token) → IsAtMost (s.nodes + room t) (after_description s c (line n cs i t))
unfolding IsAtMost room
entering_adds s c n i cs (Step k y m) = omega arith
entering_adds s c n i cs (Row cells) = omega arith
entering_adds s c n i cs Blank = tt
entering_adds s c n i cs Comment = tt
entering_adds s c n i cs (Language w) = tt
entering_adds s c n i cs (Tags r) = leaving_adds s c n i cs (Tags r)
entering_adds s c n i cs (Title b k m) = leaving_adds s c n i cs (Title b k m)
entering_adds s c n i cs (Fenced f media) = tt
entering_adds s c n i cs Other = tt

line_adds : (s : State) (p : Phase) (n i : ℕ) (cs : List ℕ) (t : Token) → IsAtMost (s.nodes + room t) (at_phase s p (line n cs i t))
unfolding IsAtMost
line_adds s Start n i cs t = before_adds s n i cs t
line_adds s AfterLanguage n i cs t = spoken_adds s n i cs t
line_adds s (AfterTags before tags) n i cs t = tags_add s before tags n i cs t
line_adds s (InDescription c ls) n i cs t =
    either (s.nodes + room t) (stops c.block (line n cs i t)) (after_description s (with_description c ls) (line n cs i t)) (Ok (pass_over s (InDescription c (ls ++ line n cs i t ∷ [])) (line n cs i t)))
    (entering_adds s (with_description c ls) n i cs t) (omega arith)
line_adds s (AfterStep c before last) n i cs t = stepping_adds s c before last n i cs t
line_adds s (InDocString c before last q inside) n i cs t =
    either (s.nodes + room t) (is_fence q.fence (line n cs i t)) (Ok (record s { phase = AfterStep c before (with_doc_string last q inside) })) (Ok (record s { phase = InDocString c before last q (inside ++ line n cs i t ∷ []) }))
    (omega arith) (omega arith)
line_adds s (InExamplesTable c rows) n i cs t = listing_adds s c rows n i cs t

at_most_of : (n m : ℕ) (r : Result State PlacedFault) (x : State) → IsAtMost n r → r ≡ Ok x → n ≤ m → x.nodes ≤ m
unfolding IsAtMost
at_most_of n m (Ok s) x h e k = let same : s ≡ x = cc in omega (arith, h, k, ap (λ (z : State). z.nodes) same)
at_most_of n m (Err b) x h e k = absurd cc

words_few : (cs : List ℕ) (o : Option TagWord) → length (tags_of cs) ≤ length cs → room (Tags (tag_list o (tags_of cs))) ≤ suc (length cs)
unfolding room
words_few cs None h = omega (arith, length-map (tags_of cs) tag_text, h)
words_few cs (Some x) h = omega arith

IsSmall : Option Token → Type 0
IsSmall None = Unit {0}
IsSmall (Some t) = room t ≡ 1

small_either : (o p : Option Token) → IsSmall o → IsSmall p → IsSmall (or_else o p)
unfolding IsSmall
small_either None p h k = k
small_either (Some t) p h k = h

small_title : (b : Block) (o : Option TitleText) → IsSmall (option_map (title_token b) o)
unfolding IsSmall room
small_title b None = tt
small_title b (Some t) = refl

small_step : (o : Option StepText) → IsSmall (option_map step_token o)
unfolding IsSmall room
small_step None = tt
small_step (Some t) = refl

small_fence : (o : Option FenceText) → IsSmall (option_map fence_token o)
unfolding IsSmall room
small_fence None = tt
small_fence (Some t) = refl

small_none : IsSmall None
unfolding IsSmall
small_none = tt

small_word : (cs : List ℕ) → IsSmall (word_token cs)
unfolding first_some
small_word cs =
    small_either _ _
    (small_either _ _ (small_title block.Feature (title_of block.Feature cs))
    (small_either _ _ (small_title block.Rule (title_of block.Rule cs))
    (small_either _ _ (small_title block.Background (title_of block.Background cs))
    (small_either _ _ (small_title block.Scenario (title_of block.Scenario cs))
    (small_either _ _ (small_title block.Examples (title_of block.Examples cs)) small_none)))))
    (small_either _ _ (small_step (step_of cs)) (small_fence (fence_of cs)))

small_other : (o : Option Token) → IsSmall o → room (token_or_other o) ≡ 1
unfolding IsSmall room
small_other None h = refl
small_other (Some t) h = h

small_comment : (o : Option (List ℕ)) → room (comment_token o) ≡ 1
unfolding room
small_comment None = refl
small_comment (Some w) = refl

all_room : (m : ℕ) (x y a b : Bool) (w : Option (List ℕ)) (t : Result (List TagText) ℕ) (r : List Cell) (o : Option Token) → IsSmall o → room (Tags t) ≤ suc m →
    room (cond x Blank (cond y (comment_token w) (cond a (Tags t) (cond b (Row r) (token_or_other o))))) ≤ suc m
unfolding room
all_room m true y a b w t r o h k = omega arith
all_room m false true a b w t r o h k = omega (arith, small_comment w)
all_room m false false true b w t r o h k = k
all_room m false false false true w t r o h k = omega arith
all_room m false false false false w t r o h k = omega (arith, small_other o h)

-- a line takes as many nodes as it has characters, and one
line_room : (cs : List ℕ) → room (token_of cs) ≤ suc (length cs)
unfolding token_of
line_room cs =
    all_room (length cs) (is_blank_line cs) (begins_by (codes "#") cs) (begins_by (codes "@") cs) (begins_by (codes "|") cs)
    (language_of cs) (tag_list (spaced_piece cs) (tags_of cs)) (map cell (cells_of cs)) (word_token cs) (small_word cs) (words_few cs (spaced_piece cs) (tags_fewer cs))

-- a line of this many bytes at most adds as many nodes at most, and one
pub nodes_rise : (s x : State) (n m : ℕ) (bytes : List ℕ) → length bytes ≤ m → next s (line_of (n, chars bytes)) ≡ Ok x → x.nodes ≤ s.nodes + (m + 1)
nodes_rise s x n m bytes h e =
    let adds = line_adds s s.phase n (indent_of (chars bytes)) (chars bytes) (token_of (chars bytes)) in
    let few = line_room (chars bytes) in
    let short = chars_bound bytes in
    at_most_of (s.nodes + room (token_of (chars bytes))) (s.nodes + (m + 1)) (next s (line_of (n, chars bytes))) x adds e (omega arith)
