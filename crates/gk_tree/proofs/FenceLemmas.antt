-- Which lines close a doc string.
use Rattle.std.proofs.Common.{◌≡◌, ℕ, Bool, true, false, cond, List, [], ◌∷◌, Option, Some, None, Result, refl, ap, codes, is_some}
use Rattle.std.specs.Prelude.{map}
use Rattle.std.specs.Option.{option_map}
use Rattle.gk_document.specs.declared.tree.Cell.{Cell}
use Rattle.gk_document.specs.declared.tree.Fence.{Fence}
use Rattle.gk_document.specs.declared.tree.Fence.TheVariants.{Quotes, Backticks}
use Rattle.gk_line.specs.Texts.{first_some, or_else}
use Rattle.gk_line.specs.Tokens.{is_blank_line, begins_by, language_of, TitleText, title_of, StepText, step_of, FenceText, fence_of, indent_of}
use Rattle.gk_line.specs.Tags.{spaced_piece, tags_of}
use Rattle.gk_line.specs.Cells.{cells_of}
use Rattle.gk_line.specs.Kinds.{Kind, is_of_kind}
use Rattle.gk_line.specs.Kinds.Kind.{Blank as BlankLine, Comment as CommentLine, TagLine, Row as RowLine, Step as StepLine, DocStringFence}
use Rattle.gk_line.specs.declared.tokens.Block.{Block}
use Rattle.gk_line.specs.declared.tokens.Block.TheVariants as block
use Rattle.gk_line.proofs.KindLemmas.{kinds_exclude}
use Rattle.gk_grammar.specs.Token.{Token, Blank, Comment, Language, Tags, Row, Other, TagText, line, line_of, token_of, comment_token, title_token, step_token, fence_token, word_token, token_or_other, tag_list, cell}
use Rattle.gk_grammar.specs.Grammar.{is_fence}
use Rattle.gk_tree.proofs.HeadLemmas.{fence_word}

-- ---- a line that is a fence

other_kind : (k : Kind) (cs : List ℕ) → (k ≡ DocStringFence → ⊥) → is_some (fence_of cs) ≡ true → is_of_kind k cs ≡ false
other_kind k cs differs h = go (is_of_kind k cs) refl
  where
    go : (b : Bool) → is_of_kind k cs ≡ b → is_of_kind k cs ≡ false
    go true e = absurd (differs (kinds_exclude cs k DocStringFence e h))
    go false e = e

no_step : (cs : List ℕ) → is_some (fence_of cs) ≡ true → option_map step_token (step_of cs) ≡ None
no_step cs h = go (step_of cs) (other_kind StepLine cs (λ d. absurd cc) h)
  where
    go : (o : Option StepText) → is_some o ≡ false → option_map step_token o ≡ None
    go None e = refl
    go (Some s) e = absurd cc

pub fence_found : (cs : List ℕ) (t : FenceText) → fence_of cs ≡ Some t → token_of cs ≡ fence_token t
unfolding token_of
fence_found cs t e =
    let h : is_some (fence_of cs) ≡ true = rw e refl in
    let blank : is_blank_line cs ≡ false = other_kind BlankLine cs (λ d. absurd cc) h in
    let comment : begins_by (codes "#") cs ≡ false = other_kind CommentLine cs (λ d. absurd cc) h in
    let tags : begins_by (codes "@") cs ≡ false = other_kind TagLine cs (λ d. absurd cc) h in
    let row : begins_by (codes "|") cs ≡ false = other_kind RowLine cs (λ d. absurd cc) h in
    let word : word_token cs ≡ Some (fence_token t) = fence_word cs (fence_token t) (no_step cs h) (ap (λ o. option_map fence_token o) e) in
    rw (blank, comment, tags, row, word) refl

-- ---- any other line

IsPlain : Token → Type 0
IsPlain t = (f : Fence) (n : ℕ) (cs : List ℕ) (i : ℕ) → is_fence f (line n cs i t) ≡ false

blank : IsPlain Blank
unfolding IsPlain
blank Quotes n cs i = refl
blank Backticks n cs i = refl

comment : IsPlain Comment
unfolding IsPlain
comment Quotes n cs i = refl
comment Backticks n cs i = refl

language : (w : List ℕ) → IsPlain (Language w)
unfolding IsPlain
language w Quotes n cs i = refl
language w Backticks n cs i = refl

tags : (r : Result (List TagText) ℕ) → IsPlain (Tags r)
unfolding IsPlain
tags r Quotes n cs i = refl
tags r Backticks n cs i = refl

row : (cells : List Cell) → IsPlain (Row cells)
unfolding IsPlain
row cells Quotes n cs i = refl
row cells Backticks n cs i = refl

other : IsPlain Other
unfolding IsPlain
other Quotes n cs i = refl
other Backticks n cs i = refl

-- no fence
IsWord : Option Token → Type 0
IsWord None = Unit {0}
IsWord (Some t) = IsPlain t

either : (o p : Option Token) → IsWord o → IsWord p → IsWord (or_else o p)
unfolding IsWord
either None p h k = k
either (Some t) p h k = h

title : (b : Block) (o : Option TitleText) → IsWord (option_map (title_token b) o)
unfolding IsWord IsPlain
title b None = tt
title b (Some t) = λ f n cs i. by_fence f n cs i
  where
    by_fence : (f : Fence) (n : ℕ) (cs : List ℕ) (i : ℕ) → is_fence f (line n cs i (title_token b t)) ≡ false
    by_fence Quotes n cs i = refl
    by_fence Backticks n cs i = refl

step : (o : Option StepText) → IsWord (option_map step_token o)
unfolding IsWord IsPlain
step None = tt
step (Some s) = λ f n cs i. by_fence f n cs i
  where
    by_fence : (f : Fence) (n : ℕ) (cs : List ℕ) (i : ℕ) → is_fence f (line n cs i (step_token s)) ≡ false
    by_fence Quotes n cs i = refl
    by_fence Backticks n cs i = refl

none : IsWord None
unfolding IsWord
none = tt

words : (cs : List ℕ) (o : Option FenceText) → o ≡ None →
    IsWord (or_else (first_some (λ b. option_map (title_token b) (title_of b cs)) (block.Feature ∷ block.Rule ∷ block.Background ∷ block.Scenario ∷ block.Examples ∷ []))
    (or_else (option_map step_token (step_of cs)) (option_map fence_token o)))
unfolding first_some
words cs None e =
    either _ _
    (either _ _ (title block.Feature (title_of block.Feature cs))
    (either _ _ (title block.Rule (title_of block.Rule cs))
    (either _ _ (title block.Background (title_of block.Background cs))
    (either _ _ (title block.Scenario (title_of block.Scenario cs))
    (either _ _ (title block.Examples (title_of block.Examples cs)) none)))))
    (either _ _ (step (step_of cs)) none)
words cs (Some t) e = absurd cc

word : (o : Option Token) → IsWord o → IsPlain (token_or_other o)
unfolding IsWord
word None h = other
word (Some t) h = h

said : (o : Option (List ℕ)) → IsPlain (comment_token o)
said None = comment
said (Some w) = language _

choice : (b : Bool) (t u : Token) → IsPlain t → IsPlain u → IsPlain (cond b t u)
choice true t u h k = h
choice false t u h k = k

plain : (cs : List ℕ) → fence_of cs ≡ None → IsPlain (token_of cs)
unfolding token_of
plain cs e =
    choice (is_blank_line cs) _ _ blank
    (choice (begins_by (codes "#") cs) _ _ (said (language_of cs))
    (choice (begins_by (codes "@") cs) _ _ (tags (tag_list (spaced_piece cs) (tags_of cs)))
    (choice (begins_by (codes "|") cs) _ _ (row (map cell (cells_of cs)))
    (word (word_token cs) (words cs (fence_of cs) e)))))

pub fence_missed : (cs : List ℕ) (f : Fence) (n : ℕ) → fence_of cs ≡ None → is_fence f (line_of (n, cs)) ≡ false
unfolding IsPlain
fence_missed cs f n e = plain cs e f n cs (indent_of cs)
