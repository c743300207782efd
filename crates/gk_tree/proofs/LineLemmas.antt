-- Which lines are comments and which are blank.
use Rattle.std.proofs.Common.{◌≡◌, ℕ, ◌+◌, ◌-◌, ◌<◌, length-drop, take, drop, get_or, append-nil, add-one, drop-cons, Bool, true, false, cond, List, [], ◌∷◌, ◌++◌, length, Option, Some, None, Result, refl, sym, ap, ◌∙◌, arith}
use Rattle.std.proofs.lemmas.Grind.{common_steps}
use Rattle.std.specs.Prelude.{map, codes, not, filter, reverse}
use Rattle.std.proofs.lemmas.List.{take_more, map-append, reverse-append, take_all}
use Rattle.gk_line.specs.Views.{line_chars}
use Rattle.gk_grammar.specs.Grammar.{from_text}
use Rattle.gk_tree.specs.declared.token.IndentedLine.{IndentedLine}
use Rattle.gk_tree.specs.Views.{kept_line}
use Rattle.std.specs.Option.{option_map}
use Rattle.std.specs.List.{list_all}
use Rattle.std.specs.Char.{is_whitespace}
use Rattle.std.specs.Str.{skip_leading_whitespace}
use Rattle.gk_line.specs.Texts.{or_else, first_some, text_after_indent, after}
use Rattle.gk_line.specs.Tokens.{is_blank_line, begins_by, language_of, title_of, TitleText, step_of, StepText, fence_of, FenceText, indent_of}
use Rattle.gk_line.specs.Tags.{spaced_piece, tags_of}
use Rattle.gk_line.specs.Cells.{cells_of}
use Rattle.gk_line.specs.declared.tokens.Block.{Block}
use Rattle.gk_line.specs.declared.tokens.Block.TheVariants as block
use Rattle.gk_document.specs.declared.tree.Cell.{Cell}
use Rattle.gk_grammar.specs.Token.{Token, Blank, Tags, Row, TagText, Line, line, line_of, is_comment, is_blank, token_of, comment_token, title_token, step_token, fence_token, word_token, token_or_other, tag_list, cell}

skip_blank : (cs : List ℕ) → list_all is_whitespace cs ≡ true → skip_leading_whitespace cs ≡ []
skip_blank [] h = refl
skip_blank (c ∷ cs) h = grind (arith, common_steps, skip_blank cs)

blank_begins : (cs : List ℕ) → is_blank_line cs ≡ true → begins_by (codes "#") cs ≡ false
unfolding is_blank_line begins_by text_after_indent after
blank_begins cs h = rw (skip_blank cs h) refl

-- neither blank nor a comment
IsWord : Option Token → Type 0
IsWord None = Unit {0}
IsWord (Some t) = ((n : ℕ) (cs : List ℕ) (i : ℕ) → is_comment (line n cs i t) ≡ false) × ((n : ℕ) (cs : List ℕ) (i : ℕ) → is_blank (line n cs i t) ≡ false)

either : (o p : Option Token) → IsWord o → IsWord p → IsWord (or_else o p)
unfolding IsWord
either None p h k = k
either (Some t) p h k = h

titles : (b : Block) (o : Option TitleText) → IsWord (option_map (title_token b) o)
unfolding IsWord
titles b None = tt
titles b (Some t) = ((λ n cs i. refl), (λ n cs i. refl))

steps : (o : Option StepText) → IsWord (option_map step_token o)
unfolding IsWord
steps None = tt
steps (Some t) = ((λ n cs i. refl), (λ n cs i. refl))

fences : (o : Option FenceText) → IsWord (option_map fence_token o)
unfolding IsWord
fences None = tt
fences (Some t) = ((λ n cs i. refl), (λ n cs i. refl))

none : IsWord None
unfolding IsWord
none = tt

words : (cs : List ℕ) → IsWord (word_token cs)
unfolding first_some
words cs =
    either _ _
    (either _ _ (titles block.Feature (title_of block.Feature cs))
    (either _ _ (titles block.Rule (title_of block.Rule cs))
    (either _ _ (titles block.Background (title_of block.Background cs))
    (either _ _ (titles block.Scenario (title_of block.Scenario cs))
    (either _ _ (titles block.Examples (title_of block.Examples cs)) none)))))
    (either _ _ (steps (step_of cs)) (fences (fence_of cs)))

other_comment : (n : ℕ) (cs : List ℕ) (i : ℕ) (o : Option Token) → IsWord o → is_comment (line n cs i (token_or_other o)) ≡ false
unfolding IsWord
other_comment n cs i None h = refl
other_comment n cs i (Some t) h = h.0 n cs i

other_blank : (n : ℕ) (cs : List ℕ) (i : ℕ) (o : Option Token) → IsWord o → is_blank (line n cs i (token_or_other o)) ≡ false
unfolding IsWord
other_blank n cs i None h = refl
other_blank n cs i (Some t) h = h.1 n cs i

rest_comment : (n : ℕ) (cs : List ℕ) (i : ℕ) (a b : Bool) (t : Result (List TagText) ℕ) (r : List Cell) (o : Option Token) → IsWord o → is_comment (line n cs i (cond a (Tags t) (cond b (Row r) (token_or_other o)))) ≡ false
rest_comment n cs i true b t r o h = refl
rest_comment n cs i false true t r o h = refl
rest_comment n cs i false false t r o h = other_comment n cs i o h

rest_blank : (n : ℕ) (cs : List ℕ) (i : ℕ) (a b : Bool) (t : Result (List TagText) ℕ) (r : List Cell) (o : Option Token) → IsWord o → is_blank (line n cs i (cond a (Tags t) (cond b (Row r) (token_or_other o)))) ≡ false
rest_blank n cs i true b t r o h = refl
rest_blank n cs i false true t r o h = refl
rest_blank n cs i false false t r o h = other_blank n cs i o h

comment_is : (n : ℕ) (cs : List ℕ) (i : ℕ) (o : Option (List ℕ)) → (is_comment (line n cs i (comment_token o)) ≡ true) × (is_blank (line n cs i (comment_token o)) ≡ false)
comment_is n cs i None = (refl, refl)
comment_is n cs i (Some w) = (refl, refl)

all_comment : (n : ℕ) (cs : List ℕ) (i : ℕ) (x y a b : Bool) (w : Option (List ℕ)) (t : Result (List TagText) ℕ) (r : List Cell) (o : Option Token) → IsWord o → (x ≡ true → y ≡ false) →
    is_comment (line n cs i (cond x Blank (cond y (comment_token w) (cond a (Tags t) (cond b (Row r) (token_or_other o)))))) ≡ y
all_comment n cs i true y a b w t r o h e = sym (e refl)
all_comment n cs i false true a b w t r o h e = (comment_is n cs i w).0
all_comment n cs i false false a b w t r o h e = rest_comment n cs i a b t r o h

all_blank : (n : ℕ) (cs : List ℕ) (i : ℕ) (x y a b : Bool) (w : Option (List ℕ)) (t : Result (List TagText) ℕ) (r : List Cell) (o : Option Token) → IsWord o →
    is_blank (line n cs i (cond x Blank (cond y (comment_token w) (cond a (Tags t) (cond b (Row r) (token_or_other o)))))) ≡ x
all_blank n cs i true y a b w t r o h = refl
all_blank n cs i false true a b w t r o h = (comment_is n cs i w).1
all_blank n cs i false false a b w t r o h = rest_blank n cs i a b t r o h

pub is_comment-line_of : (n : ℕ) (cs : List ℕ) → is_comment (line_of (n, cs)) ≡ begins_by (codes "#") cs
unfolding token_of
is_comment-line_of n cs =
    all_comment n cs (indent_of cs) (is_blank_line cs) (begins_by (codes "#") cs) (begins_by (codes "@") cs) (begins_by (codes "|") cs)
    (language_of cs) (tag_list (spaced_piece cs) (tags_of cs)) (map cell (cells_of cs)) (word_token cs) (words cs) (blank_begins cs)

pub is_blank-line_of : (n : ℕ) (cs : List ℕ) → is_blank (line_of (n, cs)) ≡ is_blank_line cs
unfolding token_of
is_blank-line_of n cs =
    all_blank n cs (indent_of cs) (is_blank_line cs) (begins_by (codes "#") cs) (begins_by (codes "@") cs) (begins_by (codes "|") cs)
    (language_of cs) (tag_list (spaced_piece cs) (tags_of cs)) (map cell (cells_of cs)) (word_token cs) (words cs)

-- ---- lists of lines

filter_more : (p : Line → Bool) (xs : List Line) (y : Line) → filter p (xs ++ y ∷ []) ≡ filter p xs ++ filter p (y ∷ [])
filter_more p [] y = refl
filter_more p (x ∷ xs) y = go (p x) (filter_more p xs y)
  where
    go : (b : Bool) → filter p (xs ++ y ∷ []) ≡ filter p xs ++ filter p (y ∷ []) → cond b (x ∷ filter p (xs ++ y ∷ [])) (filter p (xs ++ y ∷ [])) ≡ cond b (x ∷ filter p xs) (filter p xs) ++ filter p (y ∷ [])
    go true h = ap (λ (z : List Line). x ∷ z) h
    go false h = h

map_more : (lines : List IndentedLine) (i : ℕ) (d : IndentedLine) → i < length lines → map kept_line (take (i + 1) lines) ≡ map kept_line (take i lines) ++ kept_line (get_or lines i d) ∷ []
map_more lines i d h = ap (λ (z : List IndentedLine). map kept_line z) (take_more lines i d h) ∙ map-append kept_line (take i lines) (get_or lines i d ∷ [])

module _ (lines : List IndentedLine) (i : ℕ) (d : IndentedLine) (h : i < length lines) (out : List Line) (so_far : out ≡ filter (λ l. not (is_comment l)) (map kept_line (take i lines))) where
  pub turn_kept : begins_by (codes "#") (line_chars (get_or lines i d).line) ≡ false → out ++ kept_line (get_or lines i d) ∷ [] ≡ filter (λ l. not (is_comment l)) (map kept_line (take (i + 1) lines))
  turn_kept e =
      let x = kept_line (get_or lines i d) in
      let is : is_comment x ≡ false = is_comment-line_of (get_or lines i d).line.number (line_chars (get_or lines i d).line) ∙ e in
      ap (λ (z : List Line). z ++ x ∷ []) so_far
      ∙ ap (λ (b : Bool). filter (λ l. not (is_comment l)) (map kept_line (take i lines)) ++ cond (not b) (x ∷ []) []) (sym is)
      ∙ sym (filter_more (λ l. not (is_comment l)) (map kept_line (take i lines)) x)
      ∙ ap (λ (z : List Line). filter (λ l. not (is_comment l)) z) (sym (map_more lines i d h))

  pub turn_left : begins_by (codes "#") (line_chars (get_or lines i d).line) ≡ true → out ≡ filter (λ l. not (is_comment l)) (map kept_line (take (i + 1) lines))
  turn_left e =
      let x = kept_line (get_or lines i d) in
      let is : is_comment x ≡ true = is_comment-line_of (get_or lines i d).line.number (line_chars (get_or lines i d).line) ∙ e in
      so_far
      ∙ sym (append-nil (filter (λ l. not (is_comment l)) (map kept_line (take i lines))))
      ∙ ap (λ (b : Bool). filter (λ l. not (is_comment l)) (map kept_line (take i lines)) ++ cond (not b) (x ∷ []) []) (sym is)
      ∙ sym (filter_more (λ l. not (is_comment l)) (map kept_line (take i lines)) x)
      ∙ ap (λ (z : List Line). filter (λ l. not (is_comment l)) z) (sym (map_more lines i d h))

-- at a blank line in front, and at another
blank_at : (lines : List IndentedLine) (i : ℕ) (d : IndentedLine) → i < length lines → map kept_line (drop i lines) ≡ kept_line (get_or lines i d) ∷ map kept_line (drop (i + 1) lines)
blank_at lines i d h =
    let cut : drop i lines ≡ get_or lines i d ∷ drop (i + 1) lines = rw add-one (drop-cons lines i d h) in
    ap (λ (z : List IndentedLine). map kept_line z) cut

pub turn_blank : (lines : List IndentedLine) (i : ℕ) (d : IndentedLine) → i < length lines → is_blank_line (line_chars (get_or lines i d).line) ≡ true →
    from_text (map kept_line (drop i lines)) ≡ from_text (map kept_line (drop (i + 1) lines))
turn_blank lines i d h e =
    ap from_text (blank_at lines i d h)
    ∙ ap (λ (b : Bool). cond b (from_text (map kept_line (drop (i + 1) lines))) (kept_line (get_or lines i d) ∷ map kept_line (drop (i + 1) lines)))
    (is_blank-line_of (get_or lines i d).line.number (line_chars (get_or lines i d).line) ∙ e)

pub turn_text : (lines : List IndentedLine) (i : ℕ) (d : IndentedLine) → i < length lines → is_blank_line (line_chars (get_or lines i d).line) ≡ false →
    from_text (map kept_line (drop i lines)) ≡ map kept_line (drop i lines)
turn_text lines i d h e =
    ap from_text (blank_at lines i d h)
    ∙ ap (λ (b : Bool). cond b (from_text (map kept_line (drop (i + 1) lines))) (kept_line (get_or lines i d) ∷ map kept_line (drop (i + 1) lines)))
    (is_blank-line_of (get_or lines i d).line.number (line_chars (get_or lines i d).line) ∙ e)
    ∙ sym (blank_at lines i d h)

-- the same at the end
last_at : (lines : List IndentedLine) (i : ℕ) (d : IndentedLine) → i < length lines → reverse (map kept_line (take (i + 1) lines)) ≡ kept_line (get_or lines i d) ∷ reverse (map kept_line (take i lines))
last_at lines i d h = ap reverse (map_more lines i d h) ∙ reverse-append (map kept_line (take i lines)) (kept_line (get_or lines i d) ∷ [])

pub turn_last_blank : (lines : List IndentedLine) (i : ℕ) (d : IndentedLine) → i < length lines → is_blank_line (line_chars (get_or lines i d).line) ≡ true →
    from_text (reverse (map kept_line (take (i + 1) lines))) ≡ from_text (reverse (map kept_line (take i lines)))
turn_last_blank lines i d h e =
    ap from_text (last_at lines i d h)
    ∙ ap (λ (b : Bool). cond b (from_text (reverse (map kept_line (take i lines)))) (kept_line (get_or lines i d) ∷ reverse (map kept_line (take i lines))))
    (is_blank-line_of (get_or lines i d).line.number (line_chars (get_or lines i d).line) ∙ e)

pub turn_last_text : (lines : List IndentedLine) (i : ℕ) (d : IndentedLine) → i < length lines → is_blank_line (line_chars (get_or lines i d).line) ≡ false →
    from_text (reverse (map kept_line (take (i + 1) lines))) ≡ reverse (map kept_line (take (i + 1) lines))
turn_last_text lines i d h e =
    ap from_text (last_at lines i d h)
    ∙ ap (λ (b : Bool). cond b (from_text (reverse (map kept_line (take i lines)))) (kept_line (get_or lines i d) ∷ reverse (map kept_line (take i lines))))
    (is_blank-line_of (get_or lines i d).line.number (line_chars (get_or lines i d).line) ∙ e)
    ∙ sym (last_at lines i d h)

pub all_left : (lines : List IndentedLine) (i : ℕ) → take (length lines - i) (drop i lines) ≡ drop i lines
all_left lines i = take_all (length lines - i) (drop i lines) (omega (arith, length-drop i lines))
