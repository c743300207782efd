-- What the first character of a line after its indent says of its token.
use Rattle.std.proofs.Common.{◌≡◌, ℕ, suc, ◌+◌, ◌<◌, length, get_or, drop, drop-cons, add-one, Bool, true, false, cond, List, [], ◌∷◌, Option, Some, None, refl, sym, ap, ◌∙◌, arith, is_some}
use Rattle.std.proofs.lemmas.Grind.{common_steps}
use Rattle.std.proofs.lemmas.Bool.{eqb-true}
use Rattle.std.proofs.lemmas.List.{drop_all}
use Rattle.std.specs.Prelude.{◌&&◌, ◌==◌, if◌then◌else◌, map}
use Rattle.std.specs.Char.{is_whitespace}
use Rattle.std.specs.List.{list_all, prefix_len}
use Rattle.std.specs.Option.{option_map}
use Rattle.std.specs.Str.{skip_leading_whitespace}
use Rattle.gk_line.specs.Texts.{after, text_after_indent, first_some, or_else}
use Rattle.gk_line.specs.Tokens.{is_blank_line, begins_by, language_of, TitleText, title_of, block_title_of, step_of, fence_of, indent_of, blocks}
use Rattle.gk_line.specs.Tags.{spaced_piece, tags_of}
use Rattle.gk_line.specs.Cells.{cells_of}
use Rattle.gk_line.specs.Kinds.{Kind, is_of_kind}
use Rattle.gk_line.specs.Kinds.Kind.{TitleLine, Step, DocStringFence}
use Rattle.gk_line.specs.declared.tokens.Block.{Block}
use Rattle.gk_line.specs.declared.tokens.Block.TheVariants as block
use Rattle.gk_line.proofs.KindLemmas.{kinds_exclude}
use Rattle.gk_grammar.specs.Token as read
use Rattle.gk_grammar.specs.Token.{Token, token_of, comment_token, title_token, step_token, fence_token, word_token, token_or_other, tag_list, cell}
use Rattle.gk_tree.specs.Read.{first_character}

-- what follows the first character
after_first : (c : ℕ) (text : List ℕ) → first_character text ≡ Some c → (rest : List ℕ) × (text ≡ c ∷ rest)
after_first c [] e = absurd cc
after_first c (x ∷ xs) e = (xs, cc)

-- ---- blank lines

skipped : (cs : List ℕ) → skip_leading_whitespace cs ≡ [] → list_all is_whitespace cs ≡ true
skipped [] h = refl
skipped (c ∷ cs) h = go (is_whitespace c) (skipped cs) h
  where
    go : (b : Bool) → (skip_leading_whitespace cs ≡ [] → list_all is_whitespace cs ≡ true) → cond b (skip_leading_whitespace cs) (c ∷ cs) ≡ [] → (b && list_all is_whitespace cs) ≡ true
    go true f e = f e
    go false f e = absurd cc

not_skipped : (cs rest : List ℕ) (c : ℕ) → skip_leading_whitespace cs ≡ c ∷ rest → list_all is_whitespace cs ≡ false
not_skipped [] rest c h = absurd cc
not_skipped (x ∷ cs) rest c h = grind (arith, common_steps, not_skipped cs rest c)

no_first : (text : List ℕ) → first_character text ≡ None → text ≡ []
no_first [] e = refl
no_first (c ∷ cs) e = absurd cc

pub blank_token : (cs : List ℕ) → first_character (text_after_indent cs) ≡ None → token_of cs ≡ read.Blank
unfolding text_after_indent is_blank_line token_of
blank_token cs h = rw (skipped cs (no_first (text_after_indent cs) h)) refl

-- ---- lines that their first character decides

pub first_begins : (x c : ℕ) (cs : List ℕ) → first_character (text_after_indent cs) ≡ Some c → begins_by (x ∷ []) cs ≡ (c == x)
unfolding begins_by after
first_begins x c cs e = let split = after_first c (text_after_indent cs) e in rw split.1 (go split.0 (c == x))
  where
    go : (rest : List ℕ) (b : Bool) → is_some (cond b (Some rest) None) ≡ b
    go rest true = refl
    go rest false = refl

pub first_token : (c : ℕ) (cs : List ℕ) → first_character (text_after_indent cs) ≡ Some c → token_of cs
    ≡ (if c == 35 then comment_token (language_of cs)
    else if c == 64 then read.Tags (tag_list (spaced_piece cs) (tags_of cs))
    else if c == 124 then read.Row (map cell (cells_of cs))
    else token_or_other (word_token cs))
unfolding token_of is_blank_line text_after_indent
first_token c cs h =
    let split = after_first c (text_after_indent cs) h in
    rw (not_skipped cs split.0 c split.1, first_begins 35 c cs h, first_begins 64 c cs h, first_begins 124 c cs h) refl

differ : (c x : ℕ) → (c ≡ x → ⊥) → (c == x) ≡ false
differ c x h = go (c == x) refl
  where
    go : (b : Bool) → (c == x) ≡ b → (c == x) ≡ false
    go true e = absurd (h (eqb-true c x e))
    go false e = e

pub other_first : (c : ℕ) (cs : List ℕ) → first_character (text_after_indent cs) ≡ Some c → (c ≡ 35 → ⊥) → (c ≡ 64 → ⊥) → (c ≡ 124 → ⊥) → token_of cs ≡ token_or_other (word_token cs)
other_first c cs h no_comment no_tags no_row =
    rw (first_token c cs h, differ c 35 no_comment, differ c 64 no_tags, differ c 124 no_row) refl

-- ---- the first block that a line is the title of

map_first : {A B C : Type 0} (f : A → B → C) (g : A → Option B) (xs : List A) →
    first_some (λ x. option_map (f x) (g x)) xs ≡ option_map (λ (p : A × B). f p.0 p.1) (first_some (λ x. option_map (λ y. (x, y)) (g x)) xs)
unfolding first_some
map_first {A = A} {B = B} f g [] = refl
map_first {A = A} {B = B} f g (x ∷ xs) = go (g x) (map_first f g xs)
  where
    go : (o : Option B) → first_some (λ x. option_map (f x) (g x)) xs ≡ option_map (λ (p : A × B). f p.0 p.1) (first_some (λ x. option_map (λ y. (x, y)) (g x)) xs)
        → or_else (option_map (f x) o) (first_some (λ x. option_map (f x) (g x)) xs) ≡ option_map (λ (p : A × B). f p.0 p.1) (or_else (option_map (λ y. (x, y)) o) (first_some (λ x. option_map (λ y. (x, y)) (g x)) xs))
    go None h = h
    go (Some y) h = refl

pub first_title : (cs : List ℕ) → first_some (λ b. option_map (title_token b) (title_of b cs)) blocks ≡ option_map (λ (p : Block × TitleText). title_token p.0 p.1) (block_title_of cs)
first_title cs = map_first title_token (λ b. title_of b cs) blocks

-- ---- a line is of one kind

abbrev is_kind : Kind → List ℕ → Type 0
is_kind k cs = is_of_kind k cs ≡ true

no_other_title : (b : Block) (cs : List ℕ) (k : Kind) → ((b : Block) → TitleLine b ≡ k → ⊥) → is_kind k cs → title_of b cs ≡ None
no_other_title b cs k differs h = go (title_of b cs) refl
  where
    go : (o : Option TitleText) → title_of b cs ≡ o → o ≡ None
    go None e = refl
    go (Some t) e = absurd (differs b (kinds_exclude cs (TitleLine b) k (ap is_some e) h))

no_titles : (cs : List ℕ) (k : Kind) → ((b : Block) → TitleLine b ≡ k → ⊥) → is_kind k cs →
    first_some (λ b. option_map (title_token b) (title_of b cs)) blocks ≡ None
unfolding first_some
no_titles cs k differs h =
    rw (
      no_other_title block.Feature cs k differs h,
      no_other_title block.Rule cs k differs h,
      no_other_title block.Background cs k differs h,
      no_other_title block.Scenario cs k differs h,
      no_other_title block.Examples cs k differs h,
    ) refl

is_there : {A B : Type 0} (f : A → B) (o : Option A) (y : B) → option_map f o ≡ Some y → is_some o ≡ true
is_there f None y e = absurd cc
is_there f (Some x) y e = refl

pub step_word : (cs : List ℕ) (t : Token) → option_map step_token (step_of cs) ≡ Some t → word_token cs ≡ Some t
step_word cs t e = rw (no_titles cs Step (λ b d. absurd cc) (is_there step_token (step_of cs) t e), e) refl

pub fence_word : (cs : List ℕ) (t : Token) → option_map step_token (step_of cs) ≡ None → option_map fence_token (fence_of cs) ≡ Some t → word_token cs ≡ Some t
fence_word cs t s e = rw (no_titles cs DocStringFence (λ b d. absurd cc) (is_there fence_token (fence_of cs) t e), s, e) refl

-- ---- the indent of a line, passed over character by character

module _ (cs : List ℕ) (n c : ℕ) (at : (n < length cs) × (c ≡ get_or cs n c)) where
  cut : drop n cs ≡ c ∷ drop (n + 1) cs
  cut = rw add-one (drop-cons cs n c at.0 ∙ ap (λ (z : ℕ). z ∷ drop (suc n) cs) (sym at.1))

  pub turn_indent : is_whitespace c ≡ true → indent_of cs ≡ n + indent_of (drop n cs) → indent_of cs ≡ (n + 1) + indent_of (drop (n + 1) cs)
  unfolding indent_of
  turn_indent white so_far =
      so_far
      ∙ ap (λ (z : List ℕ). n + prefix_len is_whitespace z) cut
      ∙ ap (λ (b : Bool). n + cond b (1 + prefix_len is_whitespace (drop (n + 1) cs)) 0) white
      ∙ omega arith

  pub turn_body : is_whitespace c ≡ true → text_after_indent cs ≡ text_after_indent (drop n cs) → text_after_indent cs ≡ text_after_indent (drop (n + 1) cs)
  unfolding text_after_indent
  turn_body white so_far =
      so_far
      ∙ ap (λ (z : List ℕ). skip_leading_whitespace z) cut
      ∙ ap (λ (b : Bool). cond b (skip_leading_whitespace (drop (n + 1) cs)) (c ∷ drop (n + 1) cs)) white

  pub end_indent : is_whitespace c ≡ false → indent_of cs ≡ n + indent_of (drop n cs) → indent_of cs ≡ n
  unfolding indent_of
  end_indent black so_far =
      so_far
      ∙ ap (λ (z : List ℕ). n + prefix_len is_whitespace z) cut
      ∙ ap (λ (b : Bool). n + cond b (1 + prefix_len is_whitespace (drop (n + 1) cs)) 0) black
      ∙ omega arith

  pub end_body : is_whitespace c ≡ false → text_after_indent cs ≡ text_after_indent (drop n cs) → Some c ≡ first_character (text_after_indent cs)
  unfolding text_after_indent
  end_body black so_far =
      sym (ap first_character
      (so_far
      ∙ ap (λ (z : List ℕ). skip_leading_whitespace z) cut
      ∙ ap (λ (b : Bool). cond b (skip_leading_whitespace (drop (n + 1) cs)) (c ∷ drop (n + 1) cs)) black))

pub all_indent : (cs : List ℕ) (n : ℕ) → n ≡ length cs → indent_of cs ≡ n + indent_of (drop n cs) → indent_of cs ≡ n
unfolding indent_of
all_indent cs n e so_far =
    so_far ∙ ap (λ (z : List ℕ). n + prefix_len is_whitespace z) (drop_all n cs (omega (arith, e))) ∙ omega arith

pub all_body : (cs : List ℕ) (n : ℕ) → n ≡ length cs → text_after_indent cs ≡ text_after_indent (drop n cs) → None ≡ first_character (text_after_indent cs)
unfolding text_after_indent
all_body cs n e so_far = sym (ap first_character (so_far ∙ ap (λ (z : List ℕ). skip_leading_whitespace z) (drop_all n cs (omega (arith, e)))))
