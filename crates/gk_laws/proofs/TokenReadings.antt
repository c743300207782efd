-- The token of a line, and the kinds of a line.
use Rattle.std.proofs.Common.{◌≡◌, ℕ, Bool, true, false, List, Option, Some, None, sym, refl, ap, ◌∙◌, subst}
use Rattle.std.specs.Prelude.{◌↔◌, map, codes, is_some, if◌then◌else◌}
use Rattle.std.specs.Option.{option_map}
use Rattle.std.specs.Str.{encode_utf8_all}
use Rattle.std.proofs.lemmas.Bool.{false≢true}
use Rattle.gk_line.specs.Cells.{cells_of}
use Rattle.gk_line.specs.Kinds.{Kind, is_of_kind}
use Rattle.gk_line.specs.Tags.{spaced_piece, tags_of}
use Rattle.gk_line.specs.Texts.{first_some, or_else}
use Rattle.gk_line.specs.Tokens.{TitleText, StepText, FenceText, is_blank_line, begins_by, fence_of, language_of, step_of, title_of}
use Rattle.gk_line.specs.declared.tokens.Block.TheVariants as block
use Rattle.gk_line.proofs.KindLemmas.{kinds_exclude, language_is_comment}
use Rattle.gk_grammar.specs.Token.{Token, token_of, comment_token, tag_list, cell, title_token, step_token, fence_token, word_token, token_or_other}
use Rattle.gk_grammar.specs.Token.Token.{Blank, Comment, Language, Tags, Title, Step, Row, Fenced, Other}
use Rattle.gk_laws.specs.TokenKinds.{token_kind, ReadsAs, TokensAreOfKinds, OthersAreOfNone, TokensAreRead}

-- ---- a line reads as its token

-- the words of titles, steps and fences
words : (line : List ℕ) → is_blank_line line ≡ false → begins_by (codes "#") line ≡ false → begins_by (codes "@") line ≡ false → begins_by (codes "|") line ≡ false → ReadsAs line (token_or_other (word_token line))
unfolding first_some
words line blank comment tags row =
    by_words (title_of block.Feature line) (title_of block.Rule line) (title_of block.Background line) (title_of block.Scenario line) (title_of block.Examples line) (step_of line) (fence_of line)
    refl refl refl refl refl refl refl where
      by_words : (f r b s x : Option TitleText) (t : Option StepText) (n : Option FenceText)
          → title_of block.Feature line ≡ f → title_of block.Rule line ≡ r → title_of block.Background line ≡ b → title_of block.Scenario line ≡ s → title_of block.Examples line ≡ x
          → step_of line ≡ t → fence_of line ≡ n
          → ReadsAs line
          (token_or_other
          (or_else
          (or_else (option_map (title_token block.Feature) f)
          (or_else (option_map (title_token block.Rule) r)
          (or_else (option_map (title_token block.Background) b)
          (or_else (option_map (title_token block.Scenario) s)
          (or_else (option_map (title_token block.Examples) x) None)))))
          (or_else (option_map step_token t) (option_map fence_token n))))
      by_words (Some y) r b s x t n ef er eb es ex et en = ap (option_map (title_token block.Feature)) ef
      by_words None (Some y) b s x t n ef er eb es ex et en = ap (option_map (title_token block.Rule)) er
      by_words None None (Some y) s x t n ef er eb es ex et en = ap (option_map (title_token block.Background)) eb
      by_words None None None (Some y) x t n ef er eb es ex et en = ap (option_map (title_token block.Scenario)) es
      by_words None None None None (Some y) t n ef er eb es ex et en = ap (option_map (title_token block.Examples)) ex
      by_words None None None None None (Some y) n ef er eb es ex et en = ap (option_map step_token) et
      by_words None None None None None None (Some y) ef er eb es ex et en = ap (option_map fence_token) en
      by_words None None None None None None None ef er eb es ex et en = none where
        none : (k : Kind) → is_of_kind k line ≡ false
        none Kind.Blank = blank
        none Kind.Comment = comment
        none Kind.TagLine = tags
        none Kind.Row = row
        none (Kind.TitleLine block.Feature) = ap is_some ef
        none (Kind.TitleLine block.Rule) = ap is_some er
        none (Kind.TitleLine block.Background) = ap is_some eb
        none (Kind.TitleLine block.Scenario) = ap is_some es
        none (Kind.TitleLine block.Examples) = ap is_some ex
        none Kind.Step = ap is_some et
        none Kind.DocStringFence = ap is_some en

comment : (line : List ℕ) → begins_by (codes "#") line ≡ true → ReadsAs line (comment_token (language_of line))
comment line h = by_language (language_of line) refl where
  by_language : (o : Option (List ℕ)) → language_of line ≡ o → ReadsAs line (comment_token o)
  by_language None is = (h, is)
  by_language (Some word) is = ap (option_map encode_utf8_all) is

pub reads : (line : List ℕ) → ReadsAs line (token_of line)
unfolding token_of
reads line = by_test (is_blank_line line) (begins_by (codes "#") line) (begins_by (codes "@") line) (begins_by (codes "|") line) refl refl refl refl where
  by_test : (b h a r : Bool) → is_blank_line line ≡ b → begins_by (codes "#") line ≡ h → begins_by (codes "@") line ≡ a → begins_by (codes "|") line ≡ r
      → ReadsAs line
      (if b then Blank
      else if h then comment_token (language_of line)
      else if a then Tags (tag_list (spaced_piece line) (tags_of line))
      else if r then Row (map cell (cells_of line))
      else token_or_other (word_token line))
  by_test true h a r eb eh ea er = eb
  by_test false true a r eb eh ea er = comment line eh
  by_test false false true r eb eh ea er = (ea, refl)
  by_test false false false true eb eh ea er = (er, refl)
  by_test false false false false eb eh ea er = words line eb eh ea er

-- ---- a line reads as one token

-- what a line of a kind reads as
abbrev token_for : Kind → List ℕ → Option Token
token_for Kind.Blank line = Some Blank
token_for Kind.Comment line = Some (comment_token (language_of line))
token_for Kind.TagLine line = Some (Tags (tag_list (spaced_piece line) (tags_of line)))
token_for Kind.Row line = Some (Row (map cell (cells_of line)))
token_for (Kind.TitleLine b) line = option_map (title_token b) (title_of b line)
token_for Kind.Step line = option_map step_token (step_of line)
token_for Kind.DocStringFence line = option_map fence_token (fence_of line)

-- the token is of this kind, or of none
abbrev IsFound : List ℕ → Token → Option Kind → Type 0
IsFound line token None = (token ≡ Other) × ((k : Kind) → is_of_kind k line ≡ false)
IsFound line token (Some k) = (is_of_kind k line ≡ true) × (token_for k line ≡ Some token)

mapped : {A B : Type 0} (g : A → B) (o : Option A) (y : B) → option_map g o ≡ Some y → is_some o ≡ true
mapped g None y e = absurd (cc)
mapped g (Some x) y e = refl

found : (line : List ℕ) (token : Token) → ReadsAs line token → IsFound line token (token_kind token)
found line Blank h = (h, refl)
found line Comment h = (h.0, ap (λ o. Some (comment_token o)) h.1)
found line (Language word) h = (language_is_comment line (mapped encode_utf8_all (language_of line) word h), by_language (language_of line) h) where
  by_language : (o : Option (List ℕ)) → option_map encode_utf8_all o ≡ Some word → Some (comment_token o) ≡ Some (Language word)
  by_language None e = absurd (cc)
  by_language (Some w) e = let is : encode_utf8_all w ≡ word = cc in ap (λ w. Some (Language w)) is
found line (Tags tags) h = (h.0, ap (λ t. Some (Tags t)) (sym h.1))
found line (Title b keyword name) h = (mapped (title_token b) (title_of b line) _ h, h)
found line (Step keyword type text) h = (mapped step_token (step_of line) _ h, h)
found line (Row cells) h = (h.0, ap (λ q. Some (Row q)) (sym h.1))
found line (Fenced fence media) h = (mapped fence_token (fence_of line) _ h, h)
found line Other h = (refl, h)

same_kind : (line : List ℕ) (s t : Token) (k l : Option Kind) → IsFound line s k → IsFound line t l → s ≡ t
same_kind line s t None None a b = a.0 ∙ sym b.0
same_kind line s t None (Some l) a b = absurd (false≢true (sym (a.1 l) ∙ b.0))
same_kind line s t (Some k) None a b = absurd (false≢true (sym (b.1 k) ∙ a.0))
same_kind line s t (Some k) (Some l) a b =
    let both : Some s ≡ Some t = sym a.1 ∙ ap (λ k. token_for k line) (kinds_exclude line k l a.0 b.0) ∙ b.1 in
    cc

pub tokens_are_read : TokensAreRead
tokens_are_read line token = (
  (λ e. subst (ReadsAs line) e (reads line)),
  (λ h. same_kind line (token_of line) token (token_kind (token_of line)) (token_kind token) (found line (token_of line) (reads line)) (found line token h)),
)

pub others_are_of_none : OthersAreOfNone
others_are_of_none line = tokens_are_read line Other

pub tokens_are_of_kinds : TokensAreOfKinds
tokens_are_of_kinds line k = by_kind (token_kind (token_of line)) (found line (token_of line) (reads line)) where
  by_kind : (o : Option Kind) → IsFound line (token_of line) o → (o ≡ Some k) ↔ (is_of_kind k line ≡ true)
  by_kind None f = ((λ e. absurd (cc)), (λ h. absurd (false≢true (sym (f.1 k) ∙ h))))
  by_kind (Some l) f = (
    (λ e. let is : l ≡ k = cc in subst (λ k. is_of_kind k line ≡ true) is f.0),
    (λ h. ap Some (kinds_exclude line l k f.0 h)),
  )
