-- What one line reads as. A line is the list of its characters; columns count them from 1.
use Rattle.std.specs.Prelude.{ℕ, ◌+◌, ◌==◌, Bool, ◌&&◌, ◌||◌, not, List, [], ◌∷◌, ◌++◌, if◌then◌else◌, Option, Some, None, codes, length}
use Rattle.std.specs.Char.{is_whitespace, is_ascii_alphabetic}
use Rattle.std.specs.List.{prefix_len, list_all}
use Rattle.std.specs.Option.{option_map, option_and_then, is_some}
use Rattle.gk_line.specs.Texts.{text_after_indent, trimmed_text, after, first_some}
use Rattle.gk_line.specs.declared.tokens.Block.{Block}
use Rattle.gk_line.specs.declared.tokens.Block.TheVariants.{Feature, Rule, Background, Scenario, Examples}
use Rattle.gk_document.specs.declared.tree.KeywordType.{KeywordType}
use Rattle.gk_document.specs.declared.tree.KeywordType.TheVariants.{Unknown, Context, Action, Outcome, Conjunction}
use Rattle.gk_document.specs.declared.tree.Fence.{Fence}
use Rattle.gk_document.specs.declared.tree.Fence.TheVariants.{Quotes, Backticks}
use Rattle.gk_line.specs.Characters.{backtick, hyphen, quotation_mark, underscore}

-- how many white space characters the line begins with
unfoldable pub indent_of : List ℕ → ℕ
indent_of line = prefix_len is_whitespace line

-- the line is white space alone
unfoldable pub is_blank_line : List ℕ → Bool
is_blank_line line = list_all is_whitespace line

-- the line begins with this text, after its indent
unfoldable pub begins_by : List ℕ → List ℕ → Bool
begins_by front line = is_some (after front (text_after_indent line))

-- the titles of a block: after the indent one of its keywords, a colon, and the name
pub record TitleText : Type 0 where
  pub keyword : List ℕ
  pub name : List ℕ
  pub column : ℕ

abbrev pub title_keywords : Block → List (List ℕ)
title_keywords Feature = codes "Feature" ∷ codes "Business Need" ∷ codes "Ability" ∷ []
title_keywords Rule = codes "Rule" ∷ []
title_keywords Background = codes "Background" ∷ []
title_keywords Scenario =
    codes "Example" ∷ codes "Scenario" ∷ codes "Scenario Outline" ∷ codes "Scenario Template" ∷ []
title_keywords Examples = codes "Examples" ∷ codes "Scenarios" ∷ []

unfoldable pub title_of : Block → List ℕ → Option TitleText
title_of block line =
    first_some
    (λ keyword. option_map
    (λ rest. record { keyword = keyword; name = trimmed_text rest; column = indent_of line + 1 })
    (after (keyword ++ codes ":") (text_after_indent line)))
    (title_keywords block)

-- the blocks, in the order of their declaration
abbrev pub blocks : List Block
blocks = Feature ∷ Rule ∷ Background ∷ Scenario ∷ Examples ∷ []

-- the first block that the line is the title of, and that title
abbrev pub block_title_of : List ℕ → Option (Block × TitleText)
block_title_of line =
    first_some (λ block. option_map (λ title. (block, title)) (title_of block line)) blocks

-- steps: after the indent a keyword, which ends in one space, and the text
pub record StepText : Type 0 where
  pub keyword : List ℕ
  pub kind : KeywordType
  pub text : List ℕ
  pub column : ℕ

abbrev pub step_words : List (List ℕ × KeywordType)
step_words =
    (codes "*", Unknown) ∷ (codes "Given", Context) ∷ (codes "When", Action)
    ∷ (codes "Then", Outcome) ∷ (codes "And", Conjunction) ∷ (codes "But", Conjunction) ∷ []

unfoldable pub step_of : List ℕ → Option StepText
step_of line =
    first_some
    (λ (word, kind). option_map
    (λ rest. record {
      keyword = word ++ codes " ";
      kind = kind;
      text = trimmed_text rest;
      column = indent_of line + 1;
    })
    (after (word ++ codes " ") (text_after_indent line)))
    step_words

-- lines that open or close a doc string: after the indent three quotes or three backticks, and the media type
pub record FenceText : Type 0 where
  pub fence : Fence
  pub media : List ℕ
  pub column : ℕ

abbrev pub fences : List (List ℕ × Fence)
fences =
    (quotation_mark ∷ quotation_mark ∷ quotation_mark ∷ [], Quotes)
    ∷ (backtick ∷ backtick ∷ backtick ∷ [], Backticks) ∷ []

unfoldable pub fence_of : List ℕ → Option FenceText
fence_of line =
    first_some
    (λ (mark, fence). option_map
    (λ rest. record { fence = fence; media = trimmed_text rest; column = indent_of line + 1 })
    (after mark (text_after_indent line)))
    fences

-- language lines: `#`, `language`, `:` and a word, with any white space before, between and after them
abbrev pub is_word_character : ℕ → Bool
is_word_character c = (is_ascii_alphabetic c || c == hyphen) || c == underscore

abbrev pub is_language_word : List ℕ → Bool
is_language_word word = not (length word == 0) && list_all is_word_character word

unfoldable pub language_of : List ℕ → Option (List ℕ)
language_of line =
    option_and_then
    (λ rest. if is_language_word (trimmed_text rest) then Some (trimmed_text rest) else None)
    (option_and_then (λ rest. after (codes ":") (text_after_indent rest))
    (option_and_then (λ rest. after (codes "language") (text_after_indent rest))
    (after (codes "#") (text_after_indent line))))
