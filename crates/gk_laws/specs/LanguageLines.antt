-- A language line as its parts.
use Rattle.std.specs.Prelude.{◌≡◌, ◌↔◌, ℕ, true, List, ◌++◌, Some, codes}
use Rattle.gk_line.specs.Tokens.{is_language_word, language_of}
use Rattle.gk_laws.specs.Trimming.{IsSpace}

-- `#`, `language`, `:` and the word, with any white space before, between and after them
pub record IsLanguageLine (line word : List ℕ) : Type 0 where
  pub indent : List ℕ
  pub after_mark : List ℕ
  pub after_name : List ℕ
  pub after_colon : List ℕ
  pub after_word : List ℕ
  pub whole : line
      ≡ indent ++ (codes "#" ++ (after_mark ++ (codes "language" ++ (after_name ++ (codes ":"
      ++ (after_colon ++ (word ++ after_word)))))))
  pub spaces : IsSpace indent × IsSpace after_mark × IsSpace after_name × IsSpace after_colon
      × IsSpace after_word
  pub is_word : is_language_word word ≡ true

-- a line reads as a language line with a word exactly where it is one
abbrev pub LanguageLinesHaveParts : Type 0
LanguageLinesHaveParts =
    (line word : List ℕ) → (language_of line ≡ Some word) ↔ IsLanguageLine line word
