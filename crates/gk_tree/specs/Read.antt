-- The first character of a text; a line with the token and the indent that the grammar has of it.
use Rattle.std.specs.Prelude.{ℕ, ◌≡◌, List, [], ◌∷◌, Option, Some, None}
use Rattle.gk_line.specs.Tokens.{indent_of}
use Rattle.gk_line.specs.Views.{line_chars}
use Rattle.gk_grammar.specs.Token.{token_of}
use Rattle.gk_tree.specs.declared.token.IndentedLine.{IndentedLine}
use Rattle.gk_tree.specs.declared.token.Token.{Token}
use Rattle.gk_tree.specs.Views.{token_view}

abbrev pub first_character : List ℕ → Option ℕ
first_character [] = None
first_character (c ∷ cs) = Some c

pub record IsRead (at : IndentedLine) (token : Token) : Type 0 where
  pub indent : at.indent ≡ indent_of (line_chars at.line)
  pub reads : token_view token ≡ token_of (line_chars at.line)
