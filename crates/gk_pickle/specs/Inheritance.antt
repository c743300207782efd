-- What a scenario's pickles inherit of its feature and rule.
use Rattle.std.specs.Prelude.{ℕ, List, []}
use Rattle.gk_document.specs.declared.tree.Cell.{Cell}
use Rattle.gk_document.specs.declared.tree.Tag.{Tag}
use Rattle.gk_document.specs.declared.tree.Step.{Step}

-- the tags of the feature and the rule, and the steps of their backgrounds
pub record Inheritance : Type 0 where
  pub tags : List Tag
  pub steps : List Step

-- what fills a text: the header and the cells of a row, and the row's node
pub record Filling : Type 0 where
  pub header : List Cell
  pub cells : List Cell
  pub rows : List ℕ

-- without examples nothing is filled, and no row is named
abbrev pub no_filling : Filling
no_filling = record { header = []; cells = []; rows = [] }
