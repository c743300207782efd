-- What of a document two readings of one text agree in. The Messages' `gherkinDocument` names its
-- nodes by ids of its own, and its producers differ in columns, descriptions and comments; a fence
-- and a keyword's type follow from the text. What is left when these are dropped is the skeleton.
use Rattle.std.specs.Prelude.{[], map, option_map}
use Rattle.gk_document.specs.declared.tree.Cell.{Cell}
use Rattle.gk_document.specs.declared.tree.Fence.TheVariants.{Quotes}
use Rattle.gk_document.specs.declared.tree.KeywordType.TheVariants.{Unknown}
use Rattle.gk_document.specs.declared.tree.Location.{Location}
use Rattle.gk_document.specs.declared.tree.Tag.{Tag}
use Rattle.gk_document.specs.declared.tree.Row.{Row}
use Rattle.gk_document.specs.declared.tree.DocString.{DocString}
use Rattle.gk_document.specs.declared.tree.Argument.{Argument}
use Rattle.gk_document.specs.declared.tree.Argument.TheVariants.{Table, Text}
use Rattle.gk_document.specs.declared.tree.Step.{Step}
use Rattle.gk_document.specs.declared.tree.Background.{Background}
use Rattle.gk_document.specs.declared.tree.ExampleTable.{ExampleTable}
use Rattle.gk_document.specs.declared.tree.Examples.{Examples}
use Rattle.gk_document.specs.declared.tree.Scenario.{Scenario}
use Rattle.gk_document.specs.declared.tree.Rule.{Rule}
use Rattle.gk_document.specs.declared.tree.Feature.{Feature}
use Rattle.gk_document.specs.declared.tree.Document.{Document}

abbrev pub line_alone : Location → Location
line_alone l = record { line = l.line; column = 0 }

abbrev pub bare_tag : Tag → Tag
bare_tag t = record t { node = 0; location = line_alone t.location }

abbrev pub bare_cell : Cell → Cell
bare_cell c = record c { column = 0 }

abbrev pub bare_row : Row → Row
bare_row r = record r {
  node = 0;
  location = line_alone r.location;
  cells = map bare_cell r.cells;
}

abbrev pub bare_doc_string : DocString → DocString
bare_doc_string d = record d { location = line_alone d.location; fence = Quotes }

abbrev pub bare_argument : Argument → Argument
bare_argument (Table rows) = Table (map bare_row rows)
bare_argument (Text doc) = Text (bare_doc_string doc)

abbrev pub bare_step : Step → Step
bare_step s = record s {
  node = 0;
  location = line_alone s.location;
  kind = Unknown;
  argument = option_map bare_argument s.argument;
}

abbrev pub bare_background : Background → Background
bare_background b = record b {
  node = 0;
  location = line_alone b.location;
  description = [];
  steps = map bare_step b.steps;
}

abbrev pub bare_table : ExampleTable → ExampleTable
bare_table t = record { header = bare_row t.header; body = map bare_row t.body }

abbrev pub bare_examples : Examples → Examples
bare_examples e = record e {
  node = 0;
  location = line_alone e.location;
  tags = map bare_tag e.tags;
  description = [];
  table = option_map bare_table e.table;
}

abbrev pub bare_scenario : Scenario → Scenario
bare_scenario s = record s {
  node = 0;
  location = line_alone s.location;
  tags = map bare_tag s.tags;
  description = [];
  steps = map bare_step s.steps;
  examples = map bare_examples s.examples;
}

abbrev pub bare_rule : Rule → Rule
bare_rule r = record r {
  node = 0;
  location = line_alone r.location;
  tags = map bare_tag r.tags;
  description = [];
  background = option_map bare_background r.background;
  scenarios = map bare_scenario r.scenarios;
}

abbrev pub bare_feature : Feature → Feature
bare_feature f = record f {
  location = line_alone f.location;
  tags = map bare_tag f.tags;
  description = [];
  background = option_map bare_background f.background;
  scenarios = map bare_scenario f.scenarios;
  rules = map bare_rule f.rules;
}

-- the document without its node numbers, columns, descriptions, comments, fences and keyword types
abbrev pub skeleton : Document → Document
skeleton d = record {
  feature = option_map bare_feature d.feature;
  comments = [];
  nodes = 0;
}
