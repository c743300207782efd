-- What a document is read as: the document itself, but for columns (0), descriptions (empty), comments (none), fences
-- (`Quotes`), keyword types (`Unknown`) and empty media types (none). Its nodes have the decimal texts of their numbers as ids.
use Rattle.std.specs.Prelude.{◌≡◌, ℕ, ◌^◌, ◌<◌, List, [], Option, Some, None, map, option_map, option_and_then, decimal, ⊤}
use Rattle.std.specs.List.{AllByRecursion, range_with_len}
use Rattle.gk_document.specs.declared.tree.Fence.TheVariants.{Quotes}
use Rattle.gk_document.specs.declared.tree.KeywordType.TheVariants.{Unknown}
use Rattle.gk_document.specs.declared.tree.Location.{Location}
use Rattle.gk_document.specs.declared.tree.Tag.{Tag}
use Rattle.gk_document.specs.declared.tree.Row.{Row}
use Rattle.gk_document.specs.declared.tree.DocString.{DocString}
use Rattle.gk_document.specs.declared.tree.Argument.{Argument}
use Rattle.gk_document.specs.declared.tree.Argument.TheVariants.{Table, Text}
use Rattle.gk_document.specs.declared.tree.Step.{Step}
use Rattle.gk_document.specs.declared.tree.Background.{Background}
use Rattle.gk_document.specs.declared.tree.ExampleTable.{ExampleTable}
use Rattle.gk_document.specs.declared.tree.Examples.{Examples}
use Rattle.gk_document.specs.declared.tree.Scenario.{Scenario}
use Rattle.gk_document.specs.declared.tree.Rule.{Rule}
use Rattle.gk_document.specs.declared.tree.Feature.{Feature}
use Rattle.gk_document.specs.declared.tree.Document.{Document}
use Rattle.gk_document.specs.Skeleton.{line_alone, bare_cell}
use Rattle.gk_grammar.specs.Grammar.{Node, feature_nodes}
use Rattle.gk_pickle.specs.Order.{document_steps}
use Rattle.gk_document.specs.MediaType.{unless_empty as media_type}
use Rattle.cm_envelope.specs.declared.envelope.GherkinDocument.{GherkinDocument}

-- ---- what is kept

abbrev pub tag_kept : Tag → Tag
tag_kept t = record t { location = line_alone t.location }

abbrev pub row_kept : Row → Row
row_kept r = record r { location = line_alone r.location; cells = map bare_cell r.cells }

abbrev pub doc_string_kept : DocString → DocString
doc_string_kept d =
    record d {
      location = line_alone d.location;
      media = option_and_then media_type d.media;
      fence = Quotes;
    }

abbrev pub argument_kept : Argument → Argument
argument_kept (Table rows) = Table (map row_kept rows)
argument_kept (Text d) = Text (doc_string_kept d)

abbrev pub step_kept : Step → Step
step_kept s =
    record s {
      location = line_alone s.location;
      kind = Unknown;
      argument = option_map argument_kept s.argument;
    }

abbrev pub background_kept : Background → Background
background_kept b =
    record b { location = line_alone b.location; description = []; steps = map step_kept b.steps }

abbrev pub table_kept : ExampleTable → ExampleTable
table_kept t = record { header = row_kept t.header; body = map row_kept t.body }

abbrev pub examples_kept : Examples → Examples
examples_kept e = record e {
  location = line_alone e.location;
  tags = map tag_kept e.tags;
  description = [];
  table = option_map table_kept e.table;
}

abbrev pub scenario_kept : Scenario → Scenario
scenario_kept s = record s {
  location = line_alone s.location;
  tags = map tag_kept s.tags;
  description = [];
  steps = map step_kept s.steps;
  examples = map examples_kept s.examples;
}

abbrev pub rule_kept : Rule → Rule
rule_kept r = record r {
  location = line_alone r.location;
  tags = map tag_kept r.tags;
  description = [];
  background = option_map background_kept r.background;
  scenarios = map scenario_kept r.scenarios;
}

abbrev pub feature_kept : Feature → Feature
feature_kept f = record f {
  location = line_alone f.location;
  tags = map tag_kept f.tags;
  description = [];
  background = option_map background_kept f.background;
  scenarios = map scenario_kept f.scenarios;
  rules = map rule_kept f.rules;
}

abbrev pub document_kept : Document → Document
document_kept d = record d { feature = option_map feature_kept d.feature; comments = [] }

-- with the decimal texts of 0, 1, .. as ids
abbrev pub document_read : List ℕ → Document → GherkinDocument
document_read uri d =
    record { uri = uri; document = document_kept d; ids = map decimal (range_with_len 0 d.nodes) }

-- ---- which documents

-- in the order of the tree the nodes have the numbers 0, 1, .., as many as the document says
abbrev pub IsNumbered : Document → Type 0
IsNumbered d = map (λ (x : Node). x.1) (feature_nodes d.feature) ≡ range_with_len 0 d.nodes

-- a line from 1 on, of 32 bits
abbrev pub HasLine : Location → Type 0
HasLine l = (0 < l.line) × (l.line < 2 ^ 32)

abbrev pub FeatureHasLine : Option Feature → Type 0
FeatureHasLine None = ⊤
FeatureHasLine (Some f) = HasLine f.location

-- a doc string has such a line
abbrev pub DocStringHasLine : Option Argument → Type 0
DocStringHasLine None = ⊤
DocStringHasLine (Some (Table rows)) = ⊤
DocStringHasLine (Some (Text d)) = HasLine d.location

-- A document whose envelope can be read: its nodes are numbered in order, and the feature, the nodes and the doc strings of the
-- steps have such lines.
pub record IsReadable (d : Document) : Type 0 where
  pub numbered : IsNumbered d
  pub feature : FeatureHasLine d.feature
  pub nodes : AllByRecursion (λ (x : Node). HasLine x.0) (feature_nodes d.feature)
  pub doc_strings : AllByRecursion (λ (s : Step). DocStringHasLine s.argument)
      (document_steps d.feature)
