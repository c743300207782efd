-- What is written for a document (Cucumber Messages, `GherkinDocument.json`).
use Rattle.std.specs.Prelude.{ℕ, List, [], ◌∷◌, ◌++◌, map, Option, Some, None, option_map, codes}
use Rattle.std.specs.Option.{option_to_list}
use Rattle.serde_json.specs.Data.{Data, string, number, unsigned, array}
use Rattle.serde_json.specs.View.{items_of}
use Rattle.gk_document.specs.declared.tree.KeywordType.{KeywordType}
use Rattle.gk_document.specs.declared.tree.KeywordType.TheVariants as keyword
use Rattle.gk_document.specs.Fences.{fence_characters}
use Rattle.gk_document.specs.declared.tree.Location.{Location}
use Rattle.gk_document.specs.declared.tree.Cell.{Cell}
use Rattle.gk_document.specs.declared.tree.Tag.{Tag}
use Rattle.gk_document.specs.declared.tree.Row.{Row}
use Rattle.gk_document.specs.declared.tree.DocString.{DocString}
use Rattle.gk_document.specs.declared.tree.Argument.{Argument}
use Rattle.gk_document.specs.declared.tree.Argument.TheVariants as argument
use Rattle.gk_document.specs.declared.tree.Step.{Step}
use Rattle.gk_document.specs.declared.tree.Background.{Background}
use Rattle.gk_document.specs.declared.tree.Examples.{Examples}
use Rattle.gk_document.specs.declared.tree.Scenario.{Scenario}
use Rattle.gk_document.specs.declared.tree.Rule.{Rule}
use Rattle.gk_document.specs.declared.tree.Feature.{Feature}
use Rattle.gk_document.specs.declared.tree.Comment.{Comment}
use Rattle.gk_document.specs.declared.tree.Document.{Document}
use Rattle.gk_document.specs.ExampleRows.{table_rows_of}
use Rattle.cm_messages.specs.Layout.{object_of, object_with, object_with_two, list_data, id_data, media_data}

abbrev pub location_data : Location → Data
location_data l =
    object_of
    ((codes "column", number (unsigned l.column)) ∷ (codes "line", number (unsigned l.line)) ∷ [])

-- a cell is on its row's line
abbrev pub cell_data : ℕ → Cell → Data
cell_data line c =
    object_of
    ((codes "location", location_data (record { line = line; column = c.column }))
    ∷ (codes "value", string c.value) ∷ [])

abbrev pub row_data : Row → Data
row_data r =
    object_of
    ((codes "cells", list_data (cell_data r.location.line) r.cells) ∷ (codes "id", id_data r.node)
    ∷ (codes "location", location_data r.location) ∷ [])

abbrev pub tag_data : Tag → Data
tag_data t =
    object_of
    ((codes "id", id_data t.node) ∷ (codes "location", location_data t.location)
    ∷ (codes "name", string t.name) ∷ [])

abbrev pub comment_data : Comment → Data
comment_data c =
    object_of ((codes "location", location_data c.location) ∷ (codes "text", string c.text) ∷ [])

abbrev pub doc_string_data : DocString → Data
doc_string_data d = object_with (codes "mediaType") (media_data d.media)
    ((codes "content", string d.content)
    ∷ (codes "delimiter", string (fence_characters d.fence))
    ∷ (codes "location", location_data d.location) ∷ [])

-- a table's place is that of its first row, or else that of its step
abbrev pub table_place : Location → List Row → Location
table_place place [] = place
table_place place (r ∷ rs) = r.location

abbrev pub table_data : Location → List Row → Data
table_data place rows =
    object_of
    ((codes "location", location_data (table_place place rows))
    ∷ (codes "rows", list_data row_data rows) ∷ [])

abbrev pub keyword_word : KeywordType → List ℕ
keyword_word keyword.Unknown = codes "Unknown"
keyword_word keyword.Context = codes "Context"
keyword_word keyword.Action = codes "Action"
keyword_word keyword.Outcome = codes "Outcome"
keyword_word keyword.Conjunction = codes "Conjunction"

-- the table of a step's argument, and its doc string
abbrev pub argument_table : Location → Option Argument → Option Data
argument_table place (Some (argument.Table rows)) = Some (table_data place rows)
argument_table place (Some (argument.Text d)) = None
argument_table place None = None

abbrev pub argument_doc_string : Option Argument → Option Data
argument_doc_string (Some (argument.Table rows)) = None
argument_doc_string (Some (argument.Text d)) = Some (doc_string_data d)
argument_doc_string None = None

abbrev pub step_data : Step → Data
step_data s =
    object_with_two (codes "dataTable") (argument_table s.location s.argument) (codes "docString")
    (argument_doc_string s.argument)
    ((codes "id", id_data s.node) ∷ (codes "keyword", string s.keyword)
    ∷ (codes "keywordType", string (keyword_word s.kind))
    ∷ (codes "location", location_data s.location) ∷ (codes "text", string s.text) ∷ [])

abbrev pub background_data : Background → Data
background_data b =
    object_of
    ((codes "description", string b.description) ∷ (codes "id", id_data b.node)
    ∷ (codes "keyword", string b.keyword)
    ∷ (codes "location", location_data b.location) ∷ (codes "name", string b.name)
    ∷ (codes "steps", list_data step_data b.steps) ∷ [])

-- the members of an examples block, but for its header row
abbrev pub block_members : Examples → List (List ℕ × Data)
block_members e =
    (codes "description", string e.description) ∷ (codes "id", id_data e.node)
    ∷ (codes "keyword", string e.keyword) ∷ (codes "location", location_data e.location)
    ∷ (codes "name", string e.name) ∷ (codes "tableBody", list_data row_data (table_rows_of e.table))
    ∷ (codes "tags", list_data tag_data e.tags) ∷ []

abbrev pub examples_data : Examples → Data
examples_data e =
    object_with (codes "tableHeader") (option_map (λ t. row_data t.header) e.table)
    (block_members e)

abbrev pub scenario_data : Scenario → Data
scenario_data s =
    object_of
    ((codes "description", string s.description)
    ∷ (codes "examples", list_data examples_data s.examples) ∷ (codes "id", id_data s.node)
    ∷ (codes "keyword", string s.keyword) ∷ (codes "location", location_data s.location)
    ∷ (codes "name", string s.name) ∷ (codes "steps", list_data step_data s.steps)
    ∷ (codes "tags", list_data tag_data s.tags) ∷ [])

abbrev pub child_data : List ℕ → Data → Data
child_data kind d = object_of ((kind, d) ∷ [])

abbrev pub background_child : Background → Data
background_child b = child_data (codes "background") (background_data b)

abbrev pub scenario_child : Scenario → Data
scenario_child s = child_data (codes "scenario") (scenario_data s)

-- a background, then scenarios
abbrev pub children_data : Option Background → List Scenario → List Data
children_data background scenarios =
    map background_child (option_to_list background) ++ map scenario_child scenarios

abbrev pub rule_data : Rule → Data
rule_data r =
    object_of
    ((codes "children", array (items_of (children_data r.background r.scenarios)))
    ∷ (codes "description", string r.description) ∷ (codes "id", id_data r.node)
    ∷ (codes "keyword", string r.keyword) ∷ (codes "location", location_data r.location)
    ∷ (codes "name", string r.name) ∷ (codes "tags", list_data tag_data r.tags) ∷ [])

abbrev pub rule_child : Rule → Data
rule_child r = child_data (codes "rule") (rule_data r)

abbrev pub feature_data : Feature → Data
feature_data f =
    object_of
    ((
      codes "children",
      array (items_of (children_data f.background f.scenarios ++ map rule_child f.rules)),
    )
    ∷ (codes "description", string f.description) ∷ (codes "keyword", string f.keyword)
    ∷ (codes "language", string f.language) ∷ (codes "location", location_data f.location)
    ∷ (codes "name", string f.name) ∷ (codes "tags", list_data tag_data f.tags) ∷ [])

-- the document's line
unfoldable pub document_data : List ℕ → Document → Data
document_data uri d = object_of ((
  codes "gherkinDocument",
  object_with (codes "feature") (option_map feature_data d.feature)
      ((codes "comments", list_data comment_data d.comments) ∷ (codes "uri", string uri) ∷ []),
) ∷ [])
