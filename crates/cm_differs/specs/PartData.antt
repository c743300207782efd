-- A part of a document as JSON (Messages, `GherkinDocument.json`): what is compared of it, without the parts within it.
use Rattle.std.specs.Prelude.{ℕ, List, [], ◌∷◌, Option, Some, None, codes, option_map}
use Rattle.serde_json.specs.Data.{Data, Members, number, object, put, string, unsigned}
use Rattle.serde_json.specs.Written.{compact_text}
use Rattle.cm_messages.specs.Layout.{list_data, members_of, object_of, object_with}
use Rattle.gk_document.specs.declared.tree.Argument.{Argument}
use Rattle.gk_document.specs.declared.tree.Argument.TheVariants.{Table, Text}
use Rattle.gk_document.specs.declared.tree.Background.{Background}
use Rattle.gk_document.specs.declared.tree.Cell.{Cell}
use Rattle.gk_document.specs.declared.tree.DocString.{DocString}
use Rattle.gk_document.specs.declared.tree.Examples.{Examples}
use Rattle.gk_document.specs.declared.tree.Feature.{Feature}
use Rattle.gk_document.specs.declared.tree.Location.{Location}
use Rattle.gk_document.specs.declared.tree.Row.{Row}
use Rattle.gk_document.specs.declared.tree.Rule.{Rule}
use Rattle.gk_document.specs.declared.tree.Scenario.{Scenario}
use Rattle.gk_document.specs.declared.tree.Step.{Step}
use Rattle.gk_document.specs.declared.tree.Tag.{Tag}
use Rattle.gk_parts.specs.Parts.{Part, FeaturePart, RulePart, BackgroundPart, ScenarioPart, StepPart, ExamplesPart, HeaderPart, RowPart}

abbrev pub location_data : Location → Data
location_data l = object_of ((codes "line", number (unsigned l.line)) ∷ [])

abbrev pub tag_data : Tag → Data
tag_data t = object_of
    ((codes "location", location_data t.location) ∷ (codes "name", string t.name) ∷ [])

abbrev pub cell_data : Cell → Data
cell_data c = object_of ((codes "value", string c.value) ∷ [])

abbrev pub row_data : Row → Data
row_data r = object_of
    ((codes "cells", list_data cell_data r.cells) ∷ (codes "location", location_data r.location)
    ∷ [])

abbrev pub table_data : List Row → Data
table_data rows = object_of ((codes "rows", list_data row_data rows) ∷ [])

abbrev pub doc_string_data : DocString → Data
doc_string_data d = object_with (codes "mediaType") (option_map string d.media)
    ((codes "content", string d.content) ∷ (codes "location", location_data d.location) ∷ [])

-- the members of a step, with its data table or doc string where it has one
abbrev pub with_argument : Option Argument → Members → Members
with_argument None ms = ms
with_argument (Some (Table rows)) ms = put (codes "dataTable") (table_data rows) ms
with_argument (Some (Text d)) ms = put (codes "docString") (doc_string_data d) ms

abbrev pub step_data : Step → Data
step_data s = object (with_argument s.argument (members_of ((codes "keyword", string s.keyword)
    ∷ (codes "location", location_data s.location) ∷ (codes "text", string s.text) ∷ [])))

abbrev pub background_data : Background → Data
background_data b = object_of ((codes "keyword", string b.keyword)
    ∷ (codes "location", location_data b.location) ∷ (codes "name", string b.name) ∷ [])

-- a node that has tags: its keyword, location, name and tags
abbrev pub tagged_data : List ℕ → Location → List ℕ → List Tag → Data
tagged_data keyword location name tags = object_of ((codes "keyword", string keyword)
    ∷ (codes "location", location_data location) ∷ (codes "name", string name)
    ∷ (codes "tags", list_data tag_data tags) ∷ [])

abbrev pub rule_data : Rule → Data
rule_data r = tagged_data r.keyword r.location r.name r.tags

abbrev pub scenario_data : Scenario → Data
scenario_data s = tagged_data s.keyword s.location s.name s.tags

abbrev pub examples_data : Examples → Data
examples_data x = tagged_data x.keyword x.location x.name x.tags

abbrev pub feature_data : Feature → Data
feature_data f = object_of ((codes "keyword", string f.keyword)
    ∷ (codes "language", string f.language) ∷ (codes "location", location_data f.location)
    ∷ (codes "name", string f.name) ∷ (codes "tags", list_data tag_data f.tags) ∷ [])

-- what a part's one member holds is the part without the parts within it
abbrev pub part_data : Part → Data
part_data (FeaturePart f) = object_of ((codes "feature", feature_data f) ∷ [])
part_data (RulePart r) = object_of ((codes "rule", rule_data r) ∷ [])
part_data (BackgroundPart b) = object_of ((codes "background", background_data b) ∷ [])
part_data (ScenarioPart s) = object_of ((codes "scenario", scenario_data s) ∷ [])
part_data (StepPart s) = object_of ((codes "step", step_data s) ∷ [])
part_data (ExamplesPart x) = object_of ((codes "examples", examples_data x) ∷ [])
part_data (HeaderPart r) = object_of ((codes "tableHeader", row_data r) ∷ [])
part_data (RowPart r) = object_of ((codes "tableRow", row_data r) ∷ [])

abbrev pub part_text : Part → List ℕ
part_text p = compact_text (part_data p)
