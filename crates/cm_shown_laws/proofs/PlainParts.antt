-- The parts of a document with texts of UTF-8 and places of 64 bits are plain, each alone.
use Rattle.std.proofs.Common.{ℕ, List, [], ◌∷◌, map, Option, Some, None, IsUtf8, refl}
use Rattle.std.specs.List.{AllByRecursion, flat_map}
use Rattle.std.specs.Option.{option_to_list}
use Rattle.json.proofs.Printed.Utf8.{IsUtf8-are_ascii}
use Rattle.serde_json.specs.View.{items_of}
use Rattle.gk_document.specs.Skeleton.{bare_cell, bare_doc_string, bare_row, bare_step, bare_tag}
use Rattle.gk_document.specs.declared.tree.Argument.{Argument}
use Rattle.gk_document.specs.declared.tree.Argument.TheVariants.{Table, Text}
use Rattle.gk_document.specs.declared.tree.Background.{Background}
use Rattle.gk_document.specs.declared.tree.Cell.{Cell}
use Rattle.gk_document.specs.declared.tree.DocString.{DocString}
use Rattle.gk_document.specs.declared.tree.Document.{Document}
use Rattle.gk_document.specs.declared.tree.ExampleTable.{ExampleTable}
use Rattle.gk_document.specs.declared.tree.Examples.{Examples}
use Rattle.gk_document.specs.declared.tree.Feature.{Feature}
use Rattle.gk_document.specs.declared.tree.Row.{Row}
use Rattle.gk_document.specs.declared.tree.Rule.{Rule}
use Rattle.gk_document.specs.declared.tree.Scenario.{Scenario}
use Rattle.gk_document.specs.declared.tree.Step.{Step}
use Rattle.gk_document.specs.declared.tree.Tag.{Tag}
use Rattle.gk_parts.specs.Parts.{Part, RowPart, StepPart, background_parts, children_parts, examples_parts, feature_parts, part_alone, parts, parts_alone, rule_parts, scenario_parts, table_parts}
use Rattle.cm_differs.specs.PartData.{cell_data, doc_string_data, location_data, row_data, step_data, tag_data, tagged_data}
use Rattle.cm_read_back.specs.Values.{IsPlain, ItemsArePlain}
use Rattle.cm_compiled_good.proofs.Compiling.{all_flat, all_joined, all_mapped}
use Rattle.cm_compiled_good.proofs.Fine.{Fits64, clean, BackgroundOf, CellOf, DocStringOf, ExamplesOf, FeatureOf, RowOf, RuleOf, ScenarioOf, StepOf, TableOf, TagOf}
use Rattle.cm_shown_laws.specs.Differences.{IsPlainPart}

-- ---- what a part holds

place_plain : (line : ℕ) → Fits64 line → IsPlain (location_data (record { line = line; column = 0 }))
place_plain line h = (IsUtf8-are_ascii _ refl, h, tt)

tag_plain : (t : Tag) → TagOf clean t → IsPlain (tag_data (bare_tag t))
tag_plain t h = (IsUtf8-are_ascii _ refl, place_plain t.location.line h.2.0, (IsUtf8-are_ascii _ refl, h.1, tt))

tags_plain : (ts : List Tag) → AllByRecursion (TagOf clean) ts → ItemsArePlain (items_of (map tag_data (map bare_tag ts)))
tags_plain [] h = tt
tags_plain (t ∷ ts) h = (tag_plain t h.0, tags_plain ts h.1)

cells_plain : (line : ℕ) (cs : List Cell) → AllByRecursion (CellOf clean line) cs → ItemsArePlain (items_of (map cell_data (map bare_cell cs)))
cells_plain line [] h = tt
cells_plain line (c ∷ cs) h = ((IsUtf8-are_ascii _ refl, h.0.0, tt), cells_plain line cs h.1)

row_plain : (r : Row) → RowOf clean r → IsPlain (row_data (bare_row r))
row_plain r h = (IsUtf8-are_ascii _ refl, cells_plain r.location.line r.cells h.2, (IsUtf8-are_ascii _ refl, place_plain r.location.line h.1.0, tt))

rows_plain : (rs : List Row) → AllByRecursion (RowOf clean) rs → ItemsArePlain (items_of (map row_data (map bare_row rs)))
rows_plain [] h = tt
rows_plain (r ∷ rs) h = (row_plain r h.0, rows_plain rs h.1)

doc_string_plain : (d : DocString) (m : Option (List ℕ)) → DocStringOf clean (record d { media = m }) → IsPlain (doc_string_data (bare_doc_string (record d { media = m })))
doc_string_plain d None h = (IsUtf8-are_ascii _ refl, h.2, (IsUtf8-are_ascii _ refl, place_plain d.location.line h.0.0, tt))
doc_string_plain d (Some m) h = (IsUtf8-are_ascii _ refl, h.2, (IsUtf8-are_ascii _ refl, place_plain d.location.line h.0.0, (IsUtf8-are_ascii _ refl, h.1, tt)))

step_plain : (s : Step) (a : Option Argument) → StepOf clean (record s { argument = a }) → IsPlain (step_data (bare_step (record s { argument = a })))
step_plain s None h = (IsUtf8-are_ascii _ refl, h.2, (IsUtf8-are_ascii _ refl, place_plain s.location.line h.1.0, (IsUtf8-are_ascii _ refl, h.3, tt)))
step_plain s (Some (Table rows)) h = (
  IsUtf8-are_ascii _ refl,
  (IsUtf8-are_ascii _ refl, rows_plain rows h.4, tt),
  (IsUtf8-are_ascii _ refl, h.2, (IsUtf8-are_ascii _ refl, place_plain s.location.line h.1.0, (IsUtf8-are_ascii _ refl, h.3, tt))),
)
step_plain s (Some (Text d)) h = (
  IsUtf8-are_ascii _ refl,
  doc_string_plain d d.media h.4,
  (IsUtf8-are_ascii _ refl, h.2, (IsUtf8-are_ascii _ refl, place_plain s.location.line h.1.0, (IsUtf8-are_ascii _ refl, h.3, tt))),
)

tagged_plain : (keyword : List ℕ) (line : ℕ) (name : List ℕ) (tags : List Tag) → IsUtf8 keyword → Fits64 line → IsUtf8 name → AllByRecursion (TagOf clean) tags
    → IsPlain (tagged_data keyword (record { line = line; column = 0 }) name (map bare_tag tags))
tagged_plain keyword line name tags k l n t =
    (IsUtf8-are_ascii _ refl, k, (IsUtf8-are_ascii _ refl, place_plain line l, (IsUtf8-are_ascii _ refl, n, (IsUtf8-are_ascii _ refl, tags_plain tags t, tt))))

-- ---- parts, each alone

abbrev IsPlainAlone : Part → Type 0
IsPlainAlone p = IsPlainPart (part_alone p)

step_alone : (s : Step) → StepOf clean s → IsPlainAlone (StepPart s)
step_alone s h = (IsUtf8-are_ascii _ refl, step_plain s s.argument h, tt)

background_alone : (b : Background) → BackgroundOf clean (Some b) → AllByRecursion IsPlainAlone (background_parts b)
background_alone b h =
    ((IsUtf8-are_ascii _ refl, (IsUtf8-are_ascii _ refl, h.2, (IsUtf8-are_ascii _ refl, place_plain b.location.line h.1.0, (IsUtf8-are_ascii _ refl, h.3, tt))), tt), all_mapped (StepOf clean) IsPlainAlone StepPart step_alone b.steps h.5)

row_alone : (r : Row) → RowOf clean r → IsPlainAlone (RowPart r)
row_alone r h = (IsUtf8-are_ascii _ refl, row_plain r h, tt)

tables_alone : (t : Option ExampleTable) → TableOf clean t → AllByRecursion IsPlainAlone (flat_map table_parts (option_to_list t))
tables_alone None h = tt
tables_alone (Some t) h =
    all_joined IsPlainAlone (table_parts t) [] ((IsUtf8-are_ascii _ refl, row_plain t.header h.0, tt), all_mapped (RowOf clean) IsPlainAlone RowPart row_alone t.body h.1) tt

examples_alone : (e : Examples) → ExamplesOf clean e → AllByRecursion IsPlainAlone (examples_parts e)
examples_alone e h = ((IsUtf8-are_ascii _ refl, tagged_plain e.keyword e.location.line e.name e.tags h.3 h.2.0 h.4 h.0, tt), tables_alone e.table h.6)

scenario_alone : (s : Scenario) → ScenarioOf clean s → AllByRecursion IsPlainAlone (scenario_parts s)
scenario_alone s h = (
  (IsUtf8-are_ascii _ refl, tagged_plain s.keyword s.location.line s.name s.tags h.3 h.2.0 h.4 h.0, tt),
  all_joined IsPlainAlone (map StepPart s.steps) (flat_map examples_parts s.examples) (all_mapped (StepOf clean) IsPlainAlone StepPart step_alone s.steps h.6)
      (all_flat (ExamplesOf clean) IsPlainAlone examples_parts examples_alone s.examples h.7),
)

first_alone : (b : Option Background) → BackgroundOf clean b → AllByRecursion IsPlainAlone (flat_map background_parts (option_to_list b))
first_alone None h = tt
first_alone (Some b) h = all_joined IsPlainAlone (background_parts b) [] (background_alone b h) tt

children_alone : (b : Option Background) (ss : List Scenario) → BackgroundOf clean b → AllByRecursion (ScenarioOf clean) ss → AllByRecursion IsPlainAlone (children_parts b ss)
children_alone b ss h k = all_joined IsPlainAlone (flat_map background_parts (option_to_list b)) (flat_map scenario_parts ss) (first_alone b h) (all_flat (ScenarioOf clean) IsPlainAlone scenario_parts scenario_alone ss k)

rule_alone : (r : Rule) → RuleOf clean r → AllByRecursion IsPlainAlone (rule_parts r)
rule_alone r h = ((IsUtf8-are_ascii _ refl, tagged_plain r.keyword r.location.line r.name r.tags h.3 h.2.0 h.4 h.0, tt), children_alone r.background r.scenarios h.6 h.7)

feature_alone : (f : Feature) → FeatureOf clean (Some f) → AllByRecursion IsPlainAlone (feature_parts f)
feature_alone f h = (
  (
    IsUtf8-are_ascii _ refl,
    (
      IsUtf8-are_ascii _ refl,
      h.2,
      (IsUtf8-are_ascii _ refl, h.5, (IsUtf8-are_ascii _ refl, place_plain f.location.line h.1.0, (IsUtf8-are_ascii _ refl, h.3, (IsUtf8-are_ascii _ refl, tags_plain f.tags h.0, tt)))),
    ),
    tt,
  ),
  all_joined IsPlainAlone (children_parts f.background f.scenarios) (flat_map rule_parts f.rules) (children_alone f.background f.scenarios h.6 h.7) (all_flat (RuleOf clean) IsPlainAlone rule_parts rule_alone f.rules h.8),
)

all_alone : (f : Option Feature) → FeatureOf clean f → AllByRecursion IsPlainAlone (flat_map feature_parts (option_to_list f))
all_alone None h = tt
all_alone (Some f) h = all_joined IsPlainAlone (feature_parts f) [] (feature_alone f h) tt

pub parts_plain : (d : Document) → FeatureOf clean d.feature → AllByRecursion IsPlainPart (parts_alone d)
parts_plain d h = all_mapped IsPlainAlone IsPlainPart part_alone (λ p k. k) (parts d) (all_alone d.feature h)
