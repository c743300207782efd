-- What is said of a part alone, and the part that it is.
use Rattle.std.proofs.Common.{◌≡◌, ◌∙◌, ◌≤◌, ℕ, Bool, true, false, cond, List, [], ◌∷◌, Option, Some, None, map, refl, sym, ap, ap₂, arith}
use Rattle.std.specs.Prelude.{codes}
use Rattle.std.specs.Str.{bytes_eq}
use Rattle.serde_json.specs.Data.{Data, Items, array, depth, item, items_depth, member, no_items, no_members, number, object, string, unsigned}
use Rattle.serde_json.specs.Read.{max_depth}
use Rattle.serde_json.specs.View.{items_of}
use Rattle.gk_document.specs.declared.tree.Argument.{Argument}
use Rattle.gk_document.specs.declared.tree.Argument.TheVariants.{Table, Text}
use Rattle.gk_document.specs.declared.tree.Background.{Background}
use Rattle.gk_document.specs.declared.tree.Cell.{Cell}
use Rattle.gk_document.specs.declared.tree.DocString.{DocString}
use Rattle.gk_document.specs.declared.tree.Examples.{Examples}
use Rattle.gk_document.specs.declared.tree.Feature.{Feature}
use Rattle.gk_document.specs.declared.tree.Fence.TheVariants.{Quotes}
use Rattle.gk_document.specs.declared.tree.KeywordType.TheVariants.{Unknown}
use Rattle.gk_document.specs.declared.tree.Location.{Location}
use Rattle.gk_document.specs.declared.tree.Row.{Row}
use Rattle.gk_document.specs.declared.tree.Rule.{Rule}
use Rattle.gk_document.specs.declared.tree.Scenario.{Scenario}
use Rattle.gk_document.specs.declared.tree.Step.{Step}
use Rattle.gk_document.specs.declared.tree.Tag.{Tag}
use Rattle.gk_document.specs.Skeleton.{bare_cell, bare_doc_string, bare_examples, bare_feature, bare_row, bare_rule, bare_scenario, bare_step, bare_tag}
use Rattle.gk_parts.specs.Parts.{Part, FeaturePart, RulePart, BackgroundPart, ScenarioPart, StepPart, ExamplesPart, HeaderPart, RowPart, part_alone}
use Rattle.cm_differs.specs.PartData.{cell_data, doc_string_data, part_data, row_data, step_data, tag_data}
use Rattle.cm_read_back.specs.Values.{in_order, items_in_order}
use Rattle.cm_read_back.proofs.Orders.{items_are}
use Rattle.cm_read_back.proofs.Depths.{items_within}

-- ---- the part that a value is

abbrev nowhere : Location
nowhere = record { line = 0; column = 0 }

place_of : Data → Location
place_of (object (member k (number (unsigned line)) no_members)) = record { line = line; column = 0 }
place_of _ = nowhere

tags_of : Items → List Tag
tags_of (item (object (member l place (member n (string name) no_members))) ds) = record { node = 0; location = place_of place; name = name } ∷ tags_of ds
tags_of _ = []

cells_of : Items → List Cell
cells_of (item (object (member v (string value) no_members)) ds) = record { value = value; column = 0 } ∷ cells_of ds
cells_of _ = []

row_of : Data → Row
row_of (object (member c (array cells) (member l place no_members))) = record { node = 0; location = place_of place; cells = cells_of cells }
row_of _ = record { node = 0; location = nowhere; cells = [] }

rows_of : Items → List Row
rows_of no_items = []
rows_of (item d ds) = row_of d ∷ rows_of ds

doc_string_of : Data → DocString
doc_string_of (object (member c (string content) (member l place no_members))) = record { location = place_of place; media = None; content = content; fence = Quotes }
doc_string_of (object (member c (string content) (member l place (member m (string media) no_members)))) = record { location = place_of place; media = Some media; content = content; fence = Quotes }
doc_string_of _ = record { location = nowhere; media = None; content = []; fence = Quotes }

argument_of : (is_table : Bool) → Data → Argument
argument_of true (object (member r (array rows) no_members)) = Table (rows_of rows)
argument_of true _ = Table []
argument_of false d = Text (doc_string_of d)

step_of : Data → Step
step_of (object (member k (string keyword) (member l place (member t (string text) no_members)))) =
    record { node = 0; location = place_of place; keyword = keyword; kind = Unknown; text = text; argument = None }
step_of (object (member a value (member k (string keyword) (member l place (member t (string text) no_members))))) =
    record { node = 0; location = place_of place; keyword = keyword; kind = Unknown; text = text; argument = Some (argument_of (bytes_eq a (codes "dataTable")) value) }
step_of _ = record { node = 0; location = nowhere; keyword = []; kind = Unknown; text = []; argument = None }

background_of : Data → Background
background_of (object (member k (string keyword) (member l place (member n (string name) no_members)))) =
    record { node = 0; location = place_of place; keyword = keyword; name = name; description = []; steps = [] }
background_of _ = record { node = 0; location = nowhere; keyword = []; name = []; description = []; steps = [] }

rule_of : Data → Rule
rule_of (object (member k (string keyword) (member l place (member n (string name) (member t (array tags) no_members))))) =
    record { node = 0; location = place_of place; tags = tags_of tags; keyword = keyword; name = name; description = []; background = None; scenarios = [] }
rule_of _ = record { node = 0; location = nowhere; tags = []; keyword = []; name = []; description = []; background = None; scenarios = [] }

scenario_of : Data → Scenario
scenario_of (object (member k (string keyword) (member l place (member n (string name) (member t (array tags) no_members))))) =
    record { node = 0; location = place_of place; tags = tags_of tags; keyword = keyword; name = name; description = []; steps = []; examples = [] }
scenario_of _ = record { node = 0; location = nowhere; tags = []; keyword = []; name = []; description = []; steps = []; examples = [] }

examples_of : Data → Examples
examples_of (object (member k (string keyword) (member l place (member n (string name) (member t (array tags) no_members))))) =
    record { node = 0; location = place_of place; tags = tags_of tags; keyword = keyword; name = name; description = []; table = None }
examples_of _ = record { node = 0; location = nowhere; tags = []; keyword = []; name = []; description = []; table = None }

feature_of : Data → Feature
feature_of (object (member k (string keyword) (member g (string language) (member l place (member n (string name) (member t (array tags) no_members)))))) =
    record { location = place_of place; tags = tags_of tags; language = language; keyword = keyword; name = name; description = []; background = None; scenarios = []; rules = [] }
feature_of _ = record { location = nowhere; tags = []; language = []; keyword = []; name = []; description = []; background = None; scenarios = []; rules = [] }

named : List ℕ → Data → Part
named name d =
    cond (bytes_eq name (codes "feature")) (FeaturePart (feature_of d))
    (cond (bytes_eq name (codes "rule")) (RulePart (rule_of d))
    (cond (bytes_eq name (codes "background")) (BackgroundPart (background_of d))
    (cond (bytes_eq name (codes "scenario")) (ScenarioPart (scenario_of d))
    (cond (bytes_eq name (codes "step")) (StepPart (step_of d))
    (cond (bytes_eq name (codes "examples")) (ExamplesPart (examples_of d))
    (cond (bytes_eq name (codes "tableHeader")) (HeaderPart (row_of d)) (RowPart (row_of d))))))))

part_of : Data → Part
part_of (object (member name d no_members)) = named name d
part_of _ = RowPart (row_of (array no_items))

-- ---- a part is read back

tags_back : (ts : List Tag) → tags_of (items_of (map tag_data (map bare_tag ts))) ≡ map bare_tag ts
unfolding tags_of place_of
tags_back [] = refl
tags_back (t ∷ ts) = ap (λ (l : List Tag). bare_tag t ∷ l) (tags_back ts)

cells_back : (cs : List Cell) → cells_of (items_of (map cell_data (map bare_cell cs))) ≡ map bare_cell cs
unfolding cells_of
cells_back [] = refl
cells_back (c ∷ cs) = ap (λ (l : List Cell). bare_cell c ∷ l) (cells_back cs)

row_back : (r : Row) → row_of (row_data (bare_row r)) ≡ bare_row r
unfolding row_of place_of
row_back r = ap (λ (cs : List Cell). record (bare_row r) { cells = cs }) (cells_back r.cells)

rows_back : (rs : List Row) → rows_of (items_of (map row_data (map bare_row rs))) ≡ map bare_row rs
unfolding rows_of
rows_back [] = refl
rows_back (r ∷ rs) = ap₂ (λ (x : Row) (l : List Row). x ∷ l) (row_back r) (rows_back rs)

doc_string_back : (d : DocString) (m : Option (List ℕ)) → doc_string_of (doc_string_data (bare_doc_string (record d { media = m }))) ≡ bare_doc_string (record d { media = m })
unfolding doc_string_of place_of
doc_string_back d None = refl
doc_string_back d (Some media) = refl

step_back : (s : Step) (a : Option Argument) → step_of (step_data (bare_step (record s { argument = a }))) ≡ bare_step (record s { argument = a })
unfolding step_of argument_of place_of
step_back s None = refl
step_back s (Some (Table rows)) = ap (λ (rs : List Row). record (bare_step s) { argument = Some (Table rs) }) (rows_back rows)
step_back s (Some (Text d)) = ap (λ (x : DocString). record (bare_step s) { argument = Some (Text x) }) (doc_string_back d d.media)

part_back : (p : Part) → part_of (part_data (part_alone p)) ≡ part_alone p
unfolding part_of named feature_of rule_of background_of scenario_of examples_of place_of
part_back (FeaturePart f) = ap (λ (ts : List Tag). FeaturePart (record (bare_feature f) { tags = ts; background = None; scenarios = []; rules = [] })) (tags_back f.tags)
part_back (RulePart r) = ap (λ (ts : List Tag). RulePart (record (bare_rule r) { tags = ts; background = None; scenarios = [] })) (tags_back r.tags)
part_back (BackgroundPart b) = refl
part_back (ScenarioPart s) = ap (λ (ts : List Tag). ScenarioPart (record (bare_scenario s) { tags = ts; steps = []; examples = [] })) (tags_back s.tags)
part_back (StepPart s) = ap StepPart (step_back s s.argument)
part_back (ExamplesPart e) = ap (λ (ts : List Tag). ExamplesPart (record (bare_examples e) { tags = ts; table = None })) (tags_back e.tags)
part_back (HeaderPart r) = ap HeaderPart (row_back r)
part_back (RowPart r) = ap RowPart (row_back r)

pub same_parts : (p q : Part) → part_data (part_alone p) ≡ part_data (part_alone q) → part_alone p ≡ part_alone q
same_parts p q e = sym (part_back p) ∙ ap part_of e ∙ part_back q

-- ---- its members are in order, and it is shallow

tags_are : (ts : List Tag) → items_in_order (items_of (map tag_data ts)) ≡ true
tags_are ts = items_are tag_data (λ t. refl) ts

row_is : (r : Row) → in_order (row_data r) ≡ true
row_is r = rw (items_are cell_data (λ c. refl) r.cells) refl

doc_string_is : (d : DocString) (m : Option (List ℕ)) → in_order (doc_string_data (record d { media = m })) ≡ true
doc_string_is d None = refl
doc_string_is d (Some media) = refl

step_is : (s : Step) (a : Option Argument) → in_order (step_data (record s { argument = a })) ≡ true
step_is s None = refl
step_is s (Some (Table rows)) = rw (items_are row_data row_is rows) refl
step_is s (Some (Text d)) = rw (doc_string_is d d.media) refl

pub part_in_order : (p : Part) → in_order (part_data p) ≡ true
part_in_order (FeaturePart f) = rw (tags_are f.tags) refl
part_in_order (RulePart r) = rw (tags_are r.tags) refl
part_in_order (BackgroundPart b) = refl
part_in_order (ScenarioPart s) = rw (tags_are s.tags) refl
part_in_order (StepPart s) = rw (step_is s s.argument) refl
part_in_order (ExamplesPart e) = rw (tags_are e.tags) refl
part_in_order (HeaderPart r) = rw (row_is r) refl
part_in_order (RowPart r) = rw (row_is r) refl

tags_within : (ts : List Tag) → items_depth (items_of (map tag_data ts)) ≤ 2
tags_within ts = items_within tag_data 2 (λ t. omega arith) ts

cells_within : (cs : List Cell) → items_depth (items_of (map cell_data cs)) ≤ 1
cells_within cs = items_within cell_data 1 (λ c. omega arith) cs

row_within : (r : Row) → depth (row_data r) ≤ 3
row_within r = omega (arith, cells_within r.cells)

doc_string_within : (d : DocString) (m : Option (List ℕ)) → depth (doc_string_data (record d { media = m })) ≤ 2
doc_string_within d None = omega arith
doc_string_within d (Some media) = omega arith

step_within : (s : Step) (a : Option Argument) → depth (step_data (record s { argument = a })) ≤ 6
step_within s None = omega arith
step_within s (Some (Table rows)) = omega (arith, items_within row_data 3 row_within rows)
step_within s (Some (Text d)) = omega (arith, doc_string_within d d.media)

pub part_shallow : (p : Part) → depth (part_data p) ≤ max_depth
part_shallow (FeaturePart f) = omega (arith, tags_within f.tags)
part_shallow (RulePart r) = omega (arith, tags_within r.tags)
part_shallow (BackgroundPart b) = omega arith
part_shallow (ScenarioPart s) = omega (arith, tags_within s.tags)
part_shallow (StepPart s) = omega (arith, step_within s s.argument)
part_shallow (ExamplesPart e) = omega (arith, tags_within e.tags)
part_shallow (HeaderPart r) = omega (arith, row_within r)
part_shallow (RowPart r) = omega (arith, row_within r)
