-- The parts of a document in the order of its tree, and what is compared of each.
-- Source: Cucumber Messages, `GherkinDocument`. Tags, cells and a step's argument are no parts of
-- their own.
use Rattle.std.specs.Prelude.{List, [], ◌∷◌, ◌++◌, map, Option, None}
use Rattle.std.specs.List.{flat_map}
use Rattle.std.specs.Option.{option_to_list}
use Rattle.gk_document.specs.declared.tree.Row.{Row}
use Rattle.gk_document.specs.declared.tree.Step.{Step}
use Rattle.gk_document.specs.declared.tree.Background.{Background}
use Rattle.gk_document.specs.declared.tree.ExampleTable.{ExampleTable}
use Rattle.gk_document.specs.declared.tree.Examples.{Examples}
use Rattle.gk_document.specs.declared.tree.Scenario.{Scenario}
use Rattle.gk_document.specs.declared.tree.Rule.{Rule}
use Rattle.gk_document.specs.declared.tree.Feature.{Feature}
use Rattle.gk_document.specs.declared.tree.Document.{Document}
use Rattle.gk_document.specs.Skeleton.{bare_row, bare_step, bare_background, bare_examples, bare_scenario, bare_rule, bare_feature}
use Rattle.gk_parts.specs.declared.listing.Part.{Part as DeclaredPart}
use Rattle.gk_parts.specs.declared.listing.Part.TheVariants as declared

-- a part of a document, with what is inside it; a row stands below the header of an examples table
pub data Part : Type 0 where
  FeaturePart : Feature → Part
  RulePart : Rule → Part
  BackgroundPart : Background → Part
  ScenarioPart : Scenario → Part
  StepPart : Step → Part
  ExamplesPart : Examples → Part
  HeaderPart : Row → Part
  RowPart : Row → Part

-- the part, as the code holds it
abbrev pub part_view : DeclaredPart → Part
part_view (declared.Feature f) = FeaturePart f.now
part_view (declared.Rule r) = RulePart r.now
part_view (declared.Background b) = BackgroundPart b.now
part_view (declared.Scenario s) = ScenarioPart s.now
part_view (declared.Step s) = StepPart s.now
part_view (declared.Examples e) = ExamplesPart e.now
part_view (declared.Header r) = HeaderPart r.now
part_view (declared.Row r) = RowPart r.now

-- ---- the parts in the order of the tree, each before what is inside it

abbrev pub background_parts : Background → List Part
background_parts b = BackgroundPart b ∷ map StepPart b.steps

abbrev pub table_parts : ExampleTable → List Part
table_parts t = HeaderPart t.header ∷ map RowPart t.body

abbrev pub examples_parts : Examples → List Part
examples_parts e = ExamplesPart e ∷ flat_map table_parts (option_to_list e.table)

abbrev pub scenario_parts : Scenario → List Part
scenario_parts s = ScenarioPart s ∷ (map StepPart s.steps ++ flat_map examples_parts s.examples)

-- a background, then scenarios
abbrev pub children_parts : Option Background → List Scenario → List Part
children_parts background scenarios =
    flat_map background_parts (option_to_list background) ++ flat_map scenario_parts scenarios

abbrev pub rule_parts : Rule → List Part
rule_parts r = RulePart r ∷ children_parts r.background r.scenarios

abbrev pub feature_parts : Feature → List Part
feature_parts f =
    FeaturePart f ∷ (children_parts f.background f.scenarios ++ flat_map rule_parts f.rules)

abbrev pub parts : Document → List Part
parts d = flat_map feature_parts (option_to_list d.feature)

-- ---- what is compared of a part

-- what the skeleton has of the part
abbrev pub bare_part : Part → Part
bare_part (FeaturePart f) = FeaturePart (bare_feature f)
bare_part (RulePart r) = RulePart (bare_rule r)
bare_part (BackgroundPart b) = BackgroundPart (bare_background b)
bare_part (ScenarioPart s) = ScenarioPart (bare_scenario s)
bare_part (StepPart s) = StepPart (bare_step s)
bare_part (ExamplesPart e) = ExamplesPart (bare_examples e)
bare_part (HeaderPart r) = HeaderPart (bare_row r)
bare_part (RowPart r) = RowPart (bare_row r)

-- the part without the parts inside it
abbrev pub outer_part : Part → Part
outer_part (FeaturePart f) =
    FeaturePart (record f { background = None; scenarios = []; rules = [] })
outer_part (RulePart r) = RulePart (record r { background = None; scenarios = [] })
outer_part (BackgroundPart b) = BackgroundPart (record b { steps = [] })
outer_part (ScenarioPart s) = ScenarioPart (record s { steps = []; examples = [] })
outer_part (StepPart s) = StepPart s
outer_part (ExamplesPart e) = ExamplesPart (record e { table = None })
outer_part (HeaderPart r) = HeaderPart r
outer_part (RowPart r) = RowPart r

-- the part alone: without the parts inside it, and without what the skeleton drops
abbrev pub part_alone : Part → Part
part_alone p = outer_part (bare_part p)

-- the part alone, as the code holds it
abbrev pub part_view_alone : DeclaredPart → Part
part_view_alone p = part_alone (part_view p)

-- the parts of a document, each alone
abbrev pub parts_alone : Document → List Part
parts_alone d = map part_alone (parts d)
