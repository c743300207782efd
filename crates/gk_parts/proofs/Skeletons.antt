-- The parts of a document, each alone, are those of its skeleton without the parts inside them.
use Rattle.std.proofs.Common.{◌≡◌, ◌∙◌, List, [], ◌∷◌, ◌++◌, Option, Some, None, ap, sym, refl, map}
use Rattle.std.specs.Prelude.{option_map}
use Rattle.std.specs.List.{flat_map}
use Rattle.std.specs.Option.{option_to_list}
use Rattle.std.proofs.lemmas.List.{map-append}
use Rattle.gk_document.specs.declared.tree.Row.{Row}
use Rattle.gk_document.specs.declared.tree.Step.{Step}
use Rattle.gk_document.specs.declared.tree.Background.{Background}
use Rattle.gk_document.specs.declared.tree.ExampleTable.{ExampleTable}
use Rattle.gk_document.specs.declared.tree.Examples.{Examples}
use Rattle.gk_document.specs.declared.tree.Scenario.{Scenario}
use Rattle.gk_document.specs.declared.tree.Rule.{Rule}
use Rattle.gk_document.specs.declared.tree.Feature.{Feature}
use Rattle.gk_document.specs.declared.tree.Document.{Document}
use Rattle.gk_document.specs.Skeleton.{bare_row, bare_step, bare_background, bare_table, bare_examples, bare_scenario, bare_rule, bare_feature, skeleton}
use Rattle.gk_parts.specs.Parts.{Part, FeaturePart, RulePart, BackgroundPart, ScenarioPart, StepPart, ExamplesPart, HeaderPart, RowPart}
use Rattle.gk_parts.specs.Parts.{background_parts, table_parts, examples_parts, scenario_parts, children_parts, rule_parts, feature_parts, parts, outer_part, part_alone, parts_alone}
use Rattle.gk_parts.specs.Laws.{PartsShowSkeleton}
use Rattle.gk_parts.proofs.ReadBack.{one_feature}

-- two lists, one after the other
joined : (ps qs ps' qs' : List Part) → map part_alone ps ≡ map outer_part ps' → map part_alone qs ≡ map outer_part qs' → map part_alone (ps ++ qs) ≡ map outer_part (ps' ++ qs')
joined ps qs ps' qs' e e' =
    map-append part_alone ps qs ∙ ap (λ l. l ++ map part_alone qs) e ∙ ap (λ l. map outer_part ps' ++ l) e' ∙ sym (map-append outer_part ps' qs')

module _ {X : Type 0} (f : X → List Part) (g : X → X) (one : (x : X) → map part_alone (f x) ≡ map outer_part (f (g x))) where
  all : (xs : List X) → map part_alone (flat_map f xs) ≡ map outer_part (flat_map f (map g xs))
  all [] = refl
  all (x ∷ xs) = joined (f x) (flat_map f xs) (f (g x)) (flat_map f (map g xs)) (one x) (all xs)

  maybe : (o : Option X) → map part_alone (flat_map f (option_to_list o)) ≡ map outer_part (flat_map f (option_to_list (option_map g o)))
  maybe None = refl
  maybe (Some x) = all (x ∷ [])

rows_alone : (xs : List Row) → map part_alone (map RowPart xs) ≡ map outer_part (map RowPart (map bare_row xs))
rows_alone [] = refl
rows_alone (x ∷ xs) = ap (λ l. RowPart (bare_row x) ∷ l) (rows_alone xs)

steps_alone : (xs : List Step) → map part_alone (map StepPart xs) ≡ map outer_part (map StepPart (map bare_step xs))
steps_alone [] = refl
steps_alone (x ∷ xs) = ap (λ l. StepPart (bare_step x) ∷ l) (steps_alone xs)

table_alone : (t : ExampleTable) → map part_alone (table_parts t) ≡ map outer_part (table_parts (bare_table t))
table_alone t = ap (λ l. HeaderPart (bare_row t.header) ∷ l) (rows_alone t.body)

examples_alone : (e : Examples) → map part_alone (examples_parts e) ≡ map outer_part (examples_parts (bare_examples e))
examples_alone e = ap (λ l. part_alone (ExamplesPart e) ∷ l) (maybe table_parts bare_table table_alone e.table)

scenario_alone : (s : Scenario) → map part_alone (scenario_parts s) ≡ map outer_part (scenario_parts (bare_scenario s))
scenario_alone s =
    ap (λ l. part_alone (ScenarioPart s) ∷ l)
    (joined (map StepPart s.steps) (flat_map examples_parts s.examples) (map StepPart (map bare_step s.steps)) (flat_map examples_parts (map bare_examples s.examples))
    (steps_alone s.steps) (all examples_parts bare_examples examples_alone s.examples))

background_alone : (b : Background) → map part_alone (background_parts b) ≡ map outer_part (background_parts (bare_background b))
background_alone b = ap (λ l. part_alone (BackgroundPart b) ∷ l) (steps_alone b.steps)

children_alone : (b : Option Background) (ss : List Scenario)
    → map part_alone (children_parts b ss) ≡ map outer_part (children_parts (option_map bare_background b) (map bare_scenario ss))
children_alone b ss =
    joined (flat_map background_parts (option_to_list b)) (flat_map scenario_parts ss)
    (flat_map background_parts (option_to_list (option_map bare_background b))) (flat_map scenario_parts (map bare_scenario ss))
    (maybe background_parts bare_background background_alone b) (all scenario_parts bare_scenario scenario_alone ss)

rule_alone : (r : Rule) → map part_alone (rule_parts r) ≡ map outer_part (rule_parts (bare_rule r))
rule_alone r = ap (λ l. part_alone (RulePart r) ∷ l) (children_alone r.background r.scenarios)

feature_alone : (f : Feature) → map part_alone (feature_parts f) ≡ map outer_part (feature_parts (bare_feature f))
feature_alone f =
    ap (λ l. part_alone (FeaturePart f) ∷ l)
    (joined (children_parts f.background f.scenarios) (flat_map rule_parts f.rules)
    (children_parts (option_map bare_background f.background) (map bare_scenario f.scenarios)) (flat_map rule_parts (map bare_rule f.rules))
    (children_alone f.background f.scenarios) (all rule_parts bare_rule rule_alone f.rules))

document_alone : (d : Document) → parts_alone d ≡ map outer_part (parts (skeleton d))
document_alone d = maybe feature_parts bare_feature feature_alone d.feature

pub parts_show_skeleton : PartsShowSkeleton
parts_show_skeleton a b = (
  λ same.
      ap (λ (f : Option Feature). record { feature = f; comments = []; nodes = 0 })
      (one_feature (skeleton a) (skeleton b) (sym (document_alone a) ∙ same ∙ document_alone b)),
  λ same. document_alone a ∙ ap (λ (d : Document). map outer_part (parts d)) same ∙ sym (document_alone b),
)
