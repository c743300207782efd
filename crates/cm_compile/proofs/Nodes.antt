-- A document has no more pickles than nodes, and no more steps in a pickle.
use Rattle.std.proofs.Common.{◌≡◌, ℕ, ◌≤◌, suc, List, [], ◌∷◌, ◌++◌, length, Option, Some, None, sym, ap, ◌∙◌, arith, length-append}
use Rattle.std.specs.List.{flat_map}
use Rattle.std.proofs.lemmas.List.{length-map}
use Rattle.gk_document.specs.declared.tree.Tag.{Tag}
use Rattle.gk_document.specs.declared.tree.Row.{Row}
use Rattle.gk_document.specs.declared.tree.Step.{Step}
use Rattle.gk_document.specs.declared.tree.Background.{Background}
use Rattle.gk_document.specs.declared.tree.ExampleTable.{ExampleTable}
use Rattle.gk_document.specs.declared.tree.Examples.{Examples}
use Rattle.gk_document.specs.declared.tree.Scenario.{Scenario}
use Rattle.gk_document.specs.declared.tree.Rule.{Rule}
use Rattle.gk_document.specs.declared.tree.Feature.{Feature}
use Rattle.gk_grammar.specs.Grammar.{tag_nodes, node_of_row, row_nodes, step_nodes, background_nodes, table_rows, examples_nodes, scenario_nodes, rule_nodes, feature_nodes}
use Rattle.gk_pickle.specs.declared.pickles.PickleStep.{PickleStep}
use Rattle.gk_pickle.specs.declared.pickles.Pickle.{Pickle}
use Rattle.gk_pickle.specs.Inheritance.{Inheritance}
use Rattle.gk_pickle.specs.Pickles.{pickle_of, row_filling, table_pickles, examples_pickles, outline_pickles, scenario_pickles, background_steps, in_feature, in_rule, rule_pickles, pickles_in}
use Rattle.gk_pickle.specs.Order.{rule_steps, document_steps, IsSubsequence, first_node, ComesFrom}

-- ---- lists joined

one_each : {X A : Type 0} (f : X → List A) → ((x : X) → 1 ≤ length (f x)) → (xs : List X) → length xs ≤ length (flat_map f xs)
one_each f h [] = omega arith
one_each f h (x ∷ xs) = omega (arith, length-append (f x) (flat_map f xs), h x, one_each f h xs)

no_longer : {X A B : Type 0} (f : X → List A) (g : X → List B) → ((x : X) → length (f x) ≤ length (g x)) → (xs : List X)
    → length (flat_map f xs) ≤ length (flat_map g xs)
no_longer f g h [] = omega arith
no_longer f g h (x ∷ xs) = omega (arith, length-append (f x) (flat_map f xs), length-append (g x) (flat_map g xs), h x, no_longer f g h xs)

-- what comes after the tags and the node of an element
later : {A : Type 0} (tags : List A) (n : A) (rest : List A) → suc (length rest) ≤ length (tags ++ n ∷ rest)
later tags n rest = omega (arith, length-append tags (n ∷ rest))

-- ---- steps

abbrev own_steps : Scenario → List Step
own_steps s = s.steps

steps_have_nodes : (ss : List Step) → length ss ≤ length (flat_map step_nodes ss)
steps_have_nodes ss = one_each step_nodes (λ s. omega arith) ss

background_has_nodes : (b : Option Background) → length (background_steps b) ≤ length (background_nodes b)
background_has_nodes None = omega arith
background_has_nodes (Some b) = omega (arith, steps_have_nodes b.steps)

own_steps_have_nodes : (s : Scenario) → length (own_steps s) ≤ length (scenario_nodes s)
own_steps_have_nodes s =
    let steps = flat_map step_nodes s.steps in
    let examples = flat_map examples_nodes s.examples in
    omega (arith, steps_have_nodes s.steps, length-append steps examples, later (tag_nodes s.tags) (s.location, s.node) (steps ++ examples))

under_have_nodes : (b : Option Background) (ss : List Scenario)
    → length (background_steps b ++ flat_map own_steps ss) ≤ length (background_nodes b ++ flat_map scenario_nodes ss)
under_have_nodes b ss = omega (
  arith,
  length-append (background_steps b) (flat_map own_steps ss),
  length-append (background_nodes b) (flat_map scenario_nodes ss),
  background_has_nodes b,
  no_longer own_steps scenario_nodes own_steps_have_nodes ss,
)

rule_steps_have_nodes : (r : Rule) → length (rule_steps r) ≤ length (rule_nodes r)
rule_steps_have_nodes r = omega (
  arith,
  under_have_nodes r.background r.scenarios,
  later (tag_nodes r.tags) (r.location, r.node) (background_nodes r.background ++ flat_map scenario_nodes r.scenarios),
)

document_steps_have_nodes : (o : Option Feature) → length (document_steps o) ≤ length (feature_nodes o)
document_steps_have_nodes None = omega arith
document_steps_have_nodes (Some f) =
    let scenarios = flat_map scenario_nodes f.scenarios in
    let rules = flat_map rule_nodes f.rules in
    omega (
      arith,
      under_have_nodes f.background f.scenarios,
      no_longer rule_steps rule_nodes rule_steps_have_nodes f.rules,
      length-append (background_steps f.background ++ flat_map own_steps f.scenarios) (flat_map rule_steps f.rules),
      length-append (background_nodes f.background) scenarios,
      length-append scenarios rules,
      length-append (background_nodes f.background) (scenarios ++ rules),
      length-append (tag_nodes f.tags) (background_nodes f.background ++ (scenarios ++ rules)),
    )

fewer_in_order : (xs all : List Step) → IsSubsequence xs all → length xs ≤ length all
fewer_in_order [] all h = omega arith
fewer_in_order (x ∷ xs) all h = omega (arith, fewer_in_order xs h.1 h.3, length-append h.0 (x ∷ h.1), ap length h.2)

-- a pickle has as many steps as its document has nodes, at most
pub few_steps : (o : Option Feature) (p : Pickle) → ComesFrom (document_steps o) p → length p.steps ≤ length (feature_nodes o)
few_steps o p h =
    let named : PickleStep → Option ℕ = λ s. first_node s.nodes in
    let node : Step → Option ℕ = λ s. Some s.node in
    let same : length p.steps ≡ length h.0 = sym (length-map p.steps named) ∙ ap length h.2 ∙ length-map h.0 node in
    omega (arith, fewer_in_order h.0 (document_steps o) h.1, document_steps_have_nodes o)

-- ---- pickles

table_pickles_have_nodes : (inherited : Inheritance) (s : Scenario) (tags : List Tag) (o : Option ExampleTable)
    → length (table_pickles inherited s tags o) ≤ length (row_nodes (table_rows o))
table_pickles_have_nodes inherited s tags None = omega arith
table_pickles_have_nodes inherited s tags (Some t) =
    omega (arith, length-map t.body (λ (row : Row). pickle_of inherited s tags (row_filling t.header row)), length-map t.body node_of_row)

examples_pickles_have_nodes : (inherited : Inheritance) (s : Scenario) (e : Examples) → length (examples_pickles inherited s e) ≤ length (examples_nodes e)
examples_pickles_have_nodes inherited s e = omega (
  arith,
  table_pickles_have_nodes inherited s e.tags e.table,
  later (tag_nodes e.tags) (e.location, e.node) (row_nodes (table_rows e.table)),
)

outline_pickles_have_nodes : (inherited : Inheritance) (s : Scenario) (es : List Examples)
    → length (outline_pickles inherited s es) ≤ suc (length (flat_map examples_nodes es))
outline_pickles_have_nodes inherited s [] = omega arith
outline_pickles_have_nodes inherited s (e ∷ es) =
    omega (arith, no_longer (examples_pickles inherited s) examples_nodes (examples_pickles_have_nodes inherited s) (e ∷ es))

scenario_pickles_have_nodes : (inherited : Inheritance) (s : Scenario) → length (scenario_pickles inherited s) ≤ length (scenario_nodes s)
scenario_pickles_have_nodes inherited s =
    let steps = flat_map step_nodes s.steps in
    let examples = flat_map examples_nodes s.examples in
    omega (
      arith,
      outline_pickles_have_nodes inherited s s.examples,
      length-append steps examples,
      later (tag_nodes s.tags) (s.location, s.node) (steps ++ examples),
    )

scenarios_pickles_have_nodes : (inherited : Inheritance) (ss : List Scenario)
    → length (flat_map (scenario_pickles inherited) ss) ≤ length (flat_map scenario_nodes ss)
scenarios_pickles_have_nodes inherited ss = no_longer (scenario_pickles inherited) scenario_nodes (scenario_pickles_have_nodes inherited) ss

rule_pickles_have_nodes : (f : Feature) (r : Rule) → length (rule_pickles f r) ≤ length (rule_nodes r)
rule_pickles_have_nodes f r = omega (
  arith,
  scenarios_pickles_have_nodes (in_rule f r) r.scenarios,
  length-append (background_nodes r.background) (flat_map scenario_nodes r.scenarios),
  later (tag_nodes r.tags) (r.location, r.node) (background_nodes r.background ++ flat_map scenario_nodes r.scenarios),
)

-- a document has as many pickles as nodes, at most
pub few_pickles : (o : Option Feature) → length (pickles_in o) ≤ length (feature_nodes o)
few_pickles None = omega arith
few_pickles (Some f) =
    let scenarios = flat_map scenario_nodes f.scenarios in
    let rules = flat_map rule_nodes f.rules in
    omega (
      arith,
      scenarios_pickles_have_nodes (in_feature f) f.scenarios,
      no_longer (rule_pickles f) rule_nodes (rule_pickles_have_nodes f) f.rules,
      length-append (flat_map (scenario_pickles (in_feature f)) f.scenarios) (flat_map (rule_pickles f) f.rules),
      length-append scenarios rules,
      length-append (background_nodes f.background) (scenarios ++ rules),
      length-append (tag_nodes f.tags) (background_nodes f.background ++ (scenarios ++ rules)),
    )
