-- How deep the values nest.
use Rattle.std.proofs.Common.{ℕ, ◌+◌, ◌≤◌, List, [], ◌∷◌, ◌++◌, map, Option, Some, None, arith}
use Rattle.serde_json.specs.Data.{Data, depth, items_depth}
use Rattle.serde_json.specs.Read.{max_depth}
use Rattle.serde_json.specs.View.{items_of}
use Rattle.gk_document.specs.declared.tree.Cell.{Cell}
use Rattle.gk_document.specs.declared.tree.Tag.{Tag}
use Rattle.gk_document.specs.declared.tree.Row.{Row}
use Rattle.gk_document.specs.declared.tree.DocString.{DocString}
use Rattle.gk_document.specs.declared.tree.Argument.{Argument}
use Rattle.gk_document.specs.declared.tree.Argument.TheVariants as tree_argument
use Rattle.gk_document.specs.declared.tree.Step.{Step}
use Rattle.gk_document.specs.declared.tree.Background.{Background}
use Rattle.gk_document.specs.declared.tree.ExampleTable.{ExampleTable}
use Rattle.gk_document.specs.declared.tree.Examples.{Examples}
use Rattle.gk_document.specs.declared.tree.Scenario.{Scenario}
use Rattle.gk_document.specs.declared.tree.Rule.{Rule}
use Rattle.gk_document.specs.declared.tree.Feature.{Feature}
use Rattle.gk_document.specs.declared.tree.Document.{Document}
use Rattle.gk_pickle.specs.declared.pickles.PickleTag.{PickleTag}
use Rattle.gk_pickle.specs.declared.pickles.PickleDocString.{PickleDocString}
use Rattle.gk_pickle.specs.declared.pickles.PickleArgument.{PickleArgument}
use Rattle.gk_pickle.specs.declared.pickles.PickleArgument.TheVariants.{Table, Text}
use Rattle.gk_pickle.specs.declared.pickles.PickleStep.{PickleStep}
use Rattle.gk_pickle.specs.declared.pickles.Pickle.{Pickle}
use Rattle.cm_messages.specs.Layout.{id_data}
use Rattle.cm_messages.specs.SourceLayout.{source_data}
use Rattle.cm_messages.specs.DocumentLayout.{cell_data, row_data, tag_data, comment_data, doc_string_data, step_data, background_child, examples_data, scenario_child, children_data, rule_child, feature_data, document_data}
use Rattle.cm_messages.specs.PickleLayout.{pickle_cell_data, pickle_row_data, pickle_tag_data, pickle_doc_string_data, argument_data, pickle_step_data, pickle_steps_data, pickle_data}

pub items_within : {A : Type 0} (written : A → Data) (n : ℕ) → ((x : A) → depth (written x) ≤ n) → (xs : List A) → items_depth (items_of (map written xs)) ≤ n
items_within written n one [] = omega arith
items_within written n one (x ∷ xs) = let first = one x in let others = items_within written n one xs in omega arith

pub source_depth : (uri text : List ℕ) → depth (source_data uri text) ≤ max_depth
unfolding source_data
source_depth uri text = omega arith

-- ---- pickles

ids_within : (ns : List ℕ) → items_depth (items_of (map id_data ns)) ≤ 0
ids_within ns = items_within id_data 0 (λ n. omega arith) ns

tags_within : (ts : List PickleTag) → items_depth (items_of (map pickle_tag_data ts)) ≤ 1
tags_within ts = items_within pickle_tag_data 1 (λ t. omega arith) ts

cells_within : (cs : List (List ℕ)) → items_depth (items_of (map pickle_cell_data cs)) ≤ 1
cells_within cs = items_within pickle_cell_data 1 (λ c. omega arith) cs

rows_within : (rs : List (List (List ℕ))) → items_depth (items_of (map pickle_row_data rs)) ≤ 3
rows_within rs = items_within pickle_row_data 3 (λ r. omega (arith, cells_within r)) rs

doc_string_within : (d : PickleDocString) (m : Option (List ℕ)) → depth (pickle_doc_string_data (record d { media = m })) ≤ 1
doc_string_within d None = omega arith
doc_string_within d (Some []) = omega arith
doc_string_within d (Some (c ∷ cs)) = omega arith

argument_within : (a : PickleArgument) → depth (argument_data a) ≤ 6
argument_within (Table rows) = omega (arith, rows_within rows)
argument_within (Text d) = omega (arith, doc_string_within d d.media)

step_within : (id : ℕ) (s : PickleStep) (a : Option PickleArgument) → depth (pickle_step_data id (record s { argument = a })) ≤ 7
step_within id s None = omega (arith, ids_within s.nodes)
step_within id s (Some a) = omega (arith, ids_within s.nodes, argument_within a)

steps_within : (id : ℕ) (ss : List PickleStep) → items_depth (items_of (pickle_steps_data id ss)) ≤ 7
steps_within id [] = omega arith
steps_within id (s ∷ ss) = let first = step_within id s s.argument in let others = steps_within (id + 1) ss in omega arith

pub pickle_depth : (uri : List ℕ) (first : ℕ) (p : Pickle) → depth (pickle_data uri first p) ≤ max_depth
unfolding pickle_data
pickle_depth uri first p = omega (arith, ids_within p.nodes, tags_within p.tags, steps_within first p.steps)

-- ---- documents

row_cells_within : (line : ℕ) (cs : List Cell) → items_depth (items_of (map (cell_data line) cs)) ≤ 2
row_cells_within line cs = items_within (cell_data line) 2 (λ c. omega arith) cs

row_within : (r : Row) → depth (row_data r) ≤ 4
row_within r = omega (arith, row_cells_within r.location.line r.cells)

tree_rows_within : (rs : List Row) → items_depth (items_of (map row_data rs)) ≤ 4
tree_rows_within rs = items_within row_data 4 row_within rs

tree_tags_within : (ts : List Tag) → items_depth (items_of (map tag_data ts)) ≤ 2
tree_tags_within ts = items_within tag_data 2 (λ t. omega arith) ts

tree_doc_string_within : (d : DocString) (m : Option (List ℕ)) → depth (doc_string_data (record d { media = m })) ≤ 2
tree_doc_string_within d None = omega arith
tree_doc_string_within d (Some []) = omega arith
tree_doc_string_within d (Some (c ∷ cs)) = omega arith

tree_step_at : (s : Step) (a : Option Argument) → depth (step_data (record s { argument = a })) ≤ 7
tree_step_at s None = omega arith
tree_step_at s (Some (tree_argument.Text d)) = omega (arith, tree_doc_string_within d d.media)
tree_step_at s (Some (tree_argument.Table [])) = omega arith
tree_step_at s (Some (tree_argument.Table (r ∷ rs))) = omega (arith, tree_rows_within (r ∷ rs))

tree_steps_within : (ss : List Step) → items_depth (items_of (map step_data ss)) ≤ 7
tree_steps_within ss = items_within step_data 7 (λ s. tree_step_at s s.argument) ss

background_within : (b : Background) → depth (background_child b) ≤ 10
background_within b = omega (arith, tree_steps_within b.steps)

examples_at : (e : Examples) (t : Option ExampleTable) → depth (examples_data (record e { table = t })) ≤ 6
examples_at e None = omega (arith, tree_tags_within e.tags)
examples_at e (Some t) = omega (arith, tree_tags_within e.tags, row_within t.header, tree_rows_within t.body)

blocks_within : (es : List Examples) → items_depth (items_of (map examples_data es)) ≤ 6
blocks_within es = items_within examples_data 6 (λ e. examples_at e e.table) es

scenario_within : (s : Scenario) → depth (scenario_child s) ≤ 10
scenario_within s = omega (arith, tree_tags_within s.tags, tree_steps_within s.steps, blocks_within s.examples)

both_within : (n : ℕ) (xs ys : List Data) → items_depth (items_of xs) ≤ n → items_depth (items_of ys) ≤ n → items_depth (items_of (xs ++ ys)) ≤ n
both_within n [] ys h k = k
both_within n (x ∷ xs) ys h k = let others = both_within n xs ys (omega arith) k in omega arith

children_within : (b : Option Background) (ss : List Scenario) → items_depth (items_of (children_data b ss)) ≤ 10
children_within None ss = items_within scenario_child 10 scenario_within ss
children_within (Some b) ss = omega (arith, background_within b, items_within scenario_child 10 scenario_within ss)

rule_within : (r : Rule) → depth (rule_child r) ≤ 13
rule_within r = omega (arith, tree_tags_within r.tags, children_within r.background r.scenarios)

feature_within : (f : Feature) → depth (feature_data f) ≤ 15
feature_within f =
    let children = both_within 13 (children_data f.background f.scenarios) (map rule_child f.rules) (omega (arith, children_within f.background f.scenarios)) (items_within rule_child 13 rule_within f.rules) in
    omega (arith, tree_tags_within f.tags)

document_at : (uri : List ℕ) (d : Document) (f : Option Feature) → depth (document_data uri (record d { feature = f })) ≤ max_depth
unfolding document_data
document_at uri d None = omega (arith, items_within comment_data 2 (λ c. omega arith) d.comments)
document_at uri d (Some f) = omega (arith, items_within comment_data 2 (λ c. omega arith) d.comments, feature_within f)

pub document_depth : (uri : List ℕ) (d : Document) → depth (document_data uri d) ≤ max_depth
document_depth uri d = document_at uri d d.feature
