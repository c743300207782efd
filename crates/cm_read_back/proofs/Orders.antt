-- What is written has its members in the order of their names.
use Rattle.std.proofs.Common.{◌≡◌, ℕ, ◌+◌, List, [], ◌∷◌, ◌++◌, true, map, Option, Some, None, refl}
use Rattle.std.proofs.lemmas.Bool.{and_parts}
use Rattle.serde_json.specs.Data.{Data}
use Rattle.serde_json.specs.View.{items_of}
use Rattle.gk_document.specs.declared.tree.Cell.{Cell}
use Rattle.gk_document.specs.declared.tree.Tag.{Tag}
use Rattle.gk_document.specs.declared.tree.Row.{Row}
use Rattle.gk_document.specs.declared.tree.DocString.{DocString}
use Rattle.gk_document.specs.declared.tree.Argument.{Argument}
use Rattle.gk_document.specs.declared.tree.Argument.TheVariants as tree_argument
use Rattle.gk_document.specs.declared.tree.Step.{Step}
use Rattle.gk_document.specs.declared.tree.Background.{Background}
use Rattle.gk_document.specs.declared.tree.ExampleTable.{ExampleTable}
use Rattle.gk_document.specs.declared.tree.Examples.{Examples}
use Rattle.gk_document.specs.declared.tree.Scenario.{Scenario}
use Rattle.gk_document.specs.declared.tree.Rule.{Rule}
use Rattle.gk_document.specs.declared.tree.Feature.{Feature}
use Rattle.gk_document.specs.declared.tree.Comment.{Comment}
use Rattle.gk_document.specs.declared.tree.Document.{Document}
use Rattle.gk_pickle.specs.declared.pickles.PickleTag.{PickleTag}
use Rattle.gk_pickle.specs.declared.pickles.PickleDocString.{PickleDocString}
use Rattle.gk_pickle.specs.declared.pickles.PickleArgument.{PickleArgument}
use Rattle.gk_pickle.specs.declared.pickles.PickleArgument.TheVariants.{Table, Text}
use Rattle.gk_pickle.specs.declared.pickles.PickleStep.{PickleStep}
use Rattle.gk_pickle.specs.declared.pickles.Pickle.{Pickle}
use Rattle.cm_messages.specs.Layout.{id_data}
use Rattle.cm_messages.specs.SourceLayout.{source_data}
use Rattle.cm_messages.specs.DocumentLayout.{cell_data, row_data, tag_data, comment_data, doc_string_data, step_data, background_child, examples_data, scenario_child, children_data, rule_child, feature_data, document_data}
use Rattle.cm_messages.specs.PickleLayout.{pickle_cell_data, pickle_row_data, pickle_tag_data, pickle_doc_string_data, argument_data, pickle_step_data, pickle_steps_data, pickle_data}
use Rattle.cm_read_back.specs.Values.{in_order, items_in_order}

pub items_are : {A : Type 0} (written : A → Data) → ((x : A) → in_order (written x) ≡ true) → (xs : List A) → items_in_order (items_of (map written xs)) ≡ true
items_are written one [] = refl
items_are written one (x ∷ xs) = rw (one x, items_are written one xs) refl

pub source_order : (uri text : List ℕ) → in_order (source_data uri text) ≡ true
unfolding source_data
source_order uri text = refl

-- ---- pickles

ids_are : (ns : List ℕ) → items_in_order (items_of (map id_data ns)) ≡ true
ids_are ns = items_are id_data (λ n. refl) ns

tags_are : (ts : List PickleTag) → items_in_order (items_of (map pickle_tag_data ts)) ≡ true
tags_are ts = items_are pickle_tag_data (λ t. refl) ts

cells_are : (cs : List (List ℕ)) → items_in_order (items_of (map pickle_cell_data cs)) ≡ true
cells_are cs = items_are pickle_cell_data (λ c. refl) cs

rows_are : (rs : List (List (List ℕ))) → items_in_order (items_of (map pickle_row_data rs)) ≡ true
rows_are rs = items_are pickle_row_data (λ r. rw (cells_are r) refl) rs

doc_string_at : (d : PickleDocString) (m : Option (List ℕ)) → in_order (pickle_doc_string_data (record d { media = m })) ≡ true
doc_string_at d None = refl
doc_string_at d (Some []) = refl
doc_string_at d (Some (c ∷ cs)) = refl

argument_is : (a : PickleArgument) → in_order (argument_data a) ≡ true
argument_is (Table rows) = rw (rows_are rows) refl
argument_is (Text d) = rw (doc_string_at d d.media) refl

step_at : (id : ℕ) (s : PickleStep) (a : Option PickleArgument) → in_order (pickle_step_data id (record s { argument = a })) ≡ true
step_at id s None = rw (ids_are s.nodes) refl
step_at id s (Some a) = rw (argument_is a, ids_are s.nodes) refl

steps_are : (id : ℕ) (ss : List PickleStep) → items_in_order (items_of (pickle_steps_data id ss)) ≡ true
steps_are id [] = refl
steps_are id (s ∷ ss) = rw (step_at id s s.argument, steps_are (id + 1) ss) refl

pub pickle_order : (uri : List ℕ) (first : ℕ) (p : Pickle) → in_order (pickle_data uri first p) ≡ true
unfolding pickle_data
pickle_order uri first p = rw (ids_are p.nodes, steps_are first p.steps, tags_are p.tags) refl

-- ---- documents

tree_cells_are : (line : ℕ) (cs : List Cell) → items_in_order (items_of (map (cell_data line) cs)) ≡ true
tree_cells_are line cs = items_are (cell_data line) (λ c. refl) cs

row_is : (r : Row) → in_order (row_data r) ≡ true
row_is r = rw (tree_cells_are r.location.line r.cells) refl

tree_rows_are : (rs : List Row) → items_in_order (items_of (map row_data rs)) ≡ true
tree_rows_are rs = items_are row_data row_is rs

tree_tags_are : (ts : List Tag) → items_in_order (items_of (map tag_data ts)) ≡ true
tree_tags_are ts = items_are tag_data (λ t. refl) ts

comments_are : (cs : List Comment) → items_in_order (items_of (map comment_data cs)) ≡ true
comments_are cs = items_are comment_data (λ c. refl) cs

tree_doc_string_at : (d : DocString) (m : Option (List ℕ)) → in_order (doc_string_data (record d { media = m })) ≡ true
tree_doc_string_at d None = refl
tree_doc_string_at d (Some []) = refl
tree_doc_string_at d (Some (c ∷ cs)) = refl

tree_step_at : (s : Step) (a : Option Argument) → in_order (step_data (record s { argument = a })) ≡ true
tree_step_at s None = refl
tree_step_at s (Some (tree_argument.Table rows)) = rw (tree_rows_are rows) refl
tree_step_at s (Some (tree_argument.Text d)) = rw (tree_doc_string_at d d.media) refl

tree_steps_are : (ss : List Step) → items_in_order (items_of (map step_data ss)) ≡ true
tree_steps_are ss = items_are step_data (λ s. tree_step_at s s.argument) ss

background_is : (b : Background) → in_order (background_child b) ≡ true
background_is b = rw (tree_steps_are b.steps) refl

examples_at : (e : Examples) (t : Option ExampleTable) → in_order (examples_data (record e { table = t })) ≡ true
examples_at e None = rw (tree_tags_are e.tags) refl
examples_at e (Some t) = rw (row_is t.header, tree_rows_are t.body, tree_tags_are e.tags) refl

blocks_are : (es : List Examples) → items_in_order (items_of (map examples_data es)) ≡ true
blocks_are es = items_are examples_data (λ e. examples_at e e.table) es

scenario_is : (s : Scenario) → in_order (scenario_child s) ≡ true
scenario_is s = rw (blocks_are s.examples, tree_steps_are s.steps, tree_tags_are s.tags) refl

both_are : (xs ys : List Data) → items_in_order (items_of xs) ≡ true → items_in_order (items_of ys) ≡ true → items_in_order (items_of (xs ++ ys)) ≡ true
both_are [] ys h k = k
both_are (x ∷ xs) ys h k = let p = and_parts (in_order x) (items_in_order (items_of xs)) h in rw (p.0, both_are xs ys p.1 k) refl

children_are : (b : Option Background) (ss : List Scenario) → items_in_order (items_of (children_data b ss)) ≡ true
children_are None ss = items_are scenario_child scenario_is ss
children_are (Some b) ss = rw (background_is b, items_are scenario_child scenario_is ss) refl

rule_is : (r : Rule) → in_order (rule_child r) ≡ true
rule_is r = rw (children_are r.background r.scenarios, tree_tags_are r.tags) refl

feature_is : (f : Feature) → in_order (feature_data f) ≡ true
feature_is f = rw (both_are (children_data f.background f.scenarios) (map rule_child f.rules) (children_are f.background f.scenarios) (items_are rule_child rule_is f.rules), tree_tags_are f.tags) refl

document_at : (uri : List ℕ) (d : Document) (f : Option Feature) → in_order (document_data uri (record d { feature = f })) ≡ true
unfolding document_data
document_at uri d None = rw (comments_are d.comments) refl
document_at uri d (Some f) = rw (comments_are d.comments, feature_is f) refl

pub document_order : (uri : List ℕ) (d : Document) → in_order (document_data uri d) ≡ true
document_order uri d = document_at uri d d.feature
