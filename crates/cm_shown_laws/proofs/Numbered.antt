-- The nodes of a document that is read are numbered in the order of the tree.
use Rattle.std.proofs.Common.{◌≡◌, ℕ, ◌+◌, Bool, true, false, not, List, [], ◌∷◌, ◌++◌, length, Option, Some, None, Result, Ok, Err, map, flat_map, refl, sym, ap, subst, arith, append_assoc, codes}
use Rattle.std.specs.Prelude.{⊤, is_some}
use Rattle.std.specs.Option.{option_map_or}
use Rattle.serde_json.specs.Data.{Data, Items, no_items, item}
use Rattle.gk_document.specs.declared.tree.Location.{Location}
use Rattle.gk_document.specs.declared.tree.Tag.{Tag}
use Rattle.gk_document.specs.declared.tree.Row.{Row}
use Rattle.gk_document.specs.declared.tree.DocString.{DocString}
use Rattle.gk_document.specs.declared.tree.Background.{Background}
use Rattle.gk_document.specs.declared.tree.ExampleTable.{ExampleTable}
use Rattle.gk_document.specs.declared.tree.Scenario.{Scenario}
use Rattle.gk_document.specs.declared.tree.Rule.{Rule}
use Rattle.gk_grammar.specs.Grammar.{Node, node_of_tag, tag_nodes, node_of_row, row_nodes, argument_nodes, step_nodes, background_nodes, table_rows, examples_nodes, scenario_nodes, rule_nodes, feature_nodes}
use Rattle.cm_envelope.specs.declared.envelope.GherkinDocument.{GherkinDocument}
use Rattle.serde_json.specs.Find.{as_object, as_str}
use Rattle.cm_envelope.specs.Member.{◌>>=◌, all_items, good, has_both, items_in, list_of, nested_member, optional_nested_member, present_member, required_member, rule}
use Rattle.cm_envelope.specs.Documents.{Ids, NodeRead, node_in, optional_node_in, optional_node, each_node, nodes_of, argument_of, table_of_rows, is_empty}
use Rattle.cm_envelope.specs.Documents as read
use Rattle.cm_shown_laws.proofs.Spots.{CountsTo, joined}

-- ---- what holds of what was read

abbrev pub Holds : {A E : Type 0} → (A → Type 0) → Result A E → Type 0
Holds P (Ok x) = P x
Holds P (Err e) = ⊤

-- of what is read after it
pub after : {A B E : Type 0} (r : Result A E) (P : A → Type 0) (Q : B → Type 0) (f : A → Result B E) → Holds P r → ((x : A) → P x → Holds Q (f x)) → Holds Q (r >>= f)
after (Ok x) P Q f h k = k x h
after (Err e) P Q f h k = tt

pub past : {A B E : Type 0} (Q : B → Type 0) (r : Result A E) (f : A → Result B E) → ((x : A) → Holds Q (f x)) → Holds Q (r >>= f)
past Q (Ok x) f k = k x
past Q (Err e) f k = tt

-- ---- nodes and lists of them

-- the nodes of what was read have the numbers from the ids before it on, up to the ids at its end
abbrev Counted : {A : Type 0} → Ids → (A → List Node) → A × Ids → Type 0
Counted ids nodes y = CountsTo (length ids) (nodes y.0) (length y.1)

abbrev IsCountedFrom : {A : Type 0} → Ids → NodeRead A → (A → List Node) → Type 0
IsCountedFrom ids r nodes = Holds (Counted ids nodes) r

abbrev Reads : {A : Type 0} → (Ids → Data → NodeRead A) → (A → List Node) → Type 0
Reads reader nodes = (ids : Ids) (d : Data) → IsCountedFrom ids (reader ids d) nodes

-- what is read after nodes, from where these end
then : {A B : Type 0} (ids : Ids) (r : NodeRead A) (nodes : A → List Node) (Q : B → Type 0) (f : A × Ids → Result B (List ℕ)) → IsCountedFrom ids r nodes → ((y : A × Ids) → Counted ids nodes y → Holds Q (f y)) → Holds Q (r >>= f)
then ids r nodes Q f h k = after r (Counted ids nodes) Q f h k

one_more : (ids : Ids) (id : List ℕ) → length ids + 1 ≡ length (ids ++ id ∷ [])
one_more [] id = refl
one_more (x ∷ ids) id = let later = one_more ids id in omega (arith, later)

one_node : (ids : Ids) (id : List ℕ) (l : Location) → CountsTo (length ids) ((l, length ids) ∷ []) (length (ids ++ id ∷ []))
one_node ids id l = (refl, one_more ids id)

pub option_cases : {A : Type 0} (P : Option A → Type 0) → P None → ((x : A) → P (Some x)) → (o : Option A) → P o
option_cases P none some None = none
option_cases P none some (Some x) = some x

module _ {A : Type 0} (reader : Ids → Data → NodeRead A) (nodes : A → List Node) (reads : Reads reader nodes) where
  in_node : (name : List ℕ) → Reads (node_in name reader) nodes
  in_node name ids d = past (Counted ids nodes) (good name (as_object d)) _ (λ members. reads ids d)

  each_in : (ids : Ids) (ds : Items) → IsCountedFrom ids (each_node reader ids ds) (flat_map nodes)
  each_in ids no_items = refl
  each_in ids (item d ds) =
      then ids (reader ids d) nodes (Counted ids (flat_map nodes)) _ (reads ids d)
      (λ first c. then first.1 (each_node reader first.1 ds) (flat_map nodes) (Counted ids (flat_map nodes)) _ (each_in first.1 ds)
      (λ others more. joined (length ids) (length first.1) (length others.1) (nodes first.0) (flat_map nodes others.0) c more))

module _ {A : Type 0} (reader : Ids → Data → NodeRead A) (nodes : A → List Node) (reads : Reads reader nodes) where
  nodes_in : (name : List ℕ) → Reads (nodes_of reader name) (flat_map nodes)
  nodes_in name ids d = past (Counted ids (flat_map nodes)) (items_in name (present_member name d)) _ (λ ds. each_in (node_in name reader) nodes (in_node reader nodes reads name) ids ds)

module _ {A : Type 0} (reader : Ids → Data → NodeRead A) (nodes : Option A → List Node) (none : nodes None ≡ []) (reads : Reads reader (λ x. nodes (Some x))) where
  optional_in : (name : List ℕ) (ids : Ids) (o : Option Data) → IsCountedFrom ids (optional_node_in reader name ids o) nodes
  optional_in name ids None = subst (λ (ns : List Node). CountsTo (length ids) ns (length ids)) (sym none) refl
  optional_in name ids (Some d) =
      then ids (node_in name reader ids d) (λ x. nodes (Some x)) (Counted ids nodes) _ (in_node reader (λ x. nodes (Some x)) reads name ids d) (λ found c. c)

  optional_reads : (name : List ℕ) → Reads (optional_node reader name) nodes
  optional_reads name ids d = optional_in name ids (present_member name d)

-- ---- singles

abbrev one_tag : Tag → List Node
one_tag t = node_of_tag t ∷ []

abbrev one_row : Row → List Node
one_row r = node_of_row r ∷ []

singles : {A : Type 0} (node : A → Node) (xs : List A) → flat_map (λ x. node x ∷ []) xs ≡ map node xs
singles node [] = refl
singles node (x ∷ xs) = ap (λ (l : List Node). node x ∷ l) (singles node xs)

as_singles : {A : Type 0} (node : A → Node) (ids : Ids) (r : NodeRead (List A)) → IsCountedFrom ids r (flat_map (λ x. node x ∷ [])) → IsCountedFrom ids r (map node)
as_singles node ids (Ok y) h = subst (λ (ns : List Node). CountsTo (length ids) ns (length y.1)) (singles node y.0) h
as_singles node ids (Err e) h = tt

tag_reads : Reads read.tag one_tag
tag_reads ids d = past (Counted ids one_tag) (read.mark d) _ (λ own. past (Counted ids one_tag) (required_member as_str (codes "name") d) _ (λ name. one_node ids own.id own.location))

row_reads : Reads read.row one_row
row_reads ids d = past (Counted ids one_row) (read.mark d) _ (λ own. past (Counted ids one_row) (list_of read.cell (codes "cells") d) _ (λ cells. one_node ids own.id own.location))

tags_read : (name : List ℕ) → Reads (nodes_of read.tag name) tag_nodes
tags_read name ids d = as_singles node_of_tag ids (nodes_of read.tag name ids d) (nodes_in read.tag one_tag tag_reads name ids d)

rows_read : (name : List ℕ) → Reads (nodes_of read.row name) row_nodes
rows_read name ids d = as_singles node_of_row ids (nodes_of read.row name ids d) (nodes_in read.row one_row row_reads name ids d)

-- ---- steps

data_table_reads : Reads read.data_table (λ t. row_nodes t.rows)
data_table_reads ids d = then ids (nodes_of read.row (codes "rows") ids d) row_nodes (Counted ids (λ t. row_nodes t.rows)) _ (rows_read (codes "rows") ids d) (λ rows c. c)

argument_has : (n m : ℕ) (text : Option DocString) → CountsTo n [] m → CountsTo n (argument_nodes (argument_of None text)) m
argument_has n m (Some text) h = h
argument_has n m None h = h

argument_reads : Reads read.argument argument_nodes
argument_reads ids d =
    then ids (optional_node read.data_table (codes "dataTable") ids d) (λ o. option_map_or (λ t. row_nodes t.rows) o []) (Counted ids argument_nodes) _
    (optional_reads read.data_table (λ o. option_map_or (λ t. row_nodes t.rows) o []) refl data_table_reads (codes "dataTable") ids d)
    (λ table c. past (Counted ids argument_nodes) (rule (codes "docString") (not (has_both (codes "dataTable") (codes "docString") d))) _
    (λ checked. past (Counted ids argument_nodes) (optional_nested_member read.doc_string (codes "docString") d) _
    (λ content. option_cases (λ o. CountsTo (length ids) (option_map_or (λ t. row_nodes t.rows) o []) (length table.1) → CountsTo (length ids) (argument_nodes (argument_of o content)) (length table.1))
    (argument_has (length ids) (length table.1) content) (λ t h. h) table.0 c)))

heading_reads : (name : List ℕ) → Reads (read.heading name) (λ h. (h.location, h.node) ∷ [])
heading_reads name ids d = past (Counted ids (λ h. (h.location, h.node) ∷ [])) (read.mark d) _ (λ own. past (Counted ids (λ h. (h.location, h.node) ∷ [])) (read.title name d) _ (λ words. one_node ids own.id own.location))

step_reads : Reads read.step step_nodes
step_reads ids d =
    then ids (read.heading (codes "text") ids d) (λ h. (h.location, h.node) ∷ []) (Counted ids step_nodes) _ (heading_reads (codes "text") ids d)
    (λ head c. then head.1 (read.argument head.1 d) argument_nodes (Counted ids step_nodes) _ (argument_reads head.1 d)
    (λ below more. joined (length ids) (length head.1) (length below.1) ((head.0.location, head.0.node) ∷ []) (argument_nodes below.0) c more))

background_reads : Reads read.background (λ b. background_nodes (Some b))
background_reads ids d =
    then ids (read.heading (codes "name") ids d) (λ h. (h.location, h.node) ∷ []) (Counted ids (λ b. background_nodes (Some b))) _ (heading_reads (codes "name") ids d)
    (λ head c. then head.1 (nodes_of read.step (codes "steps") head.1 d) (flat_map step_nodes) (Counted ids (λ b. background_nodes (Some b))) _ (nodes_in read.step step_nodes step_reads (codes "steps") head.1 d)
    (λ steps more. joined (length ids) (length head.1) (length steps.1) ((head.0.location, head.0.node) ∷ []) (flat_map step_nodes steps.0) c more))

-- ---- examples

abbrev header_nodes : Option Row → List Node
header_nodes None = []
header_nodes (Some r) = node_of_row r ∷ []

abbrev table_nodes : Option ExampleTable → List Node
table_nodes t = row_nodes (table_rows t)

-- a table without a header has no rows
abbrev HasHeader : Option Row → Items → Type 0
HasHeader (Some r) ds = ⊤
HasHeader None ds = ds ≡ no_items

empty_is : (ds : Items) → is_empty ds ≡ true → ds ≡ no_items
empty_is no_items h = refl
empty_is (item d ds) h = cc

unless_empty : (ds : Items) (b : Bool) → is_empty ds ≡ b → Holds (λ (x : Items). x ≡ no_items) (rule (codes "tableBody") b >>= λ checked. Ok ds)
unless_empty ds true e = empty_is ds e
unless_empty ds false e = tt

rows_below : (o : Option Row) (d : Data) → Holds (HasHeader o) (read.body_rows (is_some o) d)
rows_below (Some r) d =
    past (HasHeader (Some r)) (items_in (codes "tableBody") (present_member (codes "tableBody") d)) _
    (λ rows. past (HasHeader (Some r)) (rule (codes "tableBody") (all_items read.is_object rows)) _ (λ objects. tt))
rows_below None d =
    past (HasHeader None) (items_in (codes "tableBody") (present_member (codes "tableBody") d)) _
    (λ rows. past (HasHeader None) (rule (codes "tableBody") (all_items read.is_object rows)) _ (λ objects. unless_empty rows (is_empty rows) refl))

body_nodes : (o : Option Row) (ids : Ids) (ds : Items) → HasHeader o ds → (before : Ids) → CountsTo (length before) (header_nodes o) (length ids)
    → Holds (Counted before table_nodes) (each_node (node_in (codes "tableBody") read.row) ids ds >>= λ body. Ok (table_of_rows o body.0, body.1))
body_nodes (Some r) ids ds h before c =
    then ids (each_node (node_in (codes "tableBody") read.row) ids ds) row_nodes (Counted before table_nodes) _
    (as_singles node_of_row ids (each_node (node_in (codes "tableBody") read.row) ids ds) (each_in (node_in (codes "tableBody") read.row) one_row (in_node read.row one_row row_reads (codes "tableBody")) ids ds))
    (λ body more. joined (length before) (length ids) (length body.1) (header_nodes (Some r)) (row_nodes body.0) c more)
body_nodes None ids ds h before c =
    subst (λ (xs : Items). Holds (Counted before table_nodes) (each_node (node_in (codes "tableBody") read.row) ids xs >>= λ body. Ok (table_of_rows None body.0, body.1))) (sym h) c

example_table_reads : Reads read.example_table table_nodes
example_table_reads ids d =
    then ids (optional_node read.row (codes "tableHeader") ids d) header_nodes (Counted ids table_nodes) _ (optional_reads read.row header_nodes refl row_reads (codes "tableHeader") ids d)
    (λ header c. after (read.body_rows (is_some header.0) d) (HasHeader header.0) (Counted ids table_nodes) _ (rows_below header.0 d)
    (λ rows has. body_nodes header.0 header.1 rows has ids c))

tagged_reads : Reads read.tagged_heading (λ h. tag_nodes h.tags ++ (h.location, h.node) ∷ [])
tagged_reads ids d =
    past (Counted ids (λ h. tag_nodes h.tags ++ (h.location, h.node) ∷ [])) (read.mark d) _
    (λ own. then ids (nodes_of read.tag (codes "tags") ids d) tag_nodes (Counted ids (λ h. tag_nodes h.tags ++ (h.location, h.node) ∷ [])) _ (tags_read (codes "tags") ids d)
    (λ tags c. past (Counted ids (λ h. tag_nodes h.tags ++ (h.location, h.node) ∷ [])) (read.title (codes "name") d) _
    (λ words. joined (length ids) (length tags.1) (length (tags.1 ++ own.id ∷ [])) (tag_nodes tags.0) ((own.location, length tags.1) ∷ []) c (one_node tags.1 own.id own.location))))

-- what is below a heading comes after it
below : (n k m : ℕ) (tags : List Tag) (x : Node) (xs : List Node) → CountsTo n (tag_nodes tags ++ x ∷ []) k → CountsTo k xs m → CountsTo n (tag_nodes tags ++ x ∷ xs) m
below n k m tags x xs a b = subst (λ (ns : List Node). CountsTo n ns m) (append_assoc (tag_nodes tags) (x ∷ []) xs) (joined n k m (tag_nodes tags ++ x ∷ []) xs a b)

examples_reads : Reads read.examples examples_nodes
examples_reads ids d =
    then ids (read.tagged_heading ids d) (λ h. tag_nodes h.tags ++ (h.location, h.node) ∷ []) (Counted ids examples_nodes) _ (tagged_reads ids d)
    (λ head c. then head.1 (read.example_table head.1 d) table_nodes (Counted ids examples_nodes) _ (example_table_reads head.1 d)
    (λ table more. below (length ids) (length head.1) (length table.1) head.0.tags (head.0.location, head.0.node) (table_nodes table.0) c more))

-- ---- scenarios, rules and features

scenario_reads : Reads read.scenario scenario_nodes
scenario_reads ids d =
    then ids (read.tagged_heading ids d) (λ h. tag_nodes h.tags ++ (h.location, h.node) ∷ []) (Counted ids scenario_nodes) _ (tagged_reads ids d)
    (λ head c. then head.1 (nodes_of read.step (codes "steps") head.1 d) (flat_map step_nodes) (Counted ids scenario_nodes) _ (nodes_in read.step step_nodes step_reads (codes "steps") head.1 d)
    (λ steps more. then steps.1 (nodes_of read.examples (codes "examples") steps.1 d) (flat_map examples_nodes) (Counted ids scenario_nodes) _ (nodes_in read.examples examples_nodes examples_reads (codes "examples") steps.1 d)
    (λ blocks last. below (length ids) (length head.1) (length blocks.1) head.0.tags (head.0.location, head.0.node) (flat_map step_nodes steps.0 ++ flat_map examples_nodes blocks.0) c
    (joined (length head.1) (length steps.1) (length blocks.1) (flat_map step_nodes steps.0) (flat_map examples_nodes blocks.0) more last))))

abbrev child_nodes : Option Background → List Scenario → List Node
child_nodes first scenarios = background_nodes first ++ flat_map scenario_nodes scenarios

body_reads : (ids : Ids) (ds : Items) → IsCountedFrom ids (read.body ids ds) (λ b. child_nodes b.background b.scenarios)
body_reads ids ds =
    then ids (optional_node_in read.background (codes "background") ids (read.background_in ds)) background_nodes (Counted ids (λ b. child_nodes b.background b.scenarios)) _
    (optional_in read.background background_nodes refl background_reads (codes "background") ids (read.background_in ds))
    (λ first c. then first.1 (each_node (node_in (codes "scenario") read.scenario) first.1 (read.children_of (codes "scenario") ds)) (flat_map scenario_nodes) (Counted ids (λ b. child_nodes b.background b.scenarios)) _
    (each_in (node_in (codes "scenario") read.scenario) scenario_nodes (in_node read.scenario scenario_nodes scenario_reads (codes "scenario")) first.1 (read.children_of (codes "scenario") ds))
    (λ scenarios more. joined (length ids) (length first.1) (length scenarios.1) (background_nodes first.0) (flat_map scenario_nodes scenarios.0) c more))

rule_reads : Reads read.rule_node rule_nodes
rule_reads ids d =
    then ids (read.tagged_heading ids d) (λ h. tag_nodes h.tags ++ (h.location, h.node) ∷ []) (Counted ids rule_nodes) _ (tagged_reads ids d)
    (λ head c. past (Counted ids rule_nodes) (read.children_in false d) _
    (λ children. then head.1 (read.body head.1 children) (λ b. child_nodes b.background b.scenarios) (Counted ids rule_nodes) _ (body_reads head.1 children)
    (λ parts more. below (length ids) (length head.1) (length parts.1) head.0.tags (head.0.location, head.0.node) (child_nodes parts.0.background parts.0.scenarios) c more)))

front_reads : Reads read.feature_heading (λ h. tag_nodes h.tags)
front_reads ids d =
    past (Counted ids (λ h. tag_nodes h.tags)) (nested_member read.location (codes "location") d) _
    (λ place. then ids (nodes_of read.tag (codes "tags") ids d) tag_nodes (Counted ids (λ h. tag_nodes h.tags)) _ (tags_read (codes "tags") ids d)
    (λ tags c. past (Counted ids (λ h. tag_nodes h.tags)) (required_member as_str (codes "language") d) _ (λ language. past (Counted ids (λ h. tag_nodes h.tags)) (read.title (codes "name") d) _ (λ words. c))))

abbrev inner_nodes : Option Background → List Scenario → List Rule → List Node
inner_nodes first scenarios rules = background_nodes first ++ (flat_map scenario_nodes scenarios ++ flat_map rule_nodes rules)

feature_body_reads : Reads read.feature_body (λ b. inner_nodes b.body.background b.body.scenarios b.rules)
feature_body_reads ids d =
    past (Counted ids (λ b. inner_nodes b.body.background b.body.scenarios b.rules)) (read.children_in true d) _
    (λ children. then ids (read.body ids children) (λ b. child_nodes b.background b.scenarios) (Counted ids (λ b. inner_nodes b.body.background b.body.scenarios b.rules)) _ (body_reads ids children)
    (λ parts c. then parts.1 (each_node (node_in (codes "rule") read.rule_node) parts.1 (read.children_of (codes "rule") children)) (flat_map rule_nodes) (Counted ids (λ b. inner_nodes b.body.background b.body.scenarios b.rules)) _
    (each_in (node_in (codes "rule") read.rule_node) rule_nodes (in_node read.rule_node rule_nodes rule_reads (codes "rule")) parts.1 (read.children_of (codes "rule") children))
    (λ rules more. subst (λ (ns : List Node). CountsTo (length ids) ns (length rules.1))
    (append_assoc (background_nodes parts.0.background) (flat_map scenario_nodes parts.0.scenarios) (flat_map rule_nodes rules.0))
    (joined (length ids) (length parts.1) (length rules.1) (child_nodes parts.0.background parts.0.scenarios) (flat_map rule_nodes rules.0) c more))))

feature_reads : Reads read.feature (λ f. feature_nodes (Some f))
feature_reads ids d =
    then ids (read.feature_heading ids d) (λ h. tag_nodes h.tags) (Counted ids (λ f. feature_nodes (Some f))) _ (front_reads ids d)
    (λ head c. then head.1 (read.feature_body head.1 d) (λ b. inner_nodes b.body.background b.body.scenarios b.rules) (Counted ids (λ f. feature_nodes (Some f))) _ (feature_body_reads head.1 d)
    (λ parts more. joined (length ids) (length head.1) (length parts.1) (tag_nodes head.0.tags) (inner_nodes parts.0.body.background parts.0.body.scenarios parts.0.rules) c more))

-- the nodes of the document are numbered in order
abbrev pub IsCounted : GherkinDocument → Type 0
IsCounted g = CountsTo 0 (feature_nodes g.document.feature) (length g.ids)

pub document_reads : (d : Data) → Holds IsCounted (read.gherkin_document d)
document_reads d =
    past IsCounted (required_member as_str (codes "uri") d) _
    (λ uri. then [] (optional_node read.feature (codes "feature") [] d) feature_nodes IsCounted _ (optional_reads read.feature feature_nodes refl feature_reads (codes "feature") [] d) (λ top c. c))
