-- The document of an envelope that is read of a line has texts of UTF-8, and its lines are of 32 bits.
use Rattle.std.proofs.Common.{◌≡◌, ◌<◌, ℕ, Bool, true, false, cond, List, [], ◌∷◌, ◌++◌, Option, Some, None, Result, Ok, Err, refl, arith, IsUtf8, codes, ◌^◌}
use Rattle.std.specs.Prelude.{⊤, IfOk, IfSome, is_some, nat_lt, not, ◌&&◌, ◌||◌}
use Rattle.std.specs.List.{AllByRecursion}
use Rattle.std.proofs.lemmas.Bool.{and_parts, ltb-true}
use Rattle.std.proofs.lemmas.Str.{IsUtf8-nil}
use Rattle.serde_json.specs.Data.{Data, Items, Members, item, no_items}
use Rattle.serde_json.specs.Find.{as_object, as_str}
use Rattle.gk_document.specs.declared.tree.Cell.{Cell}
use Rattle.gk_document.specs.declared.tree.DocString.{DocString}
use Rattle.gk_document.specs.declared.tree.Location.{Location}
use Rattle.gk_document.specs.declared.tree.Row.{Row}
use Rattle.cm_envelope.specs.declared.envelope.GherkinDocument.{GherkinDocument}
use Rattle.cm_envelope.specs.Documents.{Ids, NodeRead, are_in_order, argument, argument_of, as_line, background, background_in, before_items, body, body_rows, cell, children_in, children_of, data_table, doc_string, each_node, example_table, examples, feature, feature_body, feature_heading, gherkin_document, heading, is_empty, is_object, line_of, location, mark, node_in, nodes_of, optional_node, optional_node_in, row, rule_node, scenario, step, table_of_rows, tag, tagged_heading, title}
use Rattle.cm_envelope.specs.Member.{◌>>=◌, all_items, as_whole_number, good, has_both, items_in, list_of, media_type_member, nested_member, optional_nested_member, present_member, required_member}
use Rattle.cm_shown_laws.proofs.JsonTexts.{HasTexts, ItemsHaveTexts}
use Rattle.cm_compiled_good.proofs.Fine.{Fits64, clean, TagOf, CellOf, RowOf, MediaOf, DocStringOf, ArgumentOf, StepOf, BackgroundOf, TableOf, ExamplesOf, ScenarioOf, RuleOf, FeatureOf}
use Rattle.cm_shown_laws.proofs.Readings.{AreTexts, Finds, Maybe, Reads, bound, chosen, items_read, listed, media_read, nested, optional_nested, present, required, required_text, ruled}

-- ---- nodes, whose ids are UTF-8 too

abbrev Node : {A : Type 0} → NodeRead A → (A → Type 0) → Type 0
Node r P = IfOk r (λ x. P x.0 × AreTexts x.1)

abbrev Nodes : {A : Type 0} → (Ids → Data → NodeRead A) → (A → Type 0) → Type 0
Nodes read P = (ids : Ids) (d : Data) → AreTexts ids → HasTexts d → Node (read ids d) P

bound_node : {A B : Type 0} (r : NodeRead A) (f : A × Ids → Result B (List ℕ)) (P : A → Type 0) (Q : B → Type 0) → Node r P → ((x : A × Ids) → P x.0 → AreTexts x.1 → IfOk (f x) Q) → IfOk (r >>= f) Q
bound_node (Ok x) f P Q h one = one x h.0 h.1
bound_node (Err e) f P Q h one = tt

node_within : {A : Type 0} (read : Ids → Data → NodeRead A) (name : List ℕ) (P : A → Type 0) → Nodes read P → Nodes (node_in name read) P
node_within read name P one ids d u h = go (as_object d)
  where
    go : (o : Option Members) → Node (good name o >>= λ ms. read ids d) P
    go None = tt
    go (Some ms) = one ids d u h

optional_node_there : {A : Type 0} (read : Ids → Data → NodeRead A) (name : List ℕ) (P : A → Type 0) (Q : Option A → Type 0) → Nodes read P → Q None → ((x : A) → P x → Q (Some x)) → (ids : Ids) (o : Option Data) → AreTexts ids → IfSome o HasTexts
    → Node (optional_node_in read name ids o) Q
optional_node_there read name P Q one none some ids None u h = (none, u)
optional_node_there read name P Q one none some ids (Some d) u h = bound_node (node_in name read ids d) _ P (λ x. Q x.0 × AreTexts x.1) (node_within read name P one ids d u h) (λ x k v. (some x.0 k, v))

optional_node_read : {A : Type 0} (read : Ids → Data → NodeRead A) (name : List ℕ) (P : A → Type 0) (Q : Option A → Type 0) → Nodes read P → Q None → ((x : A) → P x → Q (Some x)) → (ids : Ids) (d : Data) → AreTexts ids → HasTexts d
    → Node (optional_node read name ids d) Q
optional_node_read {A} read name P Q one none some ids d u h = optional_node_there read name P Q one none some ids (present_member name d) u (present name d h)

each_node_read : {A : Type 0} (read : Ids → Data → NodeRead A) (P : A → Type 0) → Nodes read P → (ids : Ids) (ds : Items) → AreTexts ids → ItemsHaveTexts ds → Node (each_node read ids ds) (AllByRecursion P)
each_node_read read P one ids no_items u h = (tt, u)
each_node_read read P one ids (item d ds) u h =
    bound_node (read ids d) _ P (λ x. AllByRecursion P x.0 × AreTexts x.1) (one ids d u h.0)
    (λ x k v. bound_node (each_node read x.1 ds) _ (AllByRecursion P) (λ x. AllByRecursion P x.0 × AreTexts x.1) (each_node_read read P one x.1 ds v h.1) (λ xs ks w. ((k, ks), w)))

nodes_read : {A : Type 0} (read : Ids → Data → NodeRead A) (name : List ℕ) (P : A → Type 0) → Nodes read P → Nodes (nodes_of read name) (AllByRecursion P)
nodes_read read name P one ids d u h =
    bound (items_in name (present_member name d)) (each_node (node_in name read) ids) ItemsHaveTexts (λ x. AllByRecursion P x.0 × AreTexts x.1) (items_read name (present_member name d) (present name d h))
    (λ ds k. each_node_read (node_in name read) P (node_within read name P one) ids ds u k)

more_ids : (ids : Ids) (id : List ℕ) → AreTexts ids → IsUtf8 id → AreTexts (ids ++ id ∷ [])
more_ids [] id u v = (v, tt)
more_ids (x ∷ ids) id u v = (u.0, more_ids ids id u.1 v)

-- ---- places and tags

abbrev Placed : Location → Type 0
Placed l = Fits64 l.line × Fits64 l.column

line_fits : (n : ℕ) → IfSome (line_of n) Fits64
line_fits n = go (nat_lt 0 n && nat_lt n (2 ^ 32)) refl
  where
    go : (b : Bool) → (nat_lt 0 n && nat_lt n (2 ^ 32)) ≡ b → IfSome (cond b (Some n) None) Fits64
    go true e = let small : n < 2 ^ 32 = ltb-true n (2 ^ 32) (and_parts (nat_lt 0 n) _ e).1 in omega arith
    go false e = tt

line_read : Finds as_line Fits64
line_read d h = chosen (as_whole_number d) line_of (λ n. ⊤) Fits64 (any (as_whole_number d)) (λ n k. line_fits n)
  where
    any : (o : Option ℕ) → IfSome o (λ n. ⊤)
    any None = tt
    any (Some n) = tt

location_read : Reads location Placed
location_read d h = bound (required_member as_line (codes "line") d) _ Fits64 Placed (required as_line (codes "line") Fits64 line_read d h) (λ n k. (k, omega arith))

mark_read : Reads mark (λ m. IsUtf8 m.id × Placed m.location)
mark_read d h =
    bound (required_member as_str (codes "id") d) _ IsUtf8 (λ m. IsUtf8 m.id × Placed m.location) (required_text (codes "id") d h)
    (λ id u. bound (nested_member location (codes "location") d) _ Placed (λ m. IsUtf8 m.id × Placed m.location) (nested location (codes "location") Placed location_read d h) (λ l p. (u, p)))

tag_read : Nodes tag (TagOf clean)
tag_read ids d u h =
    bound (mark d) _ (λ m. IsUtf8 m.id × Placed m.location) (λ x. TagOf clean x.0 × AreTexts x.1) (mark_read d h)
    (λ own m. bound (required_member as_str (codes "name") d) _ IsUtf8 (λ x. TagOf clean x.0 × AreTexts x.1) (required_text (codes "name") d h) (λ name t. ((tt, t, m.1), more_ids ids own.id u m.0)))

-- ---- rows, tables and doc strings

abbrev CellRead : Cell → Type 0
CellRead c = IsUtf8 c.value × Fits64 c.column

cell_read : Reads cell CellRead
cell_read d h = bound (required_member as_str (codes "value") d) _ IsUtf8 CellRead (required_text (codes "value") d h) (λ value u. (u, omega arith))

on_line : (n : ℕ) (cs : List Cell) → Fits64 n → AllByRecursion CellRead cs → AllByRecursion (CellOf clean n) cs
on_line n [] h k = tt
on_line n (c ∷ cs) h k = ((k.0.0, (h, k.0.1)), on_line n cs h k.1)

row_read : Nodes row (RowOf clean)
row_read ids d u h =
    bound (mark d) _ (λ m. IsUtf8 m.id × Placed m.location) (λ x. RowOf clean x.0 × AreTexts x.1) (mark_read d h)
    (λ own m. bound (list_of cell (codes "cells") d) _ (AllByRecursion CellRead) (λ x. RowOf clean x.0 × AreTexts x.1) (listed cell (codes "cells") CellRead cell_read d h)
    (λ cells k. ((tt, m.1, on_line own.location.line cells m.1.0 k), more_ids ids own.id u m.0)))

data_table_read : Nodes data_table (λ t. AllByRecursion (RowOf clean) t.rows)
data_table_read ids d u h =
    bound_node (nodes_of row (codes "rows") ids d) _ (AllByRecursion (RowOf clean)) (λ x. AllByRecursion (RowOf clean) x.0.rows × AreTexts x.1) (nodes_read row (codes "rows") (RowOf clean) row_read ids d u h) (λ rows k v. (k, v))

doc_string_read : Reads doc_string (DocStringOf clean)
doc_string_read d h =
    bound (nested_member location (codes "location") d) _ Placed (DocStringOf clean) (nested location (codes "location") Placed location_read d h)
    (λ place p. bound (required_member as_str (codes "content") d) _ IsUtf8 (DocStringOf clean) (required_text (codes "content") d h)
    (λ content c. bound (media_type_member d) _ (MediaOf clean) (DocStringOf clean) (media_read d h) (λ media m. (p, m, c))))

-- without a table the argument of a step is the doc string, if there is one
without_table : (o : Option DocString) → Maybe (DocStringOf clean) o → ArgumentOf clean (argument_of None o)
without_table None h = tt
without_table (Some d) h = h

argument_read : Nodes argument (ArgumentOf clean)
argument_read ids d u h =
    bound_node (optional_node data_table (codes "dataTable") ids d) _ (λ o. (s : Option DocString) → Maybe (DocStringOf clean) s → ArgumentOf clean (argument_of o s)) (λ x. ArgumentOf clean x.0 × AreTexts x.1)
    (optional_node_read data_table (codes "dataTable") (λ t. AllByRecursion (RowOf clean) t.rows) (λ o. (s : Option DocString) → Maybe (DocStringOf clean) s → ArgumentOf clean (argument_of o s)) data_table_read without_table (λ t k s m. k) ids d u h)
    (λ table below v. ruled (codes "docString") (not (has_both (codes "dataTable") (codes "docString") d)) _ (λ x. ArgumentOf clean x.0 × AreTexts x.1)
    (bound (optional_nested_member doc_string (codes "docString") d) _ (Maybe (DocStringOf clean)) (λ x. ArgumentOf clean x.0 × AreTexts x.1) (optional_nested doc_string (codes "docString") (DocStringOf clean) doc_string_read d h)
    (λ content k. (below content k, v))))

-- ---- headings

title_read : (name : List ℕ) → Reads (title name) (λ t. IsUtf8 t.keyword × IsUtf8 t.text)
title_read name d h =
    bound (required_member as_str (codes "keyword") d) _ IsUtf8 (λ t. IsUtf8 t.keyword × IsUtf8 t.text) (required_text (codes "keyword") d h)
    (λ keyword k. bound (required_member as_str name d) _ IsUtf8 (λ t. IsUtf8 t.keyword × IsUtf8 t.text) (required_text name d h) (λ text t. (k, t)))

heading_read : (name : List ℕ) → Nodes (heading name) (λ x. Placed x.location × IsUtf8 x.title.keyword × IsUtf8 x.title.text)
heading_read name ids d u h =
    bound (mark d) _ (λ m. IsUtf8 m.id × Placed m.location) _ (mark_read d h)
    (λ own m. bound (title name d) _ (λ t. IsUtf8 t.keyword × IsUtf8 t.text) _ (title_read name d h) (λ words t. ((m.1, t.0, t.1), more_ids ids own.id u m.0)))

step_read : Nodes step (StepOf clean)
step_read ids d u h =
    bound_node (heading (codes "text") ids d) _ (λ x. Placed x.location × IsUtf8 x.title.keyword × IsUtf8 x.title.text) (λ x. StepOf clean x.0 × AreTexts x.1) (heading_read (codes "text") ids d u h)
    (λ head k v. bound_node (argument head.1 d) _ (ArgumentOf clean) (λ x. StepOf clean x.0 × AreTexts x.1) (argument_read head.1 d v h) (λ below a w. ((tt, k.0, k.1, k.2, a), w)))

background_read : Nodes background (λ b. BackgroundOf clean (Some b))
background_read ids d u h =
    bound_node (heading (codes "name") ids d) _ (λ x. Placed x.location × IsUtf8 x.title.keyword × IsUtf8 x.title.text) (λ x. BackgroundOf clean (Some x.0) × AreTexts x.1) (heading_read (codes "name") ids d u h)
    (λ head k v. bound_node (nodes_of step (codes "steps") head.1 d) _ (AllByRecursion (StepOf clean)) (λ x. BackgroundOf clean (Some x.0) × AreTexts x.1) (nodes_read step (codes "steps") (StepOf clean) step_read head.1 d v h)
    (λ steps s w. ((tt, k.0, k.1, k.2, IsUtf8-nil, s), w)))

tagged_heading_read : Nodes tagged_heading (λ x. Placed x.location × AllByRecursion (TagOf clean) x.tags × IsUtf8 x.title.keyword × IsUtf8 x.title.text)
tagged_heading_read ids d u h =
    bound (mark d) _ (λ m. IsUtf8 m.id × Placed m.location) _ (mark_read d h)
    (λ own m. bound_node (nodes_of tag (codes "tags") ids d) _ (AllByRecursion (TagOf clean)) _ (nodes_read tag (codes "tags") (TagOf clean) tag_read ids d u h)
    (λ tags g v. bound (title (codes "name") d) _ (λ t. IsUtf8 t.keyword × IsUtf8 t.text) _ (title_read (codes "name") d h) (λ words t. ((m.1, g, t.0, t.1), more_ids tags.1 own.id v m.0))))

-- ---- examples

table_is : (header : Option Row) (body : List Row) → Maybe (RowOf clean) header → AllByRecursion (RowOf clean) body → TableOf clean (table_of_rows header body)
table_is None body h k = tt
table_is (Some header) body h k = (h, k)

body_rows_read : (b : Bool) → Reads (body_rows b) ItemsHaveTexts
body_rows_read b d h =
    bound (items_in (codes "tableBody") (present_member (codes "tableBody") d)) _ ItemsHaveTexts ItemsHaveTexts (items_read (codes "tableBody") (present_member (codes "tableBody") d) (present (codes "tableBody") d h))
    (λ rows k. ruled (codes "tableBody") (all_items is_object rows) _ ItemsHaveTexts (ruled (codes "tableBody") (b || is_empty rows) (Ok rows) ItemsHaveTexts k))

example_table_read : Nodes example_table (TableOf clean)
example_table_read ids d u h =
    bound_node (optional_node row (codes "tableHeader") ids d) _ (Maybe (RowOf clean)) (λ x. TableOf clean x.0 × AreTexts x.1)
    (optional_node_read row (codes "tableHeader") (RowOf clean) (Maybe (RowOf clean)) row_read tt (λ x k. k) ids d u h)
    (λ header k v. bound (body_rows (is_some header.0) d) _ ItemsHaveTexts (λ x. TableOf clean x.0 × AreTexts x.1) (body_rows_read (is_some header.0) d h)
    (λ rows r. bound_node (each_node (node_in (codes "tableBody") row) header.1 rows) _ (AllByRecursion (RowOf clean)) (λ x. TableOf clean x.0 × AreTexts x.1)
    (each_node_read (node_in (codes "tableBody") row) (RowOf clean) (node_within row (codes "tableBody") (RowOf clean) row_read) header.1 rows v r) (λ body b w. (table_is header.0 body.0 k b, w))))

examples_read : Nodes examples (ExamplesOf clean)
examples_read ids d u h =
    bound_node (tagged_heading ids d) _ (λ x. Placed x.location × AllByRecursion (TagOf clean) x.tags × IsUtf8 x.title.keyword × IsUtf8 x.title.text) (λ x. ExamplesOf clean x.0 × AreTexts x.1) (tagged_heading_read ids d u h)
    (λ head k v. bound_node (example_table head.1 d) _ (TableOf clean) (λ x. ExamplesOf clean x.0 × AreTexts x.1) (example_table_read head.1 d v h) (λ table t w. ((k.1, tt, k.0, k.2, k.3, IsUtf8-nil, t), w)))

-- ---- scenarios

scenario_read : Nodes scenario (ScenarioOf clean)
scenario_read ids d u h =
    bound_node (tagged_heading ids d) _ (λ x. Placed x.location × AllByRecursion (TagOf clean) x.tags × IsUtf8 x.title.keyword × IsUtf8 x.title.text) (λ x. ScenarioOf clean x.0 × AreTexts x.1) (tagged_heading_read ids d u h)
    (λ head k v. bound_node (nodes_of step (codes "steps") head.1 d) _ (AllByRecursion (StepOf clean)) (λ x. ScenarioOf clean x.0 × AreTexts x.1) (nodes_read step (codes "steps") (StepOf clean) step_read head.1 d v h)
    (λ steps s w. bound_node (nodes_of examples (codes "examples") steps.1 d) _ (AllByRecursion (ExamplesOf clean)) (λ x. ScenarioOf clean x.0 × AreTexts x.1) (nodes_read examples (codes "examples") (ExamplesOf clean) examples_read steps.1 d w h)
    (λ blocks b z. ((k.1, tt, k.0, k.2, k.3, IsUtf8-nil, s, b), z))))

-- ---- children

before_texts : (o : Option Data) (ds : Items) → IfSome o HasTexts → ItemsHaveTexts ds → ItemsHaveTexts (before_items o ds)
before_texts None ds h k = k
before_texts (Some d) ds h k = (h, k)

children_texts : (name : List ℕ) (ds : Items) → ItemsHaveTexts ds → ItemsHaveTexts (children_of name ds)
children_texts name no_items h = tt
children_texts name (item d ds) h = before_texts (present_member name d) (children_of name ds) (present name d h.0) (children_texts name ds h.1)

background_texts : (ds : Items) → ItemsHaveTexts ds → IfSome (background_in ds) HasTexts
background_texts no_items h = tt
background_texts (item d ds) h = present (codes "background") d h.0

children_read : (in_feature : Bool) → Reads (children_in in_feature) ItemsHaveTexts
children_read in_feature d h =
    bound (items_in (codes "children") (present_member (codes "children") d)) _ ItemsHaveTexts ItemsHaveTexts (items_read (codes "children") (present_member (codes "children") d) (present (codes "children") d h))
    (λ children k. ruled (codes "children") (are_in_order in_feature 0 children) (Ok children) ItemsHaveTexts k)

body_read : (ids : Ids) (ds : Items) → AreTexts ids → ItemsHaveTexts ds → Node (body ids ds) (λ b. BackgroundOf clean b.background × AllByRecursion (ScenarioOf clean) b.scenarios)
body_read ids ds u h =
    bound_node (optional_node_in background (codes "background") ids (background_in ds)) _ (BackgroundOf clean) _
    (optional_node_there background (codes "background") (λ x. BackgroundOf clean (Some x)) (BackgroundOf clean) background_read tt (λ x k. k) ids (background_in ds) u (background_texts ds h))
    (λ first k v. bound_node (each_node (node_in (codes "scenario") scenario) first.1 (children_of (codes "scenario") ds)) _ (AllByRecursion (ScenarioOf clean)) _
    (each_node_read (node_in (codes "scenario") scenario) (ScenarioOf clean) (node_within scenario (codes "scenario") (ScenarioOf clean) scenario_read) first.1 (children_of (codes "scenario") ds) v (children_texts (codes "scenario") ds h))
    (λ scenarios s w. ((k, s), w)))

rule_read : Nodes rule_node (RuleOf clean)
rule_read ids d u h =
    bound_node (tagged_heading ids d) _ (λ x. Placed x.location × AllByRecursion (TagOf clean) x.tags × IsUtf8 x.title.keyword × IsUtf8 x.title.text) (λ x. RuleOf clean x.0 × AreTexts x.1) (tagged_heading_read ids d u h)
    (λ head k v. bound (children_in false d) _ ItemsHaveTexts (λ x. RuleOf clean x.0 × AreTexts x.1) (children_read false d h)
    (λ children c. bound_node (body head.1 children) _ (λ b. BackgroundOf clean b.background × AllByRecursion (ScenarioOf clean) b.scenarios) (λ x. RuleOf clean x.0 × AreTexts x.1) (body_read head.1 children v c)
    (λ parts p w. ((k.1, tt, k.0, k.2, k.3, IsUtf8-nil, p.0, p.1), w))))

-- ---- the whole

feature_heading_read : Nodes feature_heading (λ x. Placed x.location × AllByRecursion (TagOf clean) x.tags × IsUtf8 x.language × IsUtf8 x.title.keyword × IsUtf8 x.title.text)
feature_heading_read ids d u h =
    bound (nested_member location (codes "location") d) _ Placed _ (nested location (codes "location") Placed location_read d h)
    (λ place p. bound_node (nodes_of tag (codes "tags") ids d) _ (AllByRecursion (TagOf clean)) _ (nodes_read tag (codes "tags") (TagOf clean) tag_read ids d u h)
    (λ tags g v. bound (required_member as_str (codes "language") d) _ IsUtf8 _ (required_text (codes "language") d h)
    (λ language l. bound (title (codes "name") d) _ (λ t. IsUtf8 t.keyword × IsUtf8 t.text) _ (title_read (codes "name") d h) (λ words t. ((p, g, l, t.0, t.1), v)))))

feature_body_read : Nodes feature_body (λ x. BackgroundOf clean x.body.background × AllByRecursion (ScenarioOf clean) x.body.scenarios × AllByRecursion (RuleOf clean) x.rules)
feature_body_read ids d u h =
    bound (children_in true d) _ ItemsHaveTexts _ (children_read true d h)
    (λ children c. bound_node (body ids children) _ (λ b. BackgroundOf clean b.background × AllByRecursion (ScenarioOf clean) b.scenarios) _ (body_read ids children u c)
    (λ parts p v. bound_node (each_node (node_in (codes "rule") rule_node) parts.1 (children_of (codes "rule") children)) _ (AllByRecursion (RuleOf clean)) _
    (each_node_read (node_in (codes "rule") rule_node) (RuleOf clean) (node_within rule_node (codes "rule") (RuleOf clean) rule_read) parts.1 (children_of (codes "rule") children) v (children_texts (codes "rule") children c))
    (λ rules r w. ((p.0, p.1, r), w))))

feature_read : Nodes feature (λ f. FeatureOf clean (Some f))
feature_read ids d u h =
    bound_node (feature_heading ids d) _ (λ x. Placed x.location × AllByRecursion (TagOf clean) x.tags × IsUtf8 x.language × IsUtf8 x.title.keyword × IsUtf8 x.title.text) (λ x. FeatureOf clean (Some x.0) × AreTexts x.1) (feature_heading_read ids d u h)
    (λ head k v. bound_node (feature_body head.1 d) _ (λ x. BackgroundOf clean x.body.background × AllByRecursion (ScenarioOf clean) x.body.scenarios × AllByRecursion (RuleOf clean) x.rules) (λ x. FeatureOf clean (Some x.0) × AreTexts x.1) (feature_body_read head.1 d v h)
    (λ below b w. ((k.1, k.0, k.3, k.4, IsUtf8-nil, k.2, b.0, b.1, b.2), w)))

-- the document of an envelope has texts of UTF-8 and places of 64 bits, and the ids of its nodes are UTF-8
pub record DocumentFine (g : GherkinDocument) : Type 0 where
  pub uri : IsUtf8 g.uri
  pub feature : FeatureOf clean g.document.feature
  pub ids : AreTexts g.ids

pub document_read : Reads gherkin_document DocumentFine
document_read d h =
    bound (required_member as_str (codes "uri") d) _ IsUtf8 DocumentFine (required_text (codes "uri") d h)
    (λ uri u. bound_node (optional_node feature (codes "feature") [] d) _ (FeatureOf clean) DocumentFine
    (optional_node_read feature (codes "feature") (λ x. FeatureOf clean (Some x)) (FeatureOf clean) feature_read tt (λ x k. k) [] d tt h)
    (λ top k v. record { uri = u; feature = k; ids = v }))
