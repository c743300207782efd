-- Documents are read back.
use Rattle.std.proofs.Common.{◌≡◌, true, ℕ, zero, suc, ◌+◌, List, [], ◌∷◌, ◌++◌, length, map, Option, Some, None, Ok, refl, sym, ap, ◌∙◌, codes, decimal, arith, append_assoc, append-nil, flat_map}
use Rattle.std.proofs.lemmas.List.{map-append}
use Rattle.std.proofs.lemmas.List.FromFn.{length-map-range_with_len}
use Rattle.std.proofs.lemmas.Bool.Decides.{nat_tests}
use Rattle.std.specs.Prelude.{option_map}
use Rattle.std.specs.List.{AllByRecursion, range_with_len}
use Rattle.serde_json.specs.Data.{number, unsigned}
use Rattle.serde_json.specs.View.{items_of}
use Rattle.gk_document.specs.declared.tree.Cell.{Cell}
use Rattle.gk_document.specs.declared.tree.Location.{Location}
use Rattle.gk_document.specs.declared.tree.Tag.{Tag}
use Rattle.gk_document.specs.declared.tree.Row.{Row}
use Rattle.gk_document.specs.declared.tree.DocString.{DocString}
use Rattle.gk_document.specs.declared.tree.Argument.{Argument}
use Rattle.gk_document.specs.declared.tree.Argument.TheVariants.{Table, Text}
use Rattle.gk_document.specs.declared.tree.Step.{Step}
use Rattle.gk_document.specs.declared.tree.Background.{Background}
use Rattle.gk_document.specs.declared.tree.ExampleTable.{ExampleTable}
use Rattle.gk_document.specs.declared.tree.Examples.{Examples}
use Rattle.gk_document.specs.declared.tree.Scenario.{Scenario}
use Rattle.gk_document.specs.declared.tree.Rule.{Rule}
use Rattle.gk_document.specs.declared.tree.Feature.{Feature}
use Rattle.gk_document.specs.declared.tree.Document.{Document}
use Rattle.gk_document.specs.Skeleton.{bare_cell}
use Rattle.gk_grammar.specs.Grammar.{Node, node_of_tag, tag_nodes, node_of_row, row_nodes, step_nodes, background_nodes, examples_nodes, scenario_nodes, rule_nodes, feature_nodes}
use Rattle.gk_grammar.proofs.Complete.{Counts}
use Rattle.cm_messages.specs.DocumentLayout.{cell_data, row_data, tag_data, doc_string_data, step_data, background_data, examples_data, scenario_data, rule_data, feature_data, document_data}
use Rattle.cm_envelope.specs.declared.envelope.Envelope.TheVariants as envelope
use Rattle.cm_envelope.specs.Reading.{envelope_of}
use Rattle.cm_envelope.specs.Member.{all_items, each, object_in}
use Rattle.cm_envelope.specs.Documents.{Ids, each_node, node_in, optional_node_in}
use Rattle.cm_envelope.specs.Documents as read
use Rattle.cm_read_back.specs.Documents.{tag_kept, row_kept, doc_string_kept, step_kept, background_kept, examples_kept, scenario_kept, rule_kept, feature_kept, HasLine, document_read}
use Rattle.cm_read_back.proofs.Places.{feature_from, TagsHaveLines, RowsHaveLines, ArgumentHasLines, StepHasLines, BackgroundHasLines, TableHasLines, ExamplesHaveLines, ScenarioHasLines, RuleHasLines, FeatureHasLines}
use Rattle.cm_read_back.specs.Laws.{DocumentIsReadBack}
use Rattle.cm_read_back.proofs.Children.{feature_in_order, rule_in_order, feature_background, rule_background, feature_scenarios, rule_scenarios, feature_rules}
use Rattle.cm_read_back.proofs.Depths.{document_depth}
use Rattle.cm_read_back.proofs.Lines.{read_as}
use Rattle.cm_read_back.proofs.Orders.{document_order}
use Rattle.cm_read_back.proofs.Lists.{names, each_is, next_one, apart, IsRead, nodes_are, each_one}

-- ---- places, cells and doc strings

line_is : (l : Location) → HasLine l → read.as_line (number (unsigned l.line)) ≡ Some l.line
line_is l h = grind (arith, nat_tests)

cells_are : (line : ℕ) (cs : List Cell) → each (object_in (codes "cells") read.cell) (items_of (map (cell_data line) cs)) ≡ Ok (map bare_cell cs)
cells_are line cs = each_is (object_in (codes "cells") read.cell) (cell_data line) bare_cell (λ c. refl) cs

doc_string_at : (d : DocString) (m : Option (List ℕ)) → HasLine d.location → read.doc_string (doc_string_data (record d { media = m })) ≡ Ok (doc_string_kept (record d { media = m }))
doc_string_at d None h = rw (line_is d.location h) refl
doc_string_at d (Some []) h = rw (line_is d.location h) refl
doc_string_at d (Some (c ∷ cs)) h = rw (line_is d.location h) refl

-- ---- tags and rows

tag_is : IsRead (node_in (codes "tags") read.tag) tag_data (λ t. node_of_tag t ∷ []) tag_kept (λ (t : Tag). HasLine t.location)
tag_is ids t h c = rw (line_is t.location h, ← c.0) refl

tags_are : (ids : Ids) (ts : List Tag) → TagsHaveLines ts → Counts (length ids) (tag_nodes ts) → each_node (node_in (codes "tags") read.tag) ids (items_of (map tag_data ts)) ≡ Ok (map tag_kept ts, ids ++ names (tag_nodes ts))
tags_are = each_one (node_in (codes "tags") read.tag) tag_data node_of_tag tag_kept (λ (t : Tag). HasLine t.location) tag_is

row_is : (name : List ℕ) → IsRead (node_in name read.row) row_data (λ r. node_of_row r ∷ []) row_kept (λ (r : Row). HasLine r.location)
row_is name ids r h c = rw (line_is r.location h, cells_are r.location.line r.cells, ← c.0) refl

rows_are : (name : List ℕ) (ids : Ids) (rs : List Row) → RowsHaveLines rs → Counts (length ids) (row_nodes rs) → each_node (node_in name read.row) ids (items_of (map row_data rs)) ≡ Ok (map row_kept rs, ids ++ names (row_nodes rs))
rows_are name = each_one (node_in name read.row) row_data node_of_row row_kept (λ (r : Row). HasLine r.location) (row_is name)

-- ---- steps

step_at : (ids : Ids) (s : Step) (a : Option Argument) → HasLine s.location → ArgumentHasLines a → Counts (length ids) (step_nodes (record s { argument = a })) →
    node_in (codes "steps") read.step ids (step_data (record s { argument = a })) ≡ Ok (step_kept (record s { argument = a }), ids ++ names (step_nodes (record s { argument = a })))
step_at ids s None l h c = rw (line_is s.location l, ← c.0) refl
step_at ids s (Some (Text d)) l h c = rw (line_is s.location l, doc_string_at d d.media h, ← c.0) refl
step_at ids s (Some (Table rows)) l h c =
    let rows_read = rows_are (codes "rows") (ids ++ decimal s.node ∷ []) rows h (next_one ids (decimal s.node) (row_nodes rows) c.1) in
    rw (line_is s.location l, rows_read, ← c.0) (ap (λ (i : Ids). Ok (step_kept (record s { argument = Some (Table rows) }), i)) (append_assoc ids (decimal s.node ∷ []) (names (row_nodes rows))))

step_is : IsRead (node_in (codes "steps") read.step) step_data step_nodes step_kept StepHasLines
step_is ids s h c = step_at ids s s.argument h.0 h.1 c

steps_are : (ids : Ids) (ss : List Step) → AllByRecursion StepHasLines ss → Counts (length ids) (flat_map step_nodes ss) → each_node (node_in (codes "steps") read.step) ids (items_of (map step_data ss)) ≡ Ok (map step_kept ss, ids ++ names (flat_map step_nodes ss))
steps_are = nodes_are (node_in (codes "steps") read.step) step_data step_nodes step_kept StepHasLines step_is

background_is : (ids : Ids) (b : Option Background) → BackgroundHasLines b → Counts (length ids) (background_nodes b) →
    optional_node_in read.background (codes "background") ids (option_map background_data b) ≡ Ok (option_map background_kept b, ids ++ names (background_nodes b))
background_is ids None h c = ap (λ (i : Ids). Ok (None, i)) (sym (append-nil ids))
background_is ids (Some b) h c =
    let steps = steps_are (ids ++ decimal b.node ∷ []) b.steps h.1 (next_one ids (decimal b.node) (flat_map step_nodes b.steps) c.1) in
    rw (line_is b.location h.0, steps, ← c.0) (ap (λ (i : Ids). Ok (Some (background_kept b), i)) (append_assoc ids (decimal b.node ∷ []) (names (flat_map step_nodes b.steps))))

-- ---- examples, scenarios and rules

-- each row is written as an object
rows_objects : (rs : List Row) → all_items read.is_object (items_of (map row_data rs)) ≡ true
rows_objects [] = refl
rows_objects (r ∷ rs) = rows_objects rs

examples_at : (ids : Ids) (e : Examples) (t : Option ExampleTable) → HasLine e.location → TagsHaveLines e.tags → TableHasLines t → Counts (length ids) (examples_nodes (record e { table = t })) →
    node_in (codes "examples") read.examples ids (examples_data (record e { table = t })) ≡ Ok (examples_kept (record e { table = t }), ids ++ names (examples_nodes (record e { table = t })))
examples_at ids e None l g h c =
    let parts = apart ids (tag_nodes e.tags) ((e.location, e.node) ∷ []) c in
    let tags = tags_are ids e.tags g parts.0 in
    rw (line_is e.location l, tags, ← parts.1.0) (ap (λ (i : Ids). Ok (examples_kept (record e { table = None }), i)) (simp (append_assoc, map-append)))
examples_at ids e (Some t) l g h c =
    let parts = apart ids (tag_nodes e.tags) ((e.location, e.node) ∷ row_nodes (t.header ∷ t.body)) c in
    let tags = tags_are ids e.tags g parts.0 in
    let own = ids ++ names (tag_nodes e.tags) in
    let below = next_one own (decimal e.node) (row_nodes (t.header ∷ t.body)) parts.1.1 in
    let header = row_is (codes "tableHeader") (own ++ decimal e.node ∷ []) t.header h.0 (below.0, tt) in
    let body = rows_are (codes "tableBody") ((own ++ decimal e.node ∷ []) ++ decimal t.header.node ∷ []) t.body h.1 (next_one (own ++ decimal e.node ∷ []) (decimal t.header.node) (row_nodes t.body) below.1) in
    rw (line_is e.location l, tags, header, rows_objects t.body, body, ← parts.1.0) (ap (λ (i : Ids). Ok (examples_kept (record e { table = Some t }), i)) (simp (append_assoc, map-append)))

examples_is : IsRead (node_in (codes "examples") read.examples) examples_data examples_nodes examples_kept ExamplesHaveLines
examples_is ids e h c = examples_at ids e e.table h.0 h.1 h.2 c

blocks_are : (ids : Ids) (es : List Examples) → AllByRecursion ExamplesHaveLines es → Counts (length ids) (flat_map examples_nodes es) →
    each_node (node_in (codes "examples") read.examples) ids (items_of (map examples_data es)) ≡ Ok (map examples_kept es, ids ++ names (flat_map examples_nodes es))
blocks_are = nodes_are (node_in (codes "examples") read.examples) examples_data examples_nodes examples_kept ExamplesHaveLines examples_is

scenario_is : IsRead (node_in (codes "scenario") read.scenario) scenario_data scenario_nodes scenario_kept ScenarioHasLines
scenario_is ids s h c =
    let parts = apart ids (tag_nodes s.tags) ((s.location, s.node) ∷ (flat_map step_nodes s.steps ++ flat_map examples_nodes s.examples)) c in
    let own = ids ++ names (tag_nodes s.tags) in
    let inner = apart (own ++ decimal s.node ∷ []) (flat_map step_nodes s.steps) (flat_map examples_nodes s.examples) (next_one own (decimal s.node) _ parts.1.1) in
    let tags = tags_are ids s.tags h.1 parts.0 in
    let steps = steps_are (own ++ decimal s.node ∷ []) s.steps h.2 inner.0 in
    let blocks = blocks_are ((own ++ decimal s.node ∷ []) ++ names (flat_map step_nodes s.steps)) s.examples h.3 inner.1 in
    rw (line_is s.location h.0, tags, steps, blocks, ← parts.1.0) (ap (λ (i : Ids). Ok (scenario_kept s, i)) (simp (append_assoc, map-append)))

scenarios_are : (ids : Ids) (ss : List Scenario) → AllByRecursion ScenarioHasLines ss → Counts (length ids) (flat_map scenario_nodes ss) →
    each_node (node_in (codes "scenario") read.scenario) ids (items_of (map scenario_data ss)) ≡ Ok (map scenario_kept ss, ids ++ names (flat_map scenario_nodes ss))
scenarios_are = nodes_are (node_in (codes "scenario") read.scenario) scenario_data scenario_nodes scenario_kept ScenarioHasLines scenario_is

rule_is : IsRead (node_in (codes "rule") read.rule_node) rule_data rule_nodes rule_kept RuleHasLines
rule_is ids r h c =
    let parts = apart ids (tag_nodes r.tags) ((r.location, r.node) ∷ (background_nodes r.background ++ flat_map scenario_nodes r.scenarios)) c in
    let own = ids ++ names (tag_nodes r.tags) in
    let inner = apart (own ++ decimal r.node ∷ []) (background_nodes r.background) (flat_map scenario_nodes r.scenarios) (next_one own (decimal r.node) _ parts.1.1) in
    let tags = tags_are ids r.tags h.1 parts.0 in
    let first = background_is (own ++ decimal r.node ∷ []) r.background h.2 inner.0 in
    let scenarios = scenarios_are ((own ++ decimal r.node ∷ []) ++ names (background_nodes r.background)) r.scenarios h.3 inner.1 in
    rw (line_is r.location h.0, tags, rule_in_order r.background r.scenarios, rule_background r.background r.scenarios, first, rule_scenarios r.background r.scenarios, scenarios, ← parts.1.0)
    (ap (λ (i : Ids). Ok (rule_kept r, i)) (simp (append_assoc, map-append)))

rules_are : (ids : Ids) (rs : List Rule) → AllByRecursion RuleHasLines rs → Counts (length ids) (flat_map rule_nodes rs) →
    each_node (node_in (codes "rule") read.rule_node) ids (items_of (map rule_data rs)) ≡ Ok (map rule_kept rs, ids ++ names (flat_map rule_nodes rs))
rules_are = nodes_are (node_in (codes "rule") read.rule_node) rule_data rule_nodes rule_kept RuleHasLines rule_is

-- ---- features and documents

feature_is : (ids : Ids) (f : Feature) → FeatureHasLines (Some f) → Counts (length ids) (feature_nodes (Some f)) →
    node_in (codes "feature") read.feature ids (feature_data f) ≡ Ok (feature_kept f, ids ++ names (feature_nodes (Some f)))
feature_is ids f h c =
    let after_tags = apart ids (tag_nodes f.tags) _ c in
    let own = ids ++ names (tag_nodes f.tags) in
    let after_first = apart own (background_nodes f.background) _ after_tags.1 in
    let inner = own ++ names (background_nodes f.background) in
    let after_scenarios = apart inner (flat_map scenario_nodes f.scenarios) (flat_map rule_nodes f.rules) after_first.1 in
    let tags = tags_are ids f.tags h.1 after_tags.0 in
    let first = background_is own f.background h.2 after_first.0 in
    let scenarios = scenarios_are inner f.scenarios h.3 after_scenarios.0 in
    let rules = rules_are (inner ++ names (flat_map scenario_nodes f.scenarios)) f.rules h.4 after_scenarios.1 in
    let b = f.background in
    rw (
      line_is f.location h.0,
      tags,
      feature_in_order b f.scenarios f.rules,
      feature_background b f.scenarios f.rules,
      first,
      feature_scenarios b f.scenarios f.rules,
      scenarios,
      feature_rules b f.scenarios f.rules,
      rules,
    ) (ap (λ (i : Ids). Ok (feature_kept f, i)) (simp (append_assoc, map-append)))

-- numbers that count up from n
counted : (n k : ℕ) (nodes : List Node) → map (λ (x : Node). x.1) nodes ≡ range_with_len n k → Counts n nodes
counted n zero [] e = tt
counted n zero (x ∷ xs) e = cc
counted n (suc k) [] e = cc
counted n (suc k) (x ∷ xs) e =
    let first : x.1 ≡ n = cc in
    let others : map (λ (y : Node). y.1) xs ≡ range_with_len (n + 1) k = cc in
    (first, counted (n + 1) k xs others)

names_are : (nodes : List Node) → names nodes ≡ map decimal (map (λ (x : Node). x.1) nodes)
names_are [] = refl
names_are (x ∷ xs) = ap (λ (i : Ids). decimal x.1 ∷ i) (names_are xs)

document_at : (uri : List ℕ) (d : Document) (f : Option Feature) → map (λ (x : Node). x.1) (feature_nodes f) ≡ range_with_len 0 d.nodes → FeatureHasLines f →
    envelope_of (document_data uri (record d { feature = f })) ≡ Ok (envelope.GherkinDocument (document_read uri (record d { feature = f })))
unfolding document_data
document_at uri d None e h =
    let ids : [] ≡ map decimal (range_with_len 0 d.nodes) = ap (map decimal) e in
    let count : 0 ≡ d.nodes = ap length ids ∙ length-map-range_with_len decimal 0 d.nodes in
    rw (← ids, ← count) refl
document_at uri d (Some f) e h =
    let top = feature_is [] f h (counted 0 d.nodes _ e) in
    let ids : names (feature_nodes (Some f)) ≡ map decimal (range_with_len 0 d.nodes) = names_are (feature_nodes (Some f)) ∙ ap (map decimal) e in
    let count : length (names (feature_nodes (Some f))) ≡ d.nodes = ap length ids ∙ length-map-range_with_len decimal 0 d.nodes in
    rw (top, count, ids) refl

pub document_is : DocumentIsReadBack
document_is uri d is = read_as (document_data uri d) _ (document_at uri d d.feature is.numbered (feature_from d.feature is.feature is.nodes is.doc_strings)) (document_depth uri d) (document_order uri d)
