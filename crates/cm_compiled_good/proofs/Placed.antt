-- The nodes of a document have the numbers below their count.
use Rattle.std.proofs.Common.{◌≡◌, ℕ, suc, zero, ◌+◌, ◌<◌, ◌≤◌, List, [], ◌∷◌, ◌++◌, Option, Some, None, map, arith, flat_map}
use Rattle.std.specs.List.{AllByRecursion, range_with_len}
use Rattle.gk_document.specs.declared.tree.Cell.{Cell}
use Rattle.gk_document.specs.declared.tree.Tag.{Tag}
use Rattle.gk_document.specs.declared.tree.Row.{Row}
use Rattle.gk_document.specs.declared.tree.Argument.{Argument}
use Rattle.gk_document.specs.declared.tree.Argument.TheVariants.{Table, Text}
use Rattle.gk_document.specs.declared.tree.Step.{Step}
use Rattle.gk_document.specs.declared.tree.Background.{Background}
use Rattle.gk_document.specs.declared.tree.ExampleTable.{ExampleTable}
use Rattle.gk_document.specs.declared.tree.Examples.{Examples}
use Rattle.gk_document.specs.declared.tree.Scenario.{Scenario}
use Rattle.gk_document.specs.declared.tree.Rule.{Rule}
use Rattle.gk_document.specs.declared.tree.Feature.{Feature}
use Rattle.gk_document.specs.declared.tree.Document.{Document}
use Rattle.gk_grammar.specs.Grammar.{Node, tag_nodes, row_nodes, argument_nodes, step_nodes, background_nodes, table_rows, examples_nodes, scenario_nodes, rule_nodes, feature_nodes}
use Rattle.cm_read_back.proofs.Places.{all_apart}
use Rattle.cm_read_back.specs.Documents.{IsNumbered}
use Rattle.cm_compiled_good.proofs.Fine.{below, TagOf, CellOf, RowOf, MediaOf, ArgumentOf, StepOf, BackgroundOf, TableOf, ExamplesOf, ScenarioOf, RuleOf, FeatureOf}

abbrev Below : ℕ → List Node → Type 0
Below n nodes = AllByRecursion (λ (x : Node). x.1 < n) nodes

apart : (n : ℕ) (xs ys : List Node) → Below n (xs ++ ys) → Below n xs × Below n ys
apart n xs ys h = all_apart (λ (x : Node). x.1 < n) xs ys h

each : {A : Type 0} (n : ℕ) (nodes : A → List Node) (P : A → Type 0) → ((x : A) → Below n (nodes x) → P x) → (xs : List A) → Below n (flat_map nodes xs) → AllByRecursion P xs
each n nodes P one [] h = tt
each n nodes P one (x ∷ xs) h = let k = apart n (nodes x) (flat_map nodes xs) h in (one x k.0, each n nodes P one xs k.1)

tags_below : (n : ℕ) (ts : List Tag) → Below n (tag_nodes ts) → AllByRecursion (TagOf (below n)) ts
tags_below n [] h = tt
tags_below n (t ∷ ts) h = ((h.0, tt, tt), tags_below n ts h.1)

cells_below : (n line : ℕ) (cs : List Cell) → AllByRecursion (CellOf (below n) line) cs
cells_below n line [] = tt
cells_below n line (c ∷ cs) = ((tt, tt), cells_below n line cs)

rows_below : (n : ℕ) (rs : List Row) → Below n (row_nodes rs) → AllByRecursion (RowOf (below n)) rs
rows_below n [] h = tt
rows_below n (r ∷ rs) h = ((h.0, tt, cells_below n r.location.line r.cells), rows_below n rs h.1)

any_media : (n : ℕ) (m : Option (List ℕ)) → MediaOf (below n) m
any_media n None = tt
any_media n (Some m) = tt

argument_below : (n : ℕ) (a : Option Argument) → Below n (argument_nodes a) → ArgumentOf (below n) a
argument_below n None h = tt
argument_below n (Some (Table rows)) h = rows_below n rows h
argument_below n (Some (Text d)) h = (tt, any_media n d.media, tt)

step_below : (n : ℕ) (s : Step) → Below n (step_nodes s) → StepOf (below n) s
step_below n s h = (h.0, tt, tt, tt, argument_below n s.argument h.1)

background_below : (n : ℕ) (b : Option Background) → Below n (background_nodes b) → BackgroundOf (below n) b
background_below n None h = tt
background_below n (Some b) h = (h.0, tt, tt, tt, tt, each n step_nodes (StepOf (below n)) (step_below n) b.steps h.1)

table_below : (n : ℕ) (t : Option ExampleTable) → Below n (row_nodes (table_rows t)) → TableOf (below n) t
table_below n None h = tt
table_below n (Some t) h = rows_below n (t.header ∷ t.body) h

examples_below : (n : ℕ) (e : Examples) → Below n (examples_nodes e) → ExamplesOf (below n) e
examples_below n e h =
    let k = apart n (tag_nodes e.tags) ((e.location, e.node) ∷ row_nodes (table_rows e.table)) h in
    (tags_below n e.tags k.0, k.1.0, tt, tt, tt, tt, table_below n e.table k.1.1)

scenario_below : (n : ℕ) (s : Scenario) → Below n (scenario_nodes s) → ScenarioOf (below n) s
scenario_below n s h =
    let k = apart n (tag_nodes s.tags) ((s.location, s.node) ∷ (flat_map step_nodes s.steps ++ flat_map examples_nodes s.examples)) h in
    let inner = apart n (flat_map step_nodes s.steps) (flat_map examples_nodes s.examples) k.1.1 in
    (tags_below n s.tags k.0, k.1.0, tt, tt, tt, tt, each n step_nodes (StepOf (below n)) (step_below n) s.steps inner.0, each n examples_nodes (ExamplesOf (below n)) (examples_below n) s.examples inner.1)

rule_below : (n : ℕ) (r : Rule) → Below n (rule_nodes r) → RuleOf (below n) r
rule_below n r h =
    let k = apart n (tag_nodes r.tags) ((r.location, r.node) ∷ (background_nodes r.background ++ flat_map scenario_nodes r.scenarios)) h in
    let inner = apart n (background_nodes r.background) (flat_map scenario_nodes r.scenarios) k.1.1 in
    (tags_below n r.tags k.0, k.1.0, tt, tt, tt, tt, background_below n r.background inner.0, each n scenario_nodes (ScenarioOf (below n)) (scenario_below n) r.scenarios inner.1)

feature_below : (n : ℕ) (o : Option Feature) → Below n (feature_nodes o) → FeatureOf (below n) o
feature_below n None h = tt
feature_below n (Some f) h =
    let scenarios = flat_map scenario_nodes f.scenarios in
    let rules = flat_map rule_nodes f.rules in
    let k = apart n (tag_nodes f.tags) (background_nodes f.background ++ (scenarios ++ rules)) h in
    let inner = apart n (background_nodes f.background) (scenarios ++ rules) k.1 in
    let parts = apart n scenarios rules inner.1 in (
      tags_below n f.tags k.0,
      tt,
      tt,
      tt,
      tt,
      tt,
      background_below n f.background inner.0,
      each n scenario_nodes (ScenarioOf (below n)) (scenario_below n) f.scenarios parts.0,
      each n rule_nodes (RuleOf (below n)) (rule_below n) f.rules parts.1,
    )

counted : (n a k : ℕ) (nodes : List Node) → map (λ (x : Node). x.1) nodes ≡ range_with_len a k → a + k ≤ n → Below n nodes
counted n a zero [] e h = tt
counted n a zero (x ∷ xs) e h = cc
counted n a (suc k) [] e h = cc
counted n a (suc k) (x ∷ xs) e h =
    let first : x.1 ≡ a = cc in
    let others : map (λ (y : Node). y.1) xs ≡ range_with_len (a + 1) k = cc in
    (omega arith, counted n (a + 1) k xs others (omega arith))

pub nodes_below : (d : Document) → IsNumbered d → FeatureOf (below d.nodes) d.feature
nodes_below d h = feature_below d.nodes d.feature (counted d.nodes 0 d.nodes (feature_nodes d.feature) h (omega arith))
