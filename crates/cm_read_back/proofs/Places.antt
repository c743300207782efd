-- The lines of a document, part by part.
use Rattle.std.proofs.Common.{List, [], ◌∷◌, ◌++◌, Option, Some, None, flat_map}
use Rattle.std.specs.Prelude.{⊤}
use Rattle.std.specs.List.{AllByRecursion}
use Rattle.gk_document.specs.declared.tree.Tag.{Tag}
use Rattle.gk_document.specs.declared.tree.Row.{Row}
use Rattle.gk_document.specs.declared.tree.Argument.{Argument}
use Rattle.gk_document.specs.declared.tree.Argument.TheVariants.{Table, Text}
use Rattle.gk_document.specs.declared.tree.Step.{Step}
use Rattle.gk_document.specs.declared.tree.Background.{Background}
use Rattle.gk_document.specs.declared.tree.ExampleTable.{ExampleTable}
use Rattle.gk_document.specs.declared.tree.Examples.{Examples}
use Rattle.gk_document.specs.declared.tree.Scenario.{Scenario}
use Rattle.gk_document.specs.declared.tree.Rule.{Rule}
use Rattle.gk_document.specs.declared.tree.Feature.{Feature}
use Rattle.gk_grammar.specs.Grammar.{Node, tag_nodes, row_nodes, argument_nodes, step_nodes, background_nodes, table_rows, examples_nodes, scenario_nodes, rule_nodes, feature_nodes}
use Rattle.gk_grammar.proofs.Order.{all_both}
use Rattle.gk_pickle.specs.Order.{rule_steps, document_steps}
use Rattle.gk_pickle.specs.Pickles.{background_steps}
use Rattle.cm_read_back.specs.Documents.{HasLine, FeatureHasLine, DocStringHasLine}

-- the nodes and doc strings of each part have such lines
abbrev pub TagsHaveLines : List Tag → Type 0
TagsHaveLines tags = AllByRecursion (λ (t : Tag). HasLine t.location) tags

abbrev pub RowsHaveLines : List Row → Type 0
RowsHaveLines rows = AllByRecursion (λ (r : Row). HasLine r.location) rows

abbrev pub ArgumentHasLines : Option Argument → Type 0
ArgumentHasLines None = ⊤
ArgumentHasLines (Some (Table rows)) = RowsHaveLines rows
ArgumentHasLines (Some (Text d)) = HasLine d.location

abbrev pub StepHasLines : Step → Type 0
StepHasLines s = HasLine s.location × ArgumentHasLines s.argument

abbrev pub BackgroundHasLines : Option Background → Type 0
BackgroundHasLines None = ⊤
BackgroundHasLines (Some b) = HasLine b.location × AllByRecursion StepHasLines b.steps

abbrev pub TableHasLines : Option ExampleTable → Type 0
TableHasLines None = ⊤
TableHasLines (Some t) = HasLine t.header.location × RowsHaveLines t.body

abbrev pub ExamplesHaveLines : Examples → Type 0
ExamplesHaveLines e = HasLine e.location × TagsHaveLines e.tags × TableHasLines e.table

abbrev pub ScenarioHasLines : Scenario → Type 0
ScenarioHasLines s = HasLine s.location × TagsHaveLines s.tags × AllByRecursion StepHasLines s.steps × AllByRecursion ExamplesHaveLines s.examples

abbrev pub RuleHasLines : Rule → Type 0
RuleHasLines r = HasLine r.location × TagsHaveLines r.tags × BackgroundHasLines r.background × AllByRecursion ScenarioHasLines r.scenarios

abbrev pub FeatureHasLines : Option Feature → Type 0
FeatureHasLines None = ⊤
FeatureHasLines (Some f) =
    HasLine f.location × TagsHaveLines f.tags × BackgroundHasLines f.background × AllByRecursion ScenarioHasLines f.scenarios × AllByRecursion RuleHasLines f.rules

-- ---- from the nodes and the steps

pub all_apart : {A : Type 0} (P : A → Type 0) (xs ys : List A) → AllByRecursion P (xs ++ ys) → AllByRecursion P xs × AllByRecursion P ys
all_apart P [] ys h = (tt, h)
all_apart P (x ∷ xs) ys h = let others = all_apart P xs ys h.1 in ((h.0, others.0), others.1)

abbrev NodesFit : List Node → Type 0
NodesFit nodes = AllByRecursion (λ (x : Node). HasLine x.0) nodes

abbrev StepsFit : List Step → Type 0
StepsFit steps = AllByRecursion (λ (s : Step). DocStringHasLine s.argument) steps

nodes_apart : (xs ys : List Node) → NodesFit (xs ++ ys) → NodesFit xs × NodesFit ys
nodes_apart = all_apart (λ (x : Node). HasLine x.0)

steps_apart : (xs ys : List Step) → StepsFit (xs ++ ys) → StepsFit xs × StepsFit ys
steps_apart = all_apart (λ (s : Step). DocStringHasLine s.argument)

tags_from : (ts : List Tag) → NodesFit (tag_nodes ts) → TagsHaveLines ts
tags_from [] n = tt
tags_from (t ∷ ts) n = (n.0, tags_from ts n.1)

rows_from : (rs : List Row) → NodesFit (row_nodes rs) → RowsHaveLines rs
rows_from [] n = tt
rows_from (r ∷ rs) n = (n.0, rows_from rs n.1)

argument_from : (a : Option Argument) → NodesFit (argument_nodes a) → DocStringHasLine a → ArgumentHasLines a
argument_from None n d = tt
argument_from (Some (Table rows)) n d = rows_from rows n
argument_from (Some (Text t)) n d = d

steps_from : (ss : List Step) → NodesFit (flat_map step_nodes ss) → StepsFit ss → AllByRecursion StepHasLines ss
steps_from [] n d = tt
steps_from (s ∷ ss) n d = let p = nodes_apart (step_nodes s) (flat_map step_nodes ss) n in ((p.0.0, argument_from s.argument p.0.1 d.0), steps_from ss p.1 d.1)

background_from : (b : Option Background) → NodesFit (background_nodes b) → StepsFit (background_steps b) → BackgroundHasLines b
background_from None n d = tt
background_from (Some b) n d = (n.0, steps_from b.steps n.1 d)

table_from : (t : Option ExampleTable) → NodesFit (row_nodes (table_rows t)) → TableHasLines t
table_from None n = tt
table_from (Some t) n = (n.0, rows_from t.body n.1)

blocks_from : (es : List Examples) → NodesFit (flat_map examples_nodes es) → AllByRecursion ExamplesHaveLines es
blocks_from [] n = tt
blocks_from (e ∷ es) n =
    let p = nodes_apart (examples_nodes e) (flat_map examples_nodes es) n in
    let q = nodes_apart (tag_nodes e.tags) ((e.location, e.node) ∷ row_nodes (table_rows e.table)) p.0 in
    ((q.1.0, tags_from e.tags q.0, table_from e.table q.1.1), blocks_from es p.1)

scenarios_from : (ss : List Scenario) → NodesFit (flat_map scenario_nodes ss) → StepsFit (flat_map (λ s. s.steps) ss) → AllByRecursion ScenarioHasLines ss
scenarios_from [] n d = tt
scenarios_from (s ∷ ss) n d =
    let p = nodes_apart (scenario_nodes s) (flat_map scenario_nodes ss) n in
    let q = nodes_apart (tag_nodes s.tags) ((s.location, s.node) ∷ (flat_map step_nodes s.steps ++ flat_map examples_nodes s.examples)) p.0 in
    let r = nodes_apart (flat_map step_nodes s.steps) (flat_map examples_nodes s.examples) q.1.1 in
    let steps = steps_apart s.steps (flat_map (λ z. z.steps) ss) d in
    ((q.1.0, tags_from s.tags q.0, steps_from s.steps r.0 steps.0, blocks_from s.examples r.1), scenarios_from ss p.1 steps.1)

rules_from : (rs : List Rule) → NodesFit (flat_map rule_nodes rs) → StepsFit (flat_map rule_steps rs) → AllByRecursion RuleHasLines rs
rules_from [] n d = tt
rules_from (r ∷ rs) n d =
    let p = nodes_apart (rule_nodes r) (flat_map rule_nodes rs) n in
    let q = nodes_apart (tag_nodes r.tags) ((r.location, r.node) ∷ (background_nodes r.background ++ flat_map scenario_nodes r.scenarios)) p.0 in
    let below = nodes_apart (background_nodes r.background) (flat_map scenario_nodes r.scenarios) q.1.1 in
    let steps = steps_apart (rule_steps r) (flat_map rule_steps rs) d in
    let own = steps_apart (background_steps r.background) (flat_map (λ s. s.steps) r.scenarios) steps.0 in
    ((q.1.0, tags_from r.tags q.0, background_from r.background below.0 own.0, scenarios_from r.scenarios below.1 own.1), rules_from rs p.1 steps.1)

pub feature_from : (f : Option Feature) → FeatureHasLine f → NodesFit (feature_nodes f) → StepsFit (document_steps f) → FeatureHasLines f
feature_from None h n d = tt
feature_from (Some f) h n d =
    let p = nodes_apart (tag_nodes f.tags) (background_nodes f.background ++ (flat_map scenario_nodes f.scenarios ++ flat_map rule_nodes f.rules)) n in
    let q = nodes_apart (background_nodes f.background) (flat_map scenario_nodes f.scenarios ++ flat_map rule_nodes f.rules) p.1 in
    let r = nodes_apart (flat_map scenario_nodes f.scenarios) (flat_map rule_nodes f.rules) q.1 in
    let steps = steps_apart (background_steps f.background ++ flat_map (λ s. s.steps) f.scenarios) (flat_map rule_steps f.rules) d in
    let own = steps_apart (background_steps f.background) (flat_map (λ s. s.steps) f.scenarios) steps.0 in
    (h, tags_from f.tags p.0, background_from f.background q.0 own.0, scenarios_from f.scenarios r.0 own.1, rules_from f.rules r.1 steps.1)

-- ---- to the nodes and the steps

nodes_both : (xs ys : List Node) → NodesFit xs → NodesFit ys → NodesFit (xs ++ ys)
nodes_both = all_both (λ (x : Node). HasLine x.0)

steps_both : (xs ys : List Step) → StepsFit xs → StepsFit ys → StepsFit (xs ++ ys)
steps_both = all_both (λ (s : Step). DocStringHasLine s.argument)

tags_to : (ts : List Tag) → TagsHaveLines ts → NodesFit (tag_nodes ts)
tags_to [] h = tt
tags_to (t ∷ ts) h = (h.0, tags_to ts h.1)

rows_to : (rs : List Row) → RowsHaveLines rs → NodesFit (row_nodes rs)
rows_to [] h = tt
rows_to (r ∷ rs) h = (h.0, rows_to rs h.1)

argument_to : (a : Option Argument) → ArgumentHasLines a → NodesFit (argument_nodes a) × DocStringHasLine a
argument_to None h = (tt, tt)
argument_to (Some (Table rows)) h = (rows_to rows h, tt)
argument_to (Some (Text t)) h = (tt, h)

steps_to : (ss : List Step) → AllByRecursion StepHasLines ss → NodesFit (flat_map step_nodes ss) × StepsFit ss
steps_to [] h = (tt, tt)
steps_to (s ∷ ss) h =
    let a = argument_to s.argument h.0.1 in
    let others = steps_to ss h.1 in
    (nodes_both (step_nodes s) (flat_map step_nodes ss) (h.0.0, a.0) others.0, (a.1, others.1))

background_to : (b : Option Background) → BackgroundHasLines b → NodesFit (background_nodes b) × StepsFit (background_steps b)
background_to None h = (tt, tt)
background_to (Some b) h = let steps = steps_to b.steps h.1 in ((h.0, steps.0), steps.1)

table_to : (t : Option ExampleTable) → TableHasLines t → NodesFit (row_nodes (table_rows t))
table_to None h = tt
table_to (Some t) h = (h.0, rows_to t.body h.1)

blocks_to : (es : List Examples) → AllByRecursion ExamplesHaveLines es → NodesFit (flat_map examples_nodes es)
blocks_to [] h = tt
blocks_to (e ∷ es) h =
    let below = row_nodes (table_rows e.table) in
    nodes_both (examples_nodes e) (flat_map examples_nodes es) (nodes_both (tag_nodes e.tags) ((e.location, e.node) ∷ below) (tags_to e.tags h.0.1) (h.0.0, table_to e.table h.0.2)) (blocks_to es h.1)

scenarios_to : (ss : List Scenario) → AllByRecursion ScenarioHasLines ss → NodesFit (flat_map scenario_nodes ss) × StepsFit (flat_map (λ s. s.steps) ss)
scenarios_to [] h = (tt, tt)
scenarios_to (s ∷ ss) h =
    let own = steps_to s.steps h.0.2 in
    let others = scenarios_to ss h.1 in
    let below = nodes_both (flat_map step_nodes s.steps) (flat_map examples_nodes s.examples) own.0 (blocks_to s.examples h.0.3) in
    let here = nodes_both (tag_nodes s.tags) ((s.location, s.node) ∷ (flat_map step_nodes s.steps ++ flat_map examples_nodes s.examples)) (tags_to s.tags h.0.1) (h.0.0, below) in
    (nodes_both (scenario_nodes s) (flat_map scenario_nodes ss) here others.0, steps_both s.steps (flat_map (λ z. z.steps) ss) own.1 others.1)

rules_to : (rs : List Rule) → AllByRecursion RuleHasLines rs → NodesFit (flat_map rule_nodes rs) × StepsFit (flat_map rule_steps rs)
rules_to [] h = (tt, tt)
rules_to (r ∷ rs) h =
    let first = background_to r.background h.0.2 in
    let own = scenarios_to r.scenarios h.0.3 in
    let others = rules_to rs h.1 in
    let below = nodes_both (background_nodes r.background) (flat_map scenario_nodes r.scenarios) first.0 own.0 in
    let here = nodes_both (tag_nodes r.tags) ((r.location, r.node) ∷ (background_nodes r.background ++ flat_map scenario_nodes r.scenarios)) (tags_to r.tags h.0.1) (h.0.0, below) in
    let steps = steps_both (background_steps r.background) (flat_map (λ s. s.steps) r.scenarios) first.1 own.1 in
    (nodes_both (rule_nodes r) (flat_map rule_nodes rs) here others.0, steps_both (rule_steps r) (flat_map rule_steps rs) steps others.1)

pub feature_to : (f : Option Feature) → FeatureHasLines f → FeatureHasLine f × NodesFit (feature_nodes f) × StepsFit (document_steps f)
feature_to None h = (tt, tt, tt)
feature_to (Some f) h =
    let first = background_to f.background h.2 in
    let own = scenarios_to f.scenarios h.3 in
    let rules = rules_to f.rules h.4 in
    let later = nodes_both (flat_map scenario_nodes f.scenarios) (flat_map rule_nodes f.rules) own.0 rules.0 in
    let below = nodes_both (background_nodes f.background) (flat_map scenario_nodes f.scenarios ++ flat_map rule_nodes f.rules) first.0 later in
    let nodes = nodes_both (tag_nodes f.tags) (background_nodes f.background ++ (flat_map scenario_nodes f.scenarios ++ flat_map rule_nodes f.rules)) (tags_to f.tags h.1) below in
    let steps = steps_both (background_steps f.background) (flat_map (λ s. s.steps) f.scenarios) first.1 own.1 in
    (h.0, nodes, steps_both (background_steps f.background ++ flat_map (λ s. s.steps) f.scenarios) (flat_map rule_steps f.rules) steps rules.1)
