-- What is asked of the numbers of nodes, the texts and the places in a document and in its pickles.
use Rattle.std.specs.Prelude.{◌<◌, ⊤, ℕ, List, [], ◌∷◌, Option, Some, None}
use Rattle.std.specs.List.{AllByRecursion}
use Rattle.std.specs.Str.{IsUtf8}
use Rattle.gk_document.specs.declared.tree.Cell.{Cell}
use Rattle.gk_document.specs.declared.tree.Location.{Location}
use Rattle.gk_document.specs.declared.tree.Tag.{Tag}
use Rattle.gk_document.specs.declared.tree.Row.{Row}
use Rattle.gk_document.specs.declared.tree.DocString.{DocString}
use Rattle.gk_document.specs.declared.tree.Argument.{Argument}
use Rattle.gk_document.specs.declared.tree.Argument.TheVariants as below_step
use Rattle.gk_document.specs.declared.tree.Step.{Step}
use Rattle.gk_document.specs.declared.tree.Background.{Background}
use Rattle.gk_document.specs.declared.tree.ExampleTable.{ExampleTable}
use Rattle.gk_document.specs.declared.tree.Examples.{Examples}
use Rattle.gk_document.specs.declared.tree.Scenario.{Scenario}
use Rattle.gk_document.specs.declared.tree.Rule.{Rule}
use Rattle.gk_document.specs.declared.tree.Feature.{Feature}
use Rattle.gk_pickle.specs.declared.pickles.PickleTag.{PickleTag}
use Rattle.gk_pickle.specs.declared.pickles.PickleArgument.{PickleArgument}
use Rattle.gk_pickle.specs.declared.pickles.PickleArgument.TheVariants.{Table, Text}
use Rattle.gk_pickle.specs.declared.pickles.PickleStep.{PickleStep}
use Rattle.gk_pickle.specs.declared.pickles.Pickle.{Pickle}

-- of each number of a node, of each text, and of each place
pub record Wanted : Type 1 where
  pub node : ℕ → Type 0
  pub text : List ℕ → Type 0
  pub place : Location → Type 0

-- the nodes are of the first n
abbrev pub below : ℕ → Wanted
below n = record { node = λ k. k < n; text = λ t. ⊤; place = λ l. ⊤ }

-- ---- pickles

abbrev pub TagFine : Wanted → PickleTag → Type 0
TagFine w t = w.node t.node × w.text t.name

-- a media type isn't empty
abbrev pub MediaFine : Wanted → Option (List ℕ) → Type 0
MediaFine w None = ⊤
MediaFine w (Some []) = ⊥
MediaFine w (Some (b ∷ bs)) = w.text (b ∷ bs)

abbrev pub ArgumentFine : Wanted → Option PickleArgument → Type 0
ArgumentFine w None = ⊤
ArgumentFine w (Some (Table rows)) = AllByRecursion (AllByRecursion w.text) rows
ArgumentFine w (Some (Text d)) = MediaFine w d.media × w.text d.content

abbrev pub StepFine : Wanted → PickleStep → Type 0
StepFine w s = w.text s.text × AllByRecursion w.node s.nodes × ArgumentFine w s.argument

abbrev pub PickleFine : Wanted → Pickle → Type 0
PickleFine w p = w.text p.name × AllByRecursion w.node p.nodes × AllByRecursion (TagFine w) p.tags × AllByRecursion (StepFine w) p.steps

-- ---- documents

abbrev pub TagOf : Wanted → Tag → Type 0
TagOf w t = w.node t.node × w.text t.name × w.place t.location

-- a cell, on this line
abbrev pub CellOf : Wanted → ℕ → Cell → Type 0
CellOf w line c = w.text c.value × w.place (record { line = line; column = c.column })

abbrev pub RowOf : Wanted → Row → Type 0
RowOf w r = w.node r.node × w.place r.location × AllByRecursion (CellOf w r.location.line) r.cells

abbrev pub MediaOf : Wanted → Option (List ℕ) → Type 0
MediaOf w None = ⊤
MediaOf w (Some m) = w.text m

abbrev pub DocStringOf : Wanted → DocString → Type 0
DocStringOf w d = w.place d.location × MediaOf w d.media × w.text d.content

abbrev pub ArgumentOf : Wanted → Option Argument → Type 0
ArgumentOf w None = ⊤
ArgumentOf w (Some (below_step.Table rows)) = AllByRecursion (RowOf w) rows
ArgumentOf w (Some (below_step.Text d)) = DocStringOf w d

abbrev pub StepOf : Wanted → Step → Type 0
StepOf w s = w.node s.node × w.place s.location × w.text s.keyword × w.text s.text × ArgumentOf w s.argument

abbrev pub BackgroundOf : Wanted → Option Background → Type 0
BackgroundOf w None = ⊤
BackgroundOf w (Some b) = w.node b.node × w.place b.location × w.text b.keyword × w.text b.name × w.text b.description × AllByRecursion (StepOf w) b.steps

abbrev pub TableOf : Wanted → Option ExampleTable → Type 0
TableOf w None = ⊤
TableOf w (Some t) = RowOf w t.header × AllByRecursion (RowOf w) t.body

abbrev pub ExamplesOf : Wanted → Examples → Type 0
ExamplesOf w e = AllByRecursion (TagOf w) e.tags × w.node e.node × w.place e.location × w.text e.keyword × w.text e.name × w.text e.description × TableOf w e.table

abbrev pub ScenarioOf : Wanted → Scenario → Type 0
ScenarioOf w s =
    AllByRecursion (TagOf w) s.tags × w.node s.node × w.place s.location × w.text s.keyword × w.text s.name × w.text s.description
    × AllByRecursion (StepOf w) s.steps × AllByRecursion (ExamplesOf w) s.examples

abbrev pub RuleOf : Wanted → Rule → Type 0
RuleOf w r =
    AllByRecursion (TagOf w) r.tags × w.node r.node × w.place r.location × w.text r.keyword × w.text r.name × w.text r.description
    × BackgroundOf w r.background × AllByRecursion (ScenarioOf w) r.scenarios

abbrev pub FeatureOf : Wanted → Option Feature → Type 0
FeatureOf w None = ⊤
FeatureOf w (Some f) =
    AllByRecursion (TagOf w) f.tags × w.place f.location × w.text f.keyword × w.text f.name × w.text f.description × w.text f.language
    × BackgroundOf w f.background × AllByRecursion (ScenarioOf w) f.scenarios × AllByRecursion (RuleOf w) f.rules

-- texts of UTF-8, and places of 64 bits
abbrev pub Fits64 : ℕ → Type 0
Fits64 n = n < 18446744073709551616

abbrev pub clean : Wanted
clean = record { node = λ n. ⊤; text = IsUtf8; place = λ l. Fits64 l.line × Fits64 l.column }
