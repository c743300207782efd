-- A scenario without placeholders compiles alike for each row.
use Rattle.std.specs.Prelude.{◌≡◌, ℕ, List, [], ◌∷◌, ◌++◌, map, Option}
use Rattle.std.specs.List.{flat_map, AllByRecursion}
use Rattle.std.specs.Option.{option_to_list}
use Rattle.gk_document.specs.declared.tree.Cell.{Cell}
use Rattle.gk_document.specs.declared.tree.Tag.{Tag}
use Rattle.gk_document.specs.declared.tree.Row.{Row}
use Rattle.gk_document.specs.declared.tree.Argument.{Argument}
use Rattle.gk_document.specs.declared.tree.Argument.TheVariants as argument
use Rattle.gk_document.specs.declared.tree.Step.{Step}
use Rattle.gk_document.specs.declared.tree.Scenario.{Scenario}
use Rattle.gk_pickle.specs.declared.pickles.StepType.{StepType}
use Rattle.gk_pickle.specs.declared.pickles.PickleArgument.{PickleArgument}
use Rattle.gk_pickle.specs.declared.pickles.PickleStep.{PickleStep}
use Rattle.gk_pickle.specs.declared.pickles.Pickle.{Pickle}
use Rattle.gk_pickle.specs.Inheritance.{Inheritance}
use Rattle.gk_pickle.specs.Cut.{Lacks}
use Rattle.gk_pickle.specs.Fill.{placeholder}
use Rattle.gk_pickle.specs.Pickles.{pickle_of, row_filling}

-- the texts of a scenario that a row fills
abbrev pub argument_texts : Argument → List (List ℕ)
argument_texts (argument.Table rows) = flat_map (λ row. map (λ c. c.value) row.cells) rows
argument_texts (argument.Text d) = option_to_list d.media ++ d.content ∷ []

abbrev pub step_texts : Step → List (List ℕ)
step_texts s = s.text ∷ flat_map argument_texts (option_to_list s.argument)

abbrev pub scenario_texts : Scenario → List (List ℕ)
scenario_texts s = s.name ∷ flat_map step_texts s.steps

-- no cell of the header has its placeholder in the text
abbrev pub HasNoPlaceholder : List Cell → List ℕ → Type 0
HasNoPlaceholder header text = AllByRecursion (λ c. Lacks (placeholder c.value) text) header

-- what a pickle's step holds but for the nodes that it names
abbrev pub content : PickleStep → List ℕ × StepType × Option PickleArgument
content s = (s.text, s.kind, s.argument)

-- the pickles differ in no more than the nodes that they and their steps name
pub record IsAlike (p q : Pickle) : Type 0 where
  pub name : p.name ≡ q.name
  pub tags : p.tags ≡ q.tags
  pub steps : map content p.steps ≡ map content q.steps

abbrev pub RowsCompileAlike : Type 0
RowsCompileAlike = (inherited : Inheritance) (s : Scenario) (tags : List Tag) (header row other : Row)
    → AllByRecursion (HasNoPlaceholder header.cells) (scenario_texts s)
    → IsAlike (pickle_of inherited s tags (row_filling header row))
    (pickle_of inherited s tags (row_filling header other))
