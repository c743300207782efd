-- How many pickles a scenario gives, and which nodes they name.
use Rattle.std.specs.Prelude.{◌≡◌, ◌≢◌, List, [], ◌∷◌, length, map, sum_by}
use Rattle.std.specs.List.{flat_map}
use Rattle.gk_document.specs.declared.tree.Row.{Row}
use Rattle.gk_document.specs.declared.tree.Examples.{Examples}
use Rattle.gk_document.specs.declared.tree.Scenario.{Scenario}
use Rattle.gk_pickle.specs.Inheritance.{Inheritance}
use Rattle.gk_pickle.specs.Pickles.{scenario_pickles}
use Rattle.gk_document.specs.ExampleRows.{table_rows_of}

-- the rows of a block below its header
abbrev pub body_rows : Examples → List Row
body_rows e = table_rows_of e.table

-- a scenario without examples blocks gives one pickle
abbrev pub OneWithoutExamples : Type 0
OneWithoutExamples =
    (inherited : Inheritance) (s : Scenario) → s.examples ≡ []
    → length (scenario_pickles inherited s) ≡ 1

-- any other scenario gives as many as its blocks have body rows
abbrev pub OneForEachRow : Type 0
OneForEachRow = (inherited : Inheritance) (s : Scenario) → s.examples ≢ []
    → length (scenario_pickles inherited s) ≡ sum_by (λ e. length (body_rows e)) s.examples

-- and these name the scenario and the rows, in order
abbrev pub RowsInOrder : Type 0
RowsInOrder = (inherited : Inheritance) (s : Scenario) → s.examples ≢ []
    → map (λ p. p.nodes) (scenario_pickles inherited s)
    ≡ map (λ row. s.node ∷ row.node ∷ []) (flat_map body_rows s.examples)
