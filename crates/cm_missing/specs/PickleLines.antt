-- The line of each pickle that a scenario gives.
use Rattle.std.specs.Prelude.{◌≡◌, ℕ, List, [], ◌∷◌, length, map}
use Rattle.std.specs.List.{flat_map}
use Rattle.gk_document.specs.declared.tree.Examples.{Examples}
use Rattle.gk_document.specs.declared.tree.Row.{Row}
use Rattle.gk_document.specs.declared.tree.Scenario.{Scenario}
use Rattle.gk_pickle.specs.Counts.{body_rows}
use Rattle.gk_pickle.specs.InFeature.{ScenarioInFeature}
use Rattle.gk_pickle.specs.Scenarios.{pickles_of_one}

abbrev pub row_lines : List Row → List ℕ
row_lines rows = map (λ row. row.location.line) rows

-- that of the scenario without examples blocks, else those of the rows of each block
abbrev pub outline_lines : Scenario → List Examples → List ℕ
outline_lines s [] = s.location.line ∷ []
outline_lines s (e ∷ es) = flat_map (λ block. row_lines (body_rows block)) (e ∷ es)

-- the lines of the pickles of one scenario, in their order: of an outline's pickle that of its row
unfoldable pub lines_of_one : ScenarioInFeature → List ℕ
lines_of_one s = outline_lines s.scenario s.scenario.examples

-- each pickle of a scenario has one line
abbrev pub OneLineForEachPickle : Type 0
OneLineForEachPickle =
    (s : ScenarioInFeature) → length (lines_of_one s) ≡ length (pickles_of_one s)
