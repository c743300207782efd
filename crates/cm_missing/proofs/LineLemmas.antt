-- The lines of the pickles of a scenario, and one line more of those that are shown.
use Rattle.std.proofs.Common.{◌≡◌, ◌∙◌, ap, sym, refl, ℕ, ◌<◌, ◌≤◌, ◌+◌, List, [], ◌∷◌, ◌++◌, append-nil, append_assoc, arith, length, take, take_all, Option, None, Some}
use Rattle.std.specs.List.{flat_map}
use Rattle.std.proofs.lemmas.List.{length-append, length-map, length_push, take-append-le}
use Rattle.std.proofs.lemmas.List.Concat.{flat_map-append}
use Rattle.gk_document.specs.declared.tree.ExampleTable.{ExampleTable}
use Rattle.gk_document.specs.declared.tree.Examples.{Examples}
use Rattle.gk_document.specs.declared.tree.Row.{Row}
use Rattle.gk_document.specs.declared.tree.Scenario.{Scenario}
use Rattle.gk_document.specs.declared.tree.Tag.{Tag}
use Rattle.gk_document.specs.ExampleRows.{table_rows_of}
use Rattle.gk_pickle.specs.Counts.{body_rows}
use Rattle.gk_pickle.specs.InFeature.{ScenarioInFeature}
use Rattle.gk_pickle.specs.Inheritance.{Inheritance}
use Rattle.gk_pickle.specs.Pickles.{examples_pickles, outline_pickles, pickle_of, row_filling, table_pickles}
use Rattle.gk_pickle.specs.Scenarios.{inherited_in, pickles_of_one}
use Rattle.cm_reasons.specs.Lines.{text_of_lines}
use Rattle.cm_missing.specs.PickleLines.{OneLineForEachPickle, lines_of_one, outline_lines, row_lines}

-- ---- as many lines as pickles

rows_of_table : (inherited : Inheritance) (s : Scenario) (tags : List Tag) (table : Option ExampleTable)
    → length (row_lines (table_rows_of table)) ≡ length (table_pickles inherited s tags table)
rows_of_table inherited s tags None = refl
rows_of_table inherited s tags (Some table) =
    length-map table.body (λ (row : Row). row.location.line)
    ∙ sym (length-map table.body (λ (row : Row). pickle_of inherited s tags (row_filling table.header row)))

rows_of_blocks : (inherited : Inheritance) (s : Scenario) (blocks : List Examples)
    → length (flat_map (λ block. row_lines (body_rows block)) blocks) ≡ length (flat_map (examples_pickles inherited s) blocks)
rows_of_blocks inherited s [] = refl
rows_of_blocks inherited s (e ∷ es) =
    let first = rows_of_table inherited s e.tags e.table in
    let later = rows_of_blocks inherited s es in
    length-append (row_lines (body_rows e)) (flat_map (λ block. row_lines (body_rows block)) es)
    ∙ (λ j. first j + later j)
    ∙ sym (length-append (examples_pickles inherited s e) (flat_map (examples_pickles inherited s) es))

rows_of_outline : (inherited : Inheritance) (s : Scenario) (blocks : List Examples)
    → length (outline_lines s blocks) ≡ length (outline_pickles inherited s blocks)
rows_of_outline inherited s [] = refl
rows_of_outline inherited s (e ∷ es) = rows_of_blocks inherited s (e ∷ es)

pub one_line_for_each : OneLineForEachPickle
unfolding lines_of_one pickles_of_one
one_line_for_each s = rows_of_outline (inherited_in s.feature s.rule) s.scenario s.scenario.examples

pub lines_for_each : (ss : List ScenarioInFeature) → length (flat_map lines_of_one ss) ≡ length (flat_map pickles_of_one ss)
lines_for_each [] = refl
lines_for_each (s ∷ ss) =
    length-append (lines_of_one s) (flat_map lines_of_one ss) ∙ (λ j. one_line_for_each s j + lines_for_each ss j)
    ∙ sym (length-append (pickles_of_one s) (flat_map pickles_of_one ss))

-- ---- the lines that are shown

pub one_shown : (lines : List (List ℕ)) (line old mid new : List ℕ) → length lines < 100 → old ≡ text_of_lines (take 100 lines) → mid ≡ old ++ line → new ≡ mid ++ 10 ∷ []
    → new ≡ text_of_lines (take 100 (lines ++ line ∷ []))
one_shown lines line old mid new few o m n =
    let all : take 100 lines ≡ lines = take_all 100 lines (omega arith) in
    let more : take 100 (lines ++ line ∷ []) ≡ lines ++ line ∷ [] = take_all 100 (lines ++ line ∷ []) (omega (arith, length_push lines line)) in
    n ∙ ap (λ (t : List ℕ). t ++ 10 ∷ []) m ∙ append_assoc old line (10 ∷ []) ∙ ap (λ (t : List ℕ). t ++ (line ++ 10 ∷ [])) (o ∙ ap text_of_lines all)
    ∙ ap (λ (t : List ℕ). text_of_lines lines ++ t) (sym (append-nil (line ++ 10 ∷ []))) ∙ sym (flat_map-append (λ (l : List ℕ). l ++ 10 ∷ []) lines (line ∷ []))
    ∙ ap text_of_lines (sym more)

pub none_shown : (lines : List (List ℕ)) (line old new : List ℕ) → 100 ≤ length lines → old ≡ text_of_lines (take 100 lines) → new ≡ old → new ≡ text_of_lines (take 100 (lines ++ line ∷ []))
none_shown lines line old new many o n = n ∙ o ∙ ap text_of_lines (sym (take-append-le 100 lines (line ∷ []) many))
