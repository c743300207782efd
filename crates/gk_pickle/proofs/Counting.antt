-- How many pickles a scenario gives, and which nodes they name.
use Rattle.std.proofs.Common.{◌≡◌, ◌≢◌, ℕ, List, [], ◌∷◌, ◌++◌, map, length, Some, None, Option, refl, sym, ap, ◌∙◌}
use Rattle.std.specs.List.{flat_map}
use Rattle.std.proofs.lemmas.List.{map-append, length-map}
use Rattle.std.proofs.lemmas.List.Concat.{length-flat_map}
use Rattle.gk_document.specs.declared.tree.Tag.{Tag}
use Rattle.gk_document.specs.declared.tree.Row.{Row}
use Rattle.gk_document.specs.declared.tree.ExampleTable.{ExampleTable}
use Rattle.gk_document.specs.declared.tree.Examples.{Examples}
use Rattle.gk_document.specs.declared.tree.Scenario.{Scenario}
use Rattle.gk_pickle.specs.declared.pickles.Pickle.{Pickle}
use Rattle.gk_pickle.specs.Inheritance.{Inheritance}
use Rattle.gk_pickle.specs.Pickles.{pickle_of, row_filling, table_pickles, examples_pickles, outline_pickles}
use Rattle.gk_document.specs.ExampleRows.{table_rows_of}
use Rattle.gk_pickle.specs.Counts.{body_rows, OneWithoutExamples, OneForEachRow, RowsInOrder}

abbrev nodes : Pickle → List ℕ
nodes p = p.nodes

abbrev row_nodes : Scenario → Row → List ℕ
row_nodes s row = s.node ∷ row.node ∷ []

of_rows : (inherited : Inheritance) (s : Scenario) (tags : List Tag) (header : Row) (rows : List Row)
    → map nodes (map (λ row. pickle_of inherited s tags (row_filling header row)) rows) ≡ map (row_nodes s) rows
of_rows inherited s tags header [] = refl
of_rows inherited s tags header (row ∷ rows) = ap (λ ns. row_nodes s row ∷ ns) (of_rows inherited s tags header rows)

of_table : (inherited : Inheritance) (s : Scenario) (tags : List Tag) (table : Option ExampleTable)
    → map nodes (table_pickles inherited s tags table) ≡ map (row_nodes s) (table_rows_of table)
of_table inherited s tags None = refl
of_table inherited s tags (Some table) = of_rows inherited s tags table.header table.body

of_blocks : (inherited : Inheritance) (s : Scenario) (blocks : List Examples)
    → map nodes (flat_map (examples_pickles inherited s) blocks) ≡ map (row_nodes s) (flat_map body_rows blocks)
of_blocks inherited s [] = refl
of_blocks inherited s (e ∷ es) =
    map-append nodes (examples_pickles inherited s e) (flat_map (examples_pickles inherited s) es)
    ∙ ap (λ ns. ns ++ map nodes (flat_map (examples_pickles inherited s) es)) (of_table inherited s e.tags e.table)
    ∙ ap (λ ns. map (row_nodes s) (body_rows e) ++ ns) (of_blocks inherited s es)
    ∙ sym (map-append (row_nodes s) (body_rows e) (flat_map body_rows es))

of_outline : (inherited : Inheritance) (s : Scenario) (blocks : List Examples) → blocks ≢ []
    → map nodes (outline_pickles inherited s blocks) ≡ map (row_nodes s) (flat_map body_rows blocks)
of_outline inherited s [] some = absurd (some refl)
of_outline inherited s (e ∷ es) some = of_blocks inherited s (e ∷ es)

pub one_without_examples : OneWithoutExamples
one_without_examples inherited s none = ap (λ blocks. length (outline_pickles inherited s blocks)) none

pub rows_in_order : RowsInOrder
rows_in_order inherited s some = of_outline inherited s s.examples some

pub one_for_each_row : OneForEachRow
one_for_each_row inherited s some =
    sym (length-map (outline_pickles inherited s s.examples) nodes) ∙ ap length (of_outline inherited s s.examples some)
    ∙ length-map (flat_map body_rows s.examples) (row_nodes s) ∙ length-flat_map body_rows s.examples
