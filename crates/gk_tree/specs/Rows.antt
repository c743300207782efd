-- One row more, of a table and after a step.
use Rattle.std.specs.Prelude.{List, [], ◌∷◌, ◌++◌, length, ◌==◌, if◌then◌else◌, Option, Some, None, Result, Ok, Err}
use Rattle.gk_grammar.specs.declared.fault.FaultKind.TheVariants as kind
use Rattle.gk_grammar.specs.Tree as tree
use Rattle.gk_document.specs.declared.tree.Argument.TheVariants.{Table, Text as Quoted}
use Rattle.gk_grammar.specs.Machine.{PlacedFault, count_of, ◌>>=◌}

abbrev pub rows_with : List tree.Row → tree.Row → Result (List tree.Row) PlacedFault
rows_with rows r =
    if length r.cells == count_of rows then Ok (rows ++ r ∷ [])
    else Err (record { kind = kind.CellCount; line = r.location.line; column = r.location.column })

abbrev pub row_after : tree.Step → Option tree.Argument → tree.Row → Result tree.Step PlacedFault
row_after s None r = Ok (record s { argument = Some (Table (r ∷ [])) })
row_after s (Some (Table rows)) r =
    rows_with rows r >>= λ x. Ok (record s { argument = Some (Table x) })
row_after s (Some (Quoted d)) r =
    Err (record { kind = kind.Unexpected; line = r.location.line; column = r.location.column })
