-- The rows of a table of examples.
use Rattle.std.specs.Prelude.{List, [], Option, Some, None}
use Rattle.gk_document.specs.declared.tree.ExampleTable.{ExampleTable}
use Rattle.gk_document.specs.declared.tree.Row.{Row}

-- the rows below the header, and none where there is no table
abbrev pub table_rows_of : Option ExampleTable → List Row
table_rows_of None = []
table_rows_of (Some t) = t.body
