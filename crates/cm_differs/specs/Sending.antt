-- What a step's argument sends to a serializer.
use Rattle.std.specs.Prelude.{◌≡◌, Option, Some, None, codes}
use Rattle.serde.specs.Event.{Log}
use Rattle.cm_messages.specs.Sending.{SendsMember}
use Rattle.gk_document.specs.declared.tree.Argument.{Argument}
use Rattle.gk_document.specs.declared.tree.Argument.TheVariants.{Table, Text}
use Rattle.cm_differs.specs.PartData.{doc_string_data, table_data}

-- its data table or its doc string, as a member, where it has one
abbrev pub SendsArgument : Option Argument → Log → Log → Type 0
SendsArgument None old new = new ≡ old
SendsArgument (Some (Table rows)) old new = SendsMember (codes "dataTable") (table_data rows) old new
SendsArgument (Some (Text d)) old new = SendsMember (codes "docString") (doc_string_data d) old new
