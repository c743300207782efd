-- The ids of the steps of a pickle or of a test case.
use Rattle.std.specs.Prelude.{List, map}
use Rattle.kept_texts.specs.Kept.{bytes_of}
use Rattle.cm_refs.specs.Declarations.{Utf8}
use Rattle.cm_refs.specs.declared.declared.StepIds.{StepIds}
use Rattle.cm_refs.specs.declared.declared.StepIds.TheVariants as ids

abbrev pub ids_in : StepIds → List Utf8
ids_in (ids.Few texts) = texts
ids_in (ids.Many names) = map bytes_of names.keys
