-- A pickle without its ids as JSON (Messages, `Pickle.json`).
use Rattle.std.specs.Prelude.{ℕ, List, [], ◌∷◌, codes, option_map}
use Rattle.serde_json.specs.Data.{Data, string}
use Rattle.serde_json.specs.Written.{compact_text}
use Rattle.cm_messages.specs.Layout.{list_data, object_of, object_with, object_with_two}
use Rattle.cm_envelope.specs.declared.pickle.Pickle.{Pickle}
use Rattle.cm_envelope.specs.declared.pickle.PickleArgument.{PickleArgument}
use Rattle.cm_envelope.specs.declared.pickle.PickleArgument.TheVariants as argument
use Rattle.cm_envelope.specs.declared.pickle.PickleCell.{PickleCell}
use Rattle.cm_envelope.specs.declared.pickle.PickleDocString.{PickleDocString}
use Rattle.cm_envelope.specs.declared.pickle.PickleRow.{PickleRow}
use Rattle.cm_envelope.specs.declared.pickle.PickleStep.{PickleStep}
use Rattle.cm_envelope.specs.declared.pickle.PickleTable.{PickleTable}
use Rattle.cm_envelope.specs.declared.pickle.PickleTag.{PickleTag}
use Rattle.cm_envelope.specs.declared.pickle.StepKind.{StepKind}
use Rattle.cm_envelope.specs.declared.pickle.StepKind.TheVariants as kind

-- how a step's type is written
abbrev pub kind_word : StepKind → List ℕ
kind_word kind.Unknown = codes "Unknown"
kind_word kind.Context = codes "Context"
kind_word kind.Action = codes "Action"
kind_word kind.Outcome = codes "Outcome"

abbrev pub kind_data : StepKind → Data
kind_data k = string (kind_word k)

abbrev pub pickle_cell_data : PickleCell → Data
pickle_cell_data c = object_of ((codes "value", string c.value) ∷ [])

abbrev pub pickle_row_data : PickleRow → Data
pickle_row_data r = object_of ((codes "cells", list_data pickle_cell_data r.cells) ∷ [])

abbrev pub pickle_table_data : PickleTable → Data
pickle_table_data t = object_of ((codes "rows", list_data pickle_row_data t.rows) ∷ [])

abbrev pub pickle_doc_string_data : PickleDocString → Data
pickle_doc_string_data d = object_with (codes "mediaType") (option_map string d.media_type)
    ((codes "content", string d.content) ∷ [])

abbrev pub argument_data : PickleArgument → Data
argument_data (argument.Table t) = object_of ((codes "dataTable", pickle_table_data t) ∷ [])
argument_data (argument.Text d) = object_of ((codes "docString", pickle_doc_string_data d) ∷ [])

abbrev pub pickle_step_data : PickleStep → Data
pickle_step_data s = object_with_two (codes "argument") (option_map argument_data s.argument)
    (codes "type") (option_map kind_data s.kind)
    ((codes "astNodeIds", list_data string s.ast_node_ids) ∷ (codes "text", string s.text) ∷ [])

abbrev pub pickle_tag_data : PickleTag → Data
pickle_tag_data t =
    object_of ((codes "astNodeId", string t.ast_node_id) ∷ (codes "name", string t.name) ∷ [])

-- what the member `pickle` holds
abbrev pub pickle_members : Pickle → Data
pickle_members p = object_of ((codes "astNodeIds", list_data string p.ast_node_ids)
    ∷ (codes "language", string p.language) ∷ (codes "name", string p.name)
    ∷ (codes "steps", list_data pickle_step_data p.steps)
    ∷ (codes "tags", list_data pickle_tag_data p.tags)
    ∷ (codes "uri", string p.uri) ∷ [])

-- the pickle, without its id and those of its steps
abbrev pub bare_pickle_data : Pickle → Data
bare_pickle_data p = object_of ((codes "pickle", pickle_members p) ∷ [])

abbrev pub pickle_text : Pickle → List ℕ
pickle_text p = compact_text (bare_pickle_data p)
