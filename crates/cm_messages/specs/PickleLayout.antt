-- What is written for a pickle (Cucumber Messages, `Pickle.json`).
use Rattle.std.specs.Prelude.{ℕ, ◌+◌, List, [], ◌∷◌, length, option_map, codes}
use Rattle.serde_json.specs.Data.{Data, string, array}
use Rattle.serde_json.specs.View.{items_of}
use Rattle.gk_pickle.specs.declared.pickles.StepType.{StepType}
use Rattle.gk_pickle.specs.declared.pickles.StepType.TheVariants as kind
use Rattle.gk_pickle.specs.declared.pickles.PickleTag.{PickleTag}
use Rattle.gk_pickle.specs.declared.pickles.PickleDocString.{PickleDocString}
use Rattle.gk_pickle.specs.declared.pickles.PickleArgument.{PickleArgument}
use Rattle.gk_pickle.specs.declared.pickles.PickleArgument.TheVariants as argument
use Rattle.gk_pickle.specs.declared.pickles.PickleStep.{PickleStep}
use Rattle.gk_pickle.specs.declared.pickles.Pickle.{Pickle}
use Rattle.cm_messages.specs.Layout.{object_of, object_with, list_data, id_data, media_data}

abbrev pub type_word : StepType → List ℕ
type_word kind.Unknown = codes "Unknown"
type_word kind.Context = codes "Context"
type_word kind.Action = codes "Action"
type_word kind.Outcome = codes "Outcome"

abbrev pub pickle_tag_data : PickleTag → Data
pickle_tag_data t =
    object_of ((codes "astNodeId", id_data t.node) ∷ (codes "name", string t.name) ∷ [])

abbrev pub pickle_cell_data : List ℕ → Data
pickle_cell_data value = object_of ((codes "value", string value) ∷ [])

abbrev pub pickle_row_data : List (List ℕ) → Data
pickle_row_data cells = object_of ((codes "cells", list_data pickle_cell_data cells) ∷ [])

abbrev pub pickle_doc_string_data : PickleDocString → Data
pickle_doc_string_data d =
    object_with (codes "mediaType") (media_data d.media) ((codes "content", string d.content) ∷ [])

abbrev pub argument_data : PickleArgument → Data
argument_data (argument.Table rows) =
    object_of
    ((codes "dataTable", object_of ((codes "rows", list_data pickle_row_data rows) ∷ [])) ∷ [])
argument_data (argument.Text d) = object_of ((codes "docString", pickle_doc_string_data d) ∷ [])

abbrev pub pickle_step_data : ℕ → PickleStep → Data
pickle_step_data id s = object_with (codes "argument") (option_map argument_data s.argument)
    ((codes "astNodeIds", list_data id_data s.nodes) ∷ (codes "id", id_data id)
    ∷ (codes "text", string s.text) ∷ (codes "type", string (type_word s.kind)) ∷ [])

-- the steps take the ids from the first one on
abbrev pub pickle_steps_data : ℕ → List PickleStep → List Data
pickle_steps_data id [] = []
pickle_steps_data id (s ∷ ss) = pickle_step_data id s ∷ pickle_steps_data (id + 1) ss

-- the pickle's line: its id is the one after those of its steps
unfoldable pub pickle_data : List ℕ → ℕ → Pickle → Data
pickle_data uri first p = object_of ((
  codes "pickle",
  object_of ((codes "astNodeIds", list_data id_data p.nodes)
      ∷ (codes "id", id_data (first + length p.steps)) ∷ (codes "language", string (codes "en"))
      ∷ (codes "name", string p.name)
      ∷ (codes "steps", array (items_of (pickle_steps_data first p.steps)))
      ∷ (codes "tags", list_data pickle_tag_data p.tags) ∷ (codes "uri", string uri) ∷ []),
) ∷ [])
