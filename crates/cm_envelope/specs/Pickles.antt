-- The members of a pickle and of the objects in it, in the order in which they are read (Messages: Pickle, PickleTag,
-- PickleStep, PickleStepArgument, PickleTable, PickleTableRow, PickleTableCell, PickleDocString).
use Rattle.std.specs.Prelude.{List, ℕ, not, if◌then◌else◌, Option, Some, None, option_and_then, Result, Ok, codes, bytes_eq}
use Rattle.serde_json.specs.Data.{Data}
use Rattle.serde_json.specs.Find.{as_str}
use Rattle.cm_envelope.specs.declared.pickle.Pickle.{Pickle}
use Rattle.cm_envelope.specs.declared.pickle.PickleTag.{PickleTag}
use Rattle.cm_envelope.specs.declared.pickle.PickleStep.{PickleStep}
use Rattle.cm_envelope.specs.declared.pickle.StepKind.{StepKind}
use Rattle.cm_envelope.specs.declared.pickle.StepKind.TheVariants.{Unknown, Context, Action, Outcome}
use Rattle.cm_envelope.specs.declared.pickle.PickleArgument.{PickleArgument}
use Rattle.cm_envelope.specs.declared.pickle.PickleArgument.TheVariants.{Table, Text}
use Rattle.cm_envelope.specs.declared.pickle.PickleTable.{PickleTable}
use Rattle.cm_envelope.specs.declared.pickle.PickleRow.{PickleRow}
use Rattle.cm_envelope.specs.declared.pickle.PickleCell.{PickleCell}
use Rattle.cm_envelope.specs.declared.pickle.PickleDocString.{PickleDocString}
use Rattle.cm_envelope.specs.declared.parts.PickleTexts.{PickleTexts}
use Rattle.cm_envelope.specs.declared.parts.PickleLists.{PickleLists}
use Rattle.cm_envelope.specs.Member.{◌>>=◌, NamedMember, member_of, present_member, required_in, required_member, optional_member, optional_nested_in, optional_nested_member, list_in, list_of, values_in, list_of_values, rule, has_both, media_type_member}

-- Messages: PickleStepType
abbrev pub step_kind_of : List ℕ → Option StepKind
step_kind_of word = if bytes_eq word (codes "Unknown") then Some Unknown
    else if bytes_eq word (codes "Context") then Some Context
    else if bytes_eq word (codes "Action") then Some Action
    else if bytes_eq word (codes "Outcome") then Some Outcome
    else None

abbrev pub as_step_kind : Data → Option StepKind
as_step_kind d = option_and_then step_kind_of (as_str d)

abbrev pub pickle_tag : Data → Result PickleTag (List ℕ)
pickle_tag d = do
  name ← required_member as_str (codes "name") d
  node ← required_member as_str (codes "astNodeId") d
  Ok (record { name = name; ast_node_id = node })

abbrev pub pickle_cell : Data → Result PickleCell (List ℕ)
pickle_cell d = do
  value ← required_member as_str (codes "value") d
  Ok (record { value = value })

abbrev pub pickle_row : Data → Result PickleRow (List ℕ)
pickle_row d = do
  cells ← list_of pickle_cell (codes "cells") d
  Ok (record { cells = cells })

-- without rows it is a table all the same
abbrev pub pickle_table : Data → Result PickleTable (List ℕ)
pickle_table d = do
  rows ← list_of pickle_row (codes "rows") d
  Ok (record { rows = rows })

abbrev pub pickle_doc_string : Data → Result PickleDocString (List ℕ)
pickle_doc_string d = do
  content ← required_member as_str (codes "content") d
  media ← media_type_member d
  Ok (record { content = content; media_type = media })

-- the one that there is
abbrev pub pickle_argument_of : Option PickleTable → Option PickleDocString → Option PickleArgument
pickle_argument_of (Some table) text = Some (Table table)
pickle_argument_of None (Some text) = Some (Text text)
pickle_argument_of None None = None

abbrev pub pickle_argument : Data → Result (Option PickleArgument) (List ℕ)
pickle_argument d = do
  table ← optional_nested_member pickle_table (codes "dataTable") d
  checked ← rule (codes "docString") (not (has_both (codes "dataTable") (codes "docString") d))
  text ← optional_nested_member pickle_doc_string (codes "docString") d
  Ok (pickle_argument_of table text)

abbrev pub inner_option : {A : Type 0} → Option (Option A) → Option A
inner_option None = None
inner_option (Some o) = o

-- An argument with neither counts as absent.
abbrev pub pickle_argument_in : List ℕ → Option Data → Result (Option PickleArgument) (List ℕ)
pickle_argument_in name d = do
  found ← optional_nested_in pickle_argument name d
  Ok (inner_option found)

abbrev pub argument_member : Data → Result (Option PickleArgument) (List ℕ)
argument_member d = pickle_argument_in (codes "argument") (present_member (codes "argument") d)

abbrev pub pickle_step : Data → Result PickleStep (List ℕ)
pickle_step d = do
  id ← required_member as_str (codes "id") d
  text ← required_member as_str (codes "text") d
  kind ← optional_member as_step_kind (codes "type") d
  nodes ← list_of_values as_str (codes "astNodeIds") d
  below ← argument_member d
  Ok (record { id = id; text = text; kind = kind; ast_node_ids = nodes; argument = below })

abbrev pub texts_in : NamedMember → NamedMember → NamedMember → NamedMember → Result PickleTexts (List ℕ)
texts_in own_id of_uri own_name of_language = do
  id ← required_in as_str own_id.0 own_id.1
  uri ← required_in as_str of_uri.0 of_uri.1
  name ← required_in as_str own_name.0 own_name.1
  language ← required_in as_str of_language.0 of_language.1
  Ok (record { id = id; uri = uri; name = name; language = language })

abbrev pub pickle_texts : Data → Result PickleTexts (List ℕ)
pickle_texts d =
    texts_in (member_of (codes "id") d) (member_of (codes "uri") d) (member_of (codes "name") d)
    (member_of (codes "language") d)

abbrev pub lists_in : NamedMember → NamedMember → NamedMember → Result PickleLists (List ℕ)
lists_in of_nodes of_tags of_steps = do
  nodes ← values_in as_str of_nodes.0 of_nodes.1
  tags ← list_in pickle_tag of_tags.0 of_tags.1
  steps ← list_in pickle_step of_steps.0 of_steps.1
  Ok (record { ast_node_ids = nodes; tags = tags; steps = steps })

abbrev pub pickle_lists : Data → Result PickleLists (List ℕ)
pickle_lists d =
    lists_in (member_of (codes "astNodeIds") d) (member_of (codes "tags") d)
    (member_of (codes "steps") d)

-- its texts, then its lists
abbrev pub pickle : Data → Result Pickle (List ℕ)
pickle d = do
  texts ← pickle_texts d
  lists ← pickle_lists d
  Ok (record {
    id = texts.id;
    uri = texts.uri;
    name = texts.name;
    language = texts.language;
    ast_node_ids = lists.ast_node_ids;
    tags = lists.tags;
    steps = lists.steps;
  })
