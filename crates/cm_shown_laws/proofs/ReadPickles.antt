-- The pickle of an envelope that is read of a line has texts of UTF-8.
use Rattle.std.proofs.Common.{Option, Some, None, IsUtf8, codes}
use Rattle.std.specs.Prelude.{⊤, IfSome, not}
use Rattle.std.specs.List.{AllByRecursion}
use Rattle.serde_json.specs.Data.{Data}
use Rattle.serde_json.specs.Find.{as_str}
use Rattle.cm_envelope.specs.declared.pickle.Pickle.{Pickle}
use Rattle.cm_envelope.specs.declared.pickle.PickleArgument.{PickleArgument}
use Rattle.cm_envelope.specs.declared.pickle.PickleArgument.TheVariants.{Table, Text}
use Rattle.cm_envelope.specs.declared.pickle.PickleCell.{PickleCell}
use Rattle.cm_envelope.specs.declared.pickle.PickleDocString.{PickleDocString}
use Rattle.cm_envelope.specs.declared.pickle.PickleRow.{PickleRow}
use Rattle.cm_envelope.specs.declared.pickle.PickleStep.{PickleStep}
use Rattle.cm_envelope.specs.declared.pickle.PickleTable.{PickleTable}
use Rattle.cm_envelope.specs.declared.pickle.PickleTag.{PickleTag}
use Rattle.cm_envelope.specs.declared.pickle.StepKind.{StepKind}
use Rattle.cm_envelope.specs.Member.{has_both, list_of, list_of_values, media_type_member, optional_member, optional_nested_member, required_member}
use Rattle.cm_envelope.specs.Pickles.{argument_member, pickle_argument_of, as_step_kind, inner_option, pickle, pickle_argument, pickle_cell, pickle_doc_string, pickle_lists, pickle_row, pickle_step, pickle_table, pickle_tag, pickle_texts}
use Rattle.cm_shown_laws.proofs.JsonTexts.{HasTexts}
use Rattle.cm_compiled_good.proofs.Fine.{clean, MediaOf}
use Rattle.cm_shown_laws.proofs.Readings.{AreTexts, Maybe, Reads, bound, listed, listed_values, media_read, optional, optional_nested, required_text, ruled, str_is}

-- ---- texts of UTF-8

abbrev pub TagTexts : PickleTag → Type 0
TagTexts t = IsUtf8 t.name × IsUtf8 t.ast_node_id

abbrev pub CellTexts : PickleCell → Type 0
CellTexts c = IsUtf8 c.value

abbrev pub RowTexts : PickleRow → Type 0
RowTexts r = AllByRecursion CellTexts r.cells

abbrev pub TableTexts : PickleTable → Type 0
TableTexts t = AllByRecursion RowTexts t.rows

abbrev pub DocStringTexts : PickleDocString → Type 0
DocStringTexts d = IsUtf8 d.content × MediaOf clean d.media_type

abbrev pub ArgumentTexts : Option PickleArgument → Type 0
ArgumentTexts None = ⊤
ArgumentTexts (Some (Table t)) = TableTexts t
ArgumentTexts (Some (Text d)) = DocStringTexts d

abbrev pub StepTexts : PickleStep → Type 0
StepTexts s = IsUtf8 s.text × AreTexts s.ast_node_ids × ArgumentTexts s.argument

pub record PickleHasTexts (p : Pickle) : Type 0 where
  pub uri : IsUtf8 p.uri
  pub name : IsUtf8 p.name
  pub language : IsUtf8 p.language
  pub ast_node_ids : AreTexts p.ast_node_ids
  pub tags : AllByRecursion TagTexts p.tags
  pub steps : AllByRecursion StepTexts p.steps

-- ---- what is read

tag_read : Reads pickle_tag TagTexts
tag_read d h =
    bound (required_member as_str (codes "name") d) _ IsUtf8 TagTexts (required_text (codes "name") d h)
    (λ name n. bound (required_member as_str (codes "astNodeId") d) _ IsUtf8 TagTexts (required_text (codes "astNodeId") d h) (λ node k. (n, k)))

cell_read : Reads pickle_cell CellTexts
cell_read d h = bound (required_member as_str (codes "value") d) _ IsUtf8 CellTexts (required_text (codes "value") d h) (λ value k. k)

row_read : Reads pickle_row RowTexts
row_read d h = bound (list_of pickle_cell (codes "cells") d) _ (AllByRecursion CellTexts) RowTexts (listed pickle_cell (codes "cells") CellTexts cell_read d h) (λ cells k. k)

table_read : Reads pickle_table TableTexts
table_read d h = bound (list_of pickle_row (codes "rows") d) _ (AllByRecursion RowTexts) TableTexts (listed pickle_row (codes "rows") RowTexts row_read d h) (λ rows k. k)

doc_string_read : Reads pickle_doc_string DocStringTexts
doc_string_read d h =
    bound (required_member as_str (codes "content") d) _ IsUtf8 DocStringTexts (required_text (codes "content") d h)
    (λ content c. bound (media_type_member d) _ (MediaOf clean) DocStringTexts (media_read d h) (λ media m. (c, m)))

one_of : (t : Option PickleTable) (d : Option PickleDocString) → Maybe TableTexts t → Maybe DocStringTexts d → ArgumentTexts (pickle_argument_of t d)
one_of None None h k = tt
one_of None (Some d) h k = k
one_of (Some t) d h k = h

inner_read : Reads pickle_argument ArgumentTexts
inner_read d h =
    bound (optional_nested_member pickle_table (codes "dataTable") d) _ (Maybe TableTexts) ArgumentTexts (optional_nested pickle_table (codes "dataTable") TableTexts table_read d h)
    (λ table t. ruled (codes "docString") (not (has_both (codes "dataTable") (codes "docString") d)) _ ArgumentTexts
    (bound (optional_nested_member pickle_doc_string (codes "docString") d) _ (Maybe DocStringTexts) ArgumentTexts (optional_nested pickle_doc_string (codes "docString") DocStringTexts doc_string_read d h)
    (λ text k. one_of table text t k)))

inner_is : (o : Option (Option PickleArgument)) → Maybe ArgumentTexts o → ArgumentTexts (inner_option o)
inner_is None h = tt
inner_is (Some a) h = h

argument_read : Reads argument_member ArgumentTexts
argument_read d h = bound (optional_nested_member pickle_argument (codes "argument") d) _ (Maybe ArgumentTexts) ArgumentTexts (optional_nested pickle_argument (codes "argument") ArgumentTexts inner_read d h) (λ found k. inner_is found k)

any_kind : (d : Data) → HasTexts d → IfSome (as_step_kind d) (λ (k : StepKind). ⊤)
any_kind d h = any (as_step_kind d)
  where
    any : (o : Option StepKind) → IfSome o (λ (k : StepKind). ⊤)
    any None = tt
    any (Some k) = tt

step_read : Reads pickle_step StepTexts
step_read d h =
    bound (required_member as_str (codes "id") d) _ IsUtf8 StepTexts (required_text (codes "id") d h)
    (λ id i. bound (required_member as_str (codes "text") d) _ IsUtf8 StepTexts (required_text (codes "text") d h)
    (λ text t. bound (optional_member as_step_kind (codes "type") d) _ (Maybe (λ (k : StepKind). ⊤)) StepTexts (optional as_step_kind (codes "type") (λ (k : StepKind). ⊤) any_kind d h)
    (λ kind k. bound (list_of_values as_str (codes "astNodeIds") d) _ AreTexts StepTexts (listed_values as_str (codes "astNodeIds") IsUtf8 str_is d h)
    (λ nodes n. bound (argument_member d) _ ArgumentTexts StepTexts (argument_read d h) (λ below a. (t, n, a))))))

texts_read : Reads pickle_texts (λ t. IsUtf8 t.uri × IsUtf8 t.name × IsUtf8 t.language)
texts_read d h =
    bound (required_member as_str (codes "id") d) _ IsUtf8 _ (required_text (codes "id") d h)
    (λ id i. bound (required_member as_str (codes "uri") d) _ IsUtf8 _ (required_text (codes "uri") d h)
    (λ uri u. bound (required_member as_str (codes "name") d) _ IsUtf8 _ (required_text (codes "name") d h)
    (λ name n. bound (required_member as_str (codes "language") d) _ IsUtf8 _ (required_text (codes "language") d h) (λ language l. (u, n, l)))))

lists_read : Reads pickle_lists (λ t. AreTexts t.ast_node_ids × AllByRecursion TagTexts t.tags × AllByRecursion StepTexts t.steps)
lists_read d h =
    bound (list_of_values as_str (codes "astNodeIds") d) _ AreTexts _ (listed_values as_str (codes "astNodeIds") IsUtf8 str_is d h)
    (λ nodes n. bound (list_of pickle_tag (codes "tags") d) _ (AllByRecursion TagTexts) _ (listed pickle_tag (codes "tags") TagTexts tag_read d h)
    (λ tags t. bound (list_of pickle_step (codes "steps") d) _ (AllByRecursion StepTexts) _ (listed pickle_step (codes "steps") StepTexts step_read d h) (λ steps s. (n, t, s))))

pub pickle_read : Reads pickle PickleHasTexts
pickle_read d h =
    bound (pickle_texts d) _ (λ t. IsUtf8 t.uri × IsUtf8 t.name × IsUtf8 t.language) PickleHasTexts (texts_read d h)
    (λ texts t. bound (pickle_lists d) _ (λ l. AreTexts l.ast_node_ids × AllByRecursion TagTexts l.tags × AllByRecursion StepTexts l.steps) PickleHasTexts (lists_read d h)
    (λ lists l. record { uri = t.0; name = t.1; language = t.2; ast_node_ids = l.0; tags = l.1; steps = l.2 }))
