-- No pickle has a float.
use Rattle.std.proofs.Common.{◌≡◌, ℕ, List, false, codes, refl}
use Rattle.std.specs.Prelude.{option_map}
use Rattle.serde_json.specs.Data.{string}
use Rattle.serde_json.specs.Written.{has_float}
use Rattle.cm_messages.specs.Layout.{list_data}
use Rattle.cm_envelope.specs.declared.pickle.Pickle.{Pickle}
use Rattle.cm_envelope.specs.declared.pickle.PickleArgument.{PickleArgument}
use Rattle.cm_envelope.specs.declared.pickle.PickleArgument.TheVariants as argument
use Rattle.cm_envelope.specs.declared.pickle.PickleDocString.{PickleDocString}
use Rattle.cm_envelope.specs.declared.pickle.PickleRow.{PickleRow}
use Rattle.cm_envelope.specs.declared.pickle.PickleStep.{PickleStep}
use Rattle.cm_envelope.specs.declared.pickle.PickleTable.{PickleTable}
use Rattle.cm_differs.specs.PickleData.{kind_data, pickle_cell_data, pickle_row_data, pickle_table_data, pickle_doc_string_data, argument_data, pickle_step_data, pickle_tag_data, pickle_members, bare_pickle_data}
use Rattle.cm_messages.proofs.Plain.{IsPlain, plain_list, plain_map, plain_object, plain_put_some}

texts_plain : (texts : List (List ℕ)) → IsPlain (list_data string texts)
texts_plain texts = plain_list string (λ t. refl) texts

row_plain : (r : PickleRow) → IsPlain (pickle_row_data r)
row_plain r = plain_object (pickle_row_data r) (plain_list pickle_cell_data (λ c. refl) r.cells, tt)

table_plain : (t : PickleTable) → IsPlain (pickle_table_data t)
table_plain t = plain_object (pickle_table_data t) (plain_list pickle_row_data row_plain t.rows, tt)

doc_string_plain : (d : PickleDocString) → IsPlain (pickle_doc_string_data d)
doc_string_plain d = plain_object (pickle_doc_string_data d) (plain_put_some (codes "mediaType") (option_map string d.media_type) _ (plain_map string (λ t. refl) d.media_type) (refl, tt))

argument_plain : (a : PickleArgument) → IsPlain (argument_data a)
argument_plain (argument.Table t) = plain_object (argument_data (argument.Table t)) (table_plain t, tt)
argument_plain (argument.Text d) = plain_object (argument_data (argument.Text d)) (doc_string_plain d, tt)

step_plain : (s : PickleStep) → IsPlain (pickle_step_data s)
step_plain s =
    plain_object (pickle_step_data s) (plain_put_some (codes "type") (option_map kind_data s.kind) _ (plain_map kind_data (λ k. refl) s.kind)
    (plain_put_some (codes "argument") (option_map argument_data s.argument) _ (plain_map argument_data argument_plain s.argument)
    (texts_plain s.ast_node_ids, (refl, tt))))

members_plain : (p : Pickle) → IsPlain (pickle_members p)
members_plain p =
    plain_object (pickle_members p)
    (texts_plain p.ast_node_ids, (refl, (refl, (plain_list pickle_step_data step_plain p.steps, (plain_list pickle_tag_data (λ t. refl) p.tags, (refl, tt))))))

pub pickle_plain : (p : Pickle) → has_float (bare_pickle_data p) ≡ false
pickle_plain p = plain_object (bare_pickle_data p) (members_plain p, tt)
