-- No line has a float.
use Rattle.std.proofs.Common.{◌≡◌, ℕ, ◌+◌, List, [], ◌∷◌, ◌++◌, map, false, Option, Some, None, codes, refl}
use Rattle.std.specs.Prelude.{option_map}
use Rattle.std.specs.Option.{option_to_list}
use Rattle.serde_json.specs.Data.{Data, array, object, member}
use Rattle.serde_json.specs.View.{items_of}
use Rattle.serde_json.specs.Written.{has_float}
use Rattle.gk_document.specs.declared.tree.Location.{Location}
use Rattle.gk_document.specs.declared.tree.Row.{Row}
use Rattle.gk_document.specs.declared.tree.DocString.{DocString}
use Rattle.gk_document.specs.declared.tree.Argument.{Argument}
use Rattle.gk_document.specs.declared.tree.Argument.TheVariants as argument
use Rattle.gk_document.specs.declared.tree.Step.{Step}
use Rattle.gk_document.specs.declared.tree.Background.{Background}
use Rattle.gk_document.specs.declared.tree.ExampleTable.{ExampleTable}
use Rattle.gk_document.specs.declared.tree.Examples.{Examples}
use Rattle.gk_document.specs.declared.tree.Scenario.{Scenario}
use Rattle.gk_document.specs.declared.tree.Rule.{Rule}
use Rattle.gk_document.specs.declared.tree.Feature.{Feature}
use Rattle.gk_document.specs.declared.tree.Document.{Document}
use Rattle.gk_pickle.specs.declared.pickles.PickleDocString.{PickleDocString}
use Rattle.gk_pickle.specs.declared.pickles.PickleArgument.{PickleArgument}
use Rattle.gk_pickle.specs.declared.pickles.PickleArgument.TheVariants as value
use Rattle.gk_pickle.specs.declared.pickles.PickleStep.{PickleStep}
use Rattle.gk_pickle.specs.declared.pickles.Pickle.{Pickle}
use Rattle.gk_document.specs.ExampleRows.{table_rows_of}
use Rattle.cm_messages.specs.Layout.{list_data, id_data, media_data}
use Rattle.cm_messages.specs.SourceLayout.{source_data}
use Rattle.cm_messages.specs.DocumentLayout.{comment_data, tag_data, cell_data, row_data, doc_string_data, table_data, argument_table, argument_doc_string, step_data, background_data, examples_data, scenario_data, background_child, scenario_child, children_data, rule_data, rule_child, feature_data, document_data}
use Rattle.cm_messages.specs.PickleLayout.{pickle_tag_data, pickle_cell_data, pickle_row_data, pickle_doc_string_data, argument_data, pickle_step_data, pickle_steps_data, pickle_data}
use Rattle.cm_messages.proofs.Plain.{IsPlain, IsPlainIfSome, AllPlain, all_of_map, all_of_two, plain_items, plain_list, plain_map, plain_members, plain_object, plain_put_some}

-- what an object's first member holds
abbrev first_value : Data → Data
first_value (object (member k d ms)) = d
first_value d = d

plain_media : (media : Option (List ℕ)) → IsPlainIfSome (media_data media)
plain_media None = tt
plain_media (Some []) = tt
plain_media (Some (b ∷ bs)) = refl

-- ---- sources and documents

pub source_plain : (uri text : List ℕ) → has_float (source_data uri text) ≡ false
unfolding source_data
source_plain uri text = refl

row_plain : (r : Row) → IsPlain (row_data r)
row_plain r = plain_object (row_data r) (plain_list (cell_data r.location.line) (λ c. refl) r.cells, (refl, (refl, tt)))

doc_string_plain : (d : DocString) → IsPlain (doc_string_data d)
doc_string_plain d = plain_object (doc_string_data d) (plain_put_some (codes "mediaType") (media_data d.media) _ (plain_media d.media) (refl, (refl, (refl, tt))))

table_plain : (place : Location) (rows : List Row) → IsPlain (table_data place rows)
table_plain place rows = plain_object (table_data place rows) (refl, (plain_list row_data row_plain rows, tt))

table_of_plain : (place : Location) (o : Option Argument) → IsPlainIfSome (argument_table place o)
table_of_plain place None = tt
table_of_plain place (Some (argument.Table rows)) = table_plain place rows
table_of_plain place (Some (argument.Text d)) = tt

doc_string_of_plain : (o : Option Argument) → IsPlainIfSome (argument_doc_string o)
doc_string_of_plain None = tt
doc_string_of_plain (Some (argument.Table rows)) = tt
doc_string_of_plain (Some (argument.Text d)) = doc_string_plain d

step_plain : (s : Step) → IsPlain (step_data s)
step_plain s =
    plain_object (step_data s) (plain_put_some (codes "docString") (argument_doc_string s.argument) _ (doc_string_of_plain s.argument)
    (plain_put_some (codes "dataTable") (argument_table s.location s.argument) _ (table_of_plain s.location s.argument) (refl, (refl, (refl, (refl, (refl, tt)))))))

background_plain : (b : Background) → IsPlain (background_data b)
background_plain b = plain_object (background_data b) (refl, (refl, (refl, (refl, (refl, (plain_list step_data step_plain b.steps, tt))))))

examples_plain : (e : Examples) → IsPlain (examples_data e)
examples_plain e =
    plain_object (examples_data e) (plain_put_some (codes "tableHeader") (option_map (λ (t : ExampleTable). row_data t.header) e.table) _
    (plain_map (λ (t : ExampleTable). row_data t.header) (λ t. row_plain t.header) e.table)
    (refl, (refl, (refl, (refl, (refl, (plain_list row_data row_plain (table_rows_of e.table), (plain_list tag_data (λ t. refl) e.tags, tt))))))))

scenario_plain : (s : Scenario) → IsPlain (scenario_data s)
scenario_plain s =
    plain_object (scenario_data s)
    (refl, (plain_list examples_data examples_plain s.examples, (refl, (refl, (refl, (refl, (plain_list step_data step_plain s.steps, (plain_list tag_data (λ t. refl) s.tags, tt))))))))

background_child_plain : (b : Background) → IsPlain (background_child b)
background_child_plain b = plain_object (background_child b) (background_plain b, tt)

scenario_child_plain : (s : Scenario) → IsPlain (scenario_child s)
scenario_child_plain s = plain_object (scenario_child s) (scenario_plain s, tt)

children_plain : (background : Option Background) (scenarios : List Scenario) → AllPlain (children_data background scenarios)
children_plain background scenarios =
    all_of_two (map background_child (option_to_list background)) (map scenario_child scenarios)
    (all_of_map background_child background_child_plain (option_to_list background)) (all_of_map scenario_child scenario_child_plain scenarios)

rule_plain : (r : Rule) → IsPlain (rule_data r)
rule_plain r =
    plain_object (rule_data r) (
      plain_items (children_data r.background r.scenarios) (children_plain r.background r.scenarios),
      (refl, (refl, (refl, (refl, (refl, (plain_list tag_data (λ t. refl) r.tags, tt)))))),
    )

rule_child_plain : (r : Rule) → IsPlain (rule_child r)
rule_child_plain r = plain_object (rule_child r) (rule_plain r, tt)

feature_plain : (f : Feature) → IsPlain (feature_data f)
feature_plain f =
    plain_object (feature_data f) (
      plain_items (children_data f.background f.scenarios ++ map rule_child f.rules)
          (all_of_two (children_data f.background f.scenarios) (map rule_child f.rules) (children_plain f.background f.scenarios) (all_of_map rule_child rule_child_plain f.rules)),
      (refl, (refl, (refl, (refl, (refl, (plain_list tag_data (λ t. refl) f.tags, tt)))))),
    )

pub document_plain : (uri : List ℕ) (d : Document) → has_float (document_data uri d) ≡ false
unfolding document_data
document_plain uri d =
    plain_object (document_data uri d) (
      plain_members _
          (plain_put_some (codes "feature") (option_map feature_data d.feature) _ (plain_map feature_data feature_plain d.feature) (plain_list comment_data (λ c. refl) d.comments, (refl, tt))),
      tt,
    )

-- ---- pickles

pickle_row_plain : (cells : List (List ℕ)) → IsPlain (pickle_row_data cells)
pickle_row_plain cells = plain_object (pickle_row_data cells) (plain_list pickle_cell_data (λ c. refl) cells, tt)

pickle_doc_string_plain : (d : PickleDocString) → IsPlain (pickle_doc_string_data d)
pickle_doc_string_plain d = plain_object (pickle_doc_string_data d) (plain_put_some (codes "mediaType") (media_data d.media) _ (plain_media d.media) (refl, tt))

argument_plain : (a : PickleArgument) → IsPlain (argument_data a)
argument_plain (value.Table rows) =
    plain_object (argument_data (value.Table rows))
    (plain_object (first_value (argument_data (value.Table rows))) (plain_list pickle_row_data pickle_row_plain rows, tt), tt)
argument_plain (value.Text d) = plain_object (argument_data (value.Text d)) (pickle_doc_string_plain d, tt)

ids_plain : (ids : List ℕ) → IsPlain (list_data id_data ids)
ids_plain ids = plain_list id_data (λ id. refl) ids

pickle_step_plain : (id : ℕ) (s : PickleStep) → IsPlain (pickle_step_data id s)
pickle_step_plain id s =
    plain_object (pickle_step_data id s) (plain_put_some (codes "argument") (option_map argument_data s.argument) _
    (plain_map argument_data argument_plain s.argument) (ids_plain s.nodes, (refl, (refl, (refl, tt)))))

pickle_steps_plain : (id : ℕ) (ss : List PickleStep) → AllPlain (pickle_steps_data id ss)
pickle_steps_plain id [] = tt
pickle_steps_plain id (s ∷ ss) = (pickle_step_plain id s, pickle_steps_plain (id + 1) ss)

pub pickle_plain : (uri : List ℕ) (first : ℕ) (p : Pickle) → has_float (pickle_data uri first p) ≡ false
unfolding pickle_data
pickle_plain uri first p =
    let steps : IsPlain (array (items_of (pickle_steps_data first p.steps))) = plain_items (pickle_steps_data first p.steps) (pickle_steps_plain first p.steps) in
    let tags : IsPlain (list_data pickle_tag_data p.tags) = plain_list pickle_tag_data (λ t. refl) p.tags in
    plain_object (pickle_data uri first p)
    (plain_object (first_value (pickle_data uri first p)) (ids_plain p.nodes, (refl, (refl, (refl, (steps, (tags, (refl, tt))))))), tt)
