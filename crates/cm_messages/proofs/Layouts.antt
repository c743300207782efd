-- Objects with members that may be absent, from what is sent for their parts, and how many parts there are.
use Rattle.std.proofs.Common.{◌≡◌, ◌∙◌, ℕ, ◌+◌, suc, List, [], ◌∷◌, ◌++◌, length, map, Option, Some, None, option_map, codes, refl, sym, ap, subst, arith, length-append}
use Rattle.std.proofs.lemmas.List.{length-map}
use Rattle.serde.specs.Event.{Log, Logs, map_begins, map_ends}
use Rattle.serde_json.specs.Data.{Data}
use Rattle.serde_json.specs.Events.{SendsValue}
use Rattle.gk_document.specs.declared.tree.Location.{Location}
use Rattle.gk_document.specs.declared.tree.Argument.{Argument}
use Rattle.gk_document.specs.declared.tree.Argument.TheVariants as argument
use Rattle.gk_document.specs.declared.tree.Background.{Background}
use Rattle.gk_document.specs.declared.tree.Scenario.{Scenario}
use Rattle.gk_document.specs.declared.tree.Rule.{Rule}
use Rattle.gk_pickle.specs.declared.pickles.PickleStep.{PickleStep}
use Rattle.cm_messages.specs.Layout.{object_with, object_with_two}
use Rattle.cm_messages.specs.DocumentLayout.{scenario_child, rule_child, children_data, argument_table, argument_doc_string}
use Rattle.cm_messages.specs.PickleLayout.{pickle_steps_data}
use Rattle.cm_messages.specs.Sending.{SendsMember, SendsOptional, option_count}

pub present-option_map : {A B : Type 0} (f : A → B) (o : Option A) → option_count (option_map f o) ≡ option_count o
present-option_map f None = refl
present-option_map f (Some x) = refl

pub length-pickle_steps_data : (id : ℕ) (steps : List PickleStep) → length (pickle_steps_data id steps) ≡ length steps
length-pickle_steps_data id [] = refl
length-pickle_steps_data id (s ∷ ss) = ap suc (length-pickle_steps_data (id + 1) ss)

pub length-children_data : (background : Option Background) (scenarios : List Scenario)
    → length (children_data background scenarios) ≡ option_count background + length scenarios
length-children_data None scenarios = omega (arith, length-map scenarios scenario_child)
length-children_data (Some b) scenarios = omega (arith, length-map scenarios scenario_child)

pub length-feature_children : (background : Option Background) (scenarios : List Scenario) (rules : List Rule)
    → length (children_data background scenarios ++ map rule_child rules) ≡ option_count background + length scenarios + length rules
length-feature_children background scenarios rules = omega (
  arith,
  length-append (children_data background scenarios) (map rule_child rules),
  length-children_data background scenarios,
  length-map rules rule_child,
)

-- k members, and one that may be absent
pub counted : {A : Type 0} (k n m : ℕ) (o : Option A) → n ≡ m → option_count o ≡ m → k + n ≡ k + option_count o
counted k n m o counts same = ap (λ x. k + x) (counts ∙ sym same)

pub present-argument : (place : Location) (a : Option Argument) → option_count (argument_table place a) + option_count (argument_doc_string a) ≡ option_count a
present-argument place None = refl
present-argument place (Some (argument.Table rows)) = refl
present-argument place (Some (argument.Text d)) = refl

-- ---- members that may be absent, in their places

pub pickle_doc_string_sent : (media : Option Data) (content : Data) (n : ℕ) (old l0 l1 l2 new : Log) → n ≡ 1 + option_count media
    → Logs old l0 (map_begins (Some n))
    → SendsMember (codes "content") content l0 l1
    → SendsOptional (codes "mediaType") media l1 l2
    → Logs l2 new map_ends → SendsValue (object_with (codes "mediaType") media ((codes "content", content) ∷ [])) old new
pickle_doc_string_sent None content n old l0 l1 l2 new len begun h0 h1 ended =
    (l0, subst (λ m. Logs old l0 (map_begins (Some m))) len begun, (h0.0, l1, h0.1, h0.2, (subst (λ m. Logs m new map_ends) h1 ended)))
pickle_doc_string_sent (Some media) content n old l0 l1 l2 new len begun h0 h1 ended =
    (l0, subst (λ m. Logs old l0 (map_begins (Some m))) len begun, (h0.0, l1, h0.1, h0.2, (h1.0, l2, h1.1, h1.2, ended)))

pub doc_string_sent : (media : Option Data) (content marks location : Data) (n : ℕ) (old l0 l1 l2 l3 l4 new : Log) → n ≡ 3 + option_count media
    → Logs old l0 (map_begins (Some n))
    → SendsMember (codes "content") content l0 l1
    → SendsMember (codes "delimiter") marks l1 l2
    → SendsMember (codes "location") location l2 l3
    → SendsOptional (codes "mediaType") media l3 l4
    → Logs l4 new map_ends → SendsValue (object_with (codes "mediaType") media ((codes "content", content) ∷ (codes "delimiter", marks) ∷ (codes "location", location) ∷ [])) old new
doc_string_sent None content marks location n old l0 l1 l2 l3 l4 new len begun h0 h1 h2 h3 ended =
    (l0, subst (λ m. Logs old l0 (map_begins (Some m))) len begun, (h0.0, l1, h0.1, h0.2, (h1.0, l2, h1.1, h1.2, (h2.0, l3, h2.1, h2.2, (subst (λ m. Logs m new map_ends) h3 ended)))))
doc_string_sent (Some media) content marks location n old l0 l1 l2 l3 l4 new len begun h0 h1 h2 h3 ended =
    (l0, subst (λ m. Logs old l0 (map_begins (Some m))) len begun, (h0.0, l1, h0.1, h0.2, (h1.0, l2, h1.1, h1.2, (h2.0, l3, h2.1, h2.2, (h3.0, l4, h3.1, h3.2, ended)))))

pub pickle_step_sent : (argument : Option Data) (nodes id text kind : Data) (n : ℕ) (old l0 l1 l2 l3 l4 l5 new : Log) → n ≡ 4 + option_count argument
    → Logs old l0 (map_begins (Some n))
    → SendsOptional (codes "argument") argument l0 l1
    → SendsMember (codes "astNodeIds") nodes l1 l2
    → SendsMember (codes "id") id l2 l3
    → SendsMember (codes "text") text l3 l4
    → SendsMember (codes "type") kind l4 l5
    → Logs l5 new map_ends → SendsValue (object_with (codes "argument") argument ((codes "astNodeIds", nodes) ∷ (codes "id", id) ∷ (codes "text", text) ∷ (codes "type", kind) ∷ [])) old new
pickle_step_sent None nodes id text kind n old l0 l1 l2 l3 l4 l5 new len begun h0 h1 h2 h3 h4 ended =
    (l0, subst (λ m. Logs old l0 (map_begins (Some m))) len begun, ((subst (λ m. SendsMember (codes "astNodeIds") nodes m l2) h0 h1).0, l2, (subst (λ m. SendsMember (codes "astNodeIds") nodes m l2) h0 h1).1, (subst (λ m. SendsMember (codes "astNodeIds") nodes m l2) h0 h1).2, (h2.0, l3, h2.1, h2.2, (h3.0, l4, h3.1, h3.2, (h4.0, l5, h4.1, h4.2, ended)))))
pickle_step_sent (Some argument) nodes id text kind n old l0 l1 l2 l3 l4 l5 new len begun h0 h1 h2 h3 h4 ended =
    (l0, subst (λ m. Logs old l0 (map_begins (Some m))) len begun, (h0.0, l1, h0.1, h0.2, (h1.0, l2, h1.1, h1.2, (h2.0, l3, h2.1, h2.2, (h3.0, l4, h3.1, h3.2, (h4.0, l5, h4.1, h4.2, ended))))))

pub step_sent : (table doc_string : Option Data) (id keyword kind location text : Data) (n : ℕ) (old l0 l1 l2 l3 l4 l5 l6 l7 new : Log) → n ≡ 5 + (option_count table + option_count doc_string)
    → Logs old l0 (map_begins (Some n))
    → SendsOptional (codes "dataTable") table l0 l1
    → SendsOptional (codes "docString") doc_string l1 l2
    → SendsMember (codes "id") id l2 l3
    → SendsMember (codes "keyword") keyword l3 l4
    → SendsMember (codes "keywordType") kind l4 l5
    → SendsMember (codes "location") location l5 l6
    → SendsMember (codes "text") text l6 l7
    → Logs l7 new map_ends → SendsValue (object_with_two (codes "dataTable") table (codes "docString") doc_string ((codes "id", id) ∷ (codes "keyword", keyword) ∷ (codes "keywordType", kind) ∷ (codes "location", location) ∷ (codes "text", text) ∷ [])) old new
step_sent None None id keyword kind location text n old l0 l1 l2 l3 l4 l5 l6 l7 new len begun h0 h1 h2 h3 h4 h5 h6 ended =
    (l0, subst (λ m. Logs old l0 (map_begins (Some m))) len begun, ((subst (λ m. SendsMember (codes "id") id m l3) (subst (λ m. SendsOptional (codes "docString") None m l2) h0 h1) h2).0, l3, (subst (λ m. SendsMember (codes "id") id m l3) (subst (λ m. SendsOptional (codes "docString") None m l2) h0 h1) h2).1, (subst (λ m. SendsMember (codes "id") id m l3) (subst (λ m. SendsOptional (codes "docString") None m l2) h0 h1) h2).2, (h3.0, l4, h3.1, h3.2, (h4.0, l5, h4.1, h4.2, (h5.0, l6, h5.1, h5.2, (h6.0, l7, h6.1, h6.2, ended))))))
step_sent None (Some doc_string) id keyword kind location text n old l0 l1 l2 l3 l4 l5 l6 l7 new len begun h0 h1 h2 h3 h4 h5 h6 ended =
    (l0, subst (λ m. Logs old l0 (map_begins (Some m))) len begun, ((subst (λ m. SendsOptional (codes "docString") (Some doc_string) m l2) h0 h1).0, l2, (subst (λ m. SendsOptional (codes "docString") (Some doc_string) m l2) h0 h1).1, (subst (λ m. SendsOptional (codes "docString") (Some doc_string) m l2) h0 h1).2, (h2.0, l3, h2.1, h2.2, (h3.0, l4, h3.1, h3.2, (h4.0, l5, h4.1, h4.2, (h5.0, l6, h5.1, h5.2, (h6.0, l7, h6.1, h6.2, ended)))))))
step_sent (Some table) None id keyword kind location text n old l0 l1 l2 l3 l4 l5 l6 l7 new len begun h0 h1 h2 h3 h4 h5 h6 ended =
    (l0, subst (λ m. Logs old l0 (map_begins (Some m))) len begun, (h0.0, l1, h0.1, h0.2, ((subst (λ m. SendsMember (codes "id") id m l3) h1 h2).0, l3, (subst (λ m. SendsMember (codes "id") id m l3) h1 h2).1, (subst (λ m. SendsMember (codes "id") id m l3) h1 h2).2, (h3.0, l4, h3.1, h3.2, (h4.0, l5, h4.1, h4.2, (h5.0, l6, h5.1, h5.2, (h6.0, l7, h6.1, h6.2, ended)))))))
step_sent (Some table) (Some doc_string) id keyword kind location text n old l0 l1 l2 l3 l4 l5 l6 l7 new len begun h0 h1 h2 h3 h4 h5 h6 ended =
    (l0, subst (λ m. Logs old l0 (map_begins (Some m))) len begun, (h0.0, l1, h0.1, h0.2, (h1.0, l2, h1.1, h1.2, (h2.0, l3, h2.1, h2.2, (h3.0, l4, h3.1, h3.2, (h4.0, l5, h4.1, h4.2, (h5.0, l6, h5.1, h5.2, (h6.0, l7, h6.1, h6.2, ended))))))))

pub examples_sent : (header : Option Data) (description id keyword location name body tags : Data) (n : ℕ) (old l0 l1 l2 l3 l4 l5 l6 l7 l8 new : Log) → n ≡ 7 + option_count header
    → Logs old l0 (map_begins (Some n))
    → SendsMember (codes "description") description l0 l1
    → SendsMember (codes "id") id l1 l2
    → SendsMember (codes "keyword") keyword l2 l3
    → SendsMember (codes "location") location l3 l4
    → SendsMember (codes "name") name l4 l5
    → SendsMember (codes "tableBody") body l5 l6
    → SendsOptional (codes "tableHeader") header l6 l7
    → SendsMember (codes "tags") tags l7 l8
    → Logs l8 new map_ends → SendsValue (object_with (codes "tableHeader") header ((codes "description", description) ∷ (codes "id", id) ∷ (codes "keyword", keyword) ∷ (codes "location", location) ∷ (codes "name", name) ∷ (codes "tableBody", body) ∷ (codes "tags", tags) ∷ [])) old new
examples_sent None description id keyword location name body tags n old l0 l1 l2 l3 l4 l5 l6 l7 l8 new len begun h0 h1 h2 h3 h4 h5 h6 h7 ended =
    (l0, subst (λ m. Logs old l0 (map_begins (Some m))) len begun, (h0.0, l1, h0.1, h0.2, (h1.0, l2, h1.1, h1.2, (h2.0, l3, h2.1, h2.2, (h3.0, l4, h3.1, h3.2, (h4.0, l5, h4.1, h4.2, (h5.0, l6, h5.1, h5.2, ((subst (λ m. SendsMember (codes "tags") tags m l8) h6 h7).0, l8, (subst (λ m. SendsMember (codes "tags") tags m l8) h6 h7).1, (subst (λ m. SendsMember (codes "tags") tags m l8) h6 h7).2, ended))))))))
examples_sent (Some header) description id keyword location name body tags n old l0 l1 l2 l3 l4 l5 l6 l7 l8 new len begun h0 h1 h2 h3 h4 h5 h6 h7 ended =
    (l0, subst (λ m. Logs old l0 (map_begins (Some m))) len begun, (h0.0, l1, h0.1, h0.2, (h1.0, l2, h1.1, h1.2, (h2.0, l3, h2.1, h2.2, (h3.0, l4, h3.1, h3.2, (h4.0, l5, h4.1, h4.2, (h5.0, l6, h5.1, h5.2, (h6.0, l7, h6.1, h6.2, (h7.0, l8, h7.1, h7.2, ended)))))))))

pub document_sent : (feature : Option Data) (comments uri : Data) (n : ℕ) (old l0 l1 l2 l3 new : Log) → n ≡ 2 + option_count feature
    → Logs old l0 (map_begins (Some n))
    → SendsMember (codes "comments") comments l0 l1
    → SendsOptional (codes "feature") feature l1 l2
    → SendsMember (codes "uri") uri l2 l3
    → Logs l3 new map_ends → SendsValue (object_with (codes "feature") feature ((codes "comments", comments) ∷ (codes "uri", uri) ∷ [])) old new
document_sent None comments uri n old l0 l1 l2 l3 new len begun h0 h1 h2 ended =
    (l0, subst (λ m. Logs old l0 (map_begins (Some m))) len begun, (h0.0, l1, h0.1, h0.2, ((subst (λ m. SendsMember (codes "uri") uri m l3) h1 h2).0, l3, (subst (λ m. SendsMember (codes "uri") uri m l3) h1 h2).1, (subst (λ m. SendsMember (codes "uri") uri m l3) h1 h2).2, ended)))
document_sent (Some feature) comments uri n old l0 l1 l2 l3 new len begun h0 h1 h2 ended =
    (l0, subst (λ m. Logs old l0 (map_begins (Some m))) len begun, (h0.0, l1, h0.1, h0.2, (h1.0, l2, h1.1, h1.2, (h2.0, l3, h2.1, h2.2, ended))))
