-- Objects with members that may be absent, from what is sent for their parts.
use Rattle.std.proofs.Common.{◌≡◌, ℕ, ◌+◌, [], ◌∷◌, Option, Some, None, codes, subst}
use Rattle.serde.specs.Event.{Log, Logs, map_begins, map_ends}
use Rattle.serde_json.specs.Data.{Data, object}
use Rattle.serde_json.specs.Events.{SendsValue}
use Rattle.gk_document.specs.declared.tree.Argument.{Argument}
use Rattle.gk_document.specs.declared.tree.Argument.TheVariants.{Table, Text}
use Rattle.cm_messages.specs.Layout.{members_of, object_with, object_with_two}
use Rattle.cm_messages.specs.Sending.{SendsMember, SendsOptional, option_count}
use Rattle.cm_differs.specs.PartData.{with_argument}
use Rattle.cm_differs.specs.Sending.{SendsArgument}

pub two_counted : {A B : Type 0} (n m : ℕ) (a : Option A) (b : Option B) → n ≡ option_count a → m ≡ option_count b → 2 + n + m ≡ 2 + option_count a + option_count b
two_counted n m a b p q = rw (p, q)

pub doc_string_sent : (media : Option Data) (content location : Data) (n : ℕ) (old l0 l1 l2 l3 new : Log) → n ≡ 2 + option_count media
    → Logs old l0 (map_begins (Some n))
    → SendsMember (codes "content") content l0 l1
    → SendsMember (codes "location") location l1 l2
    → SendsOptional (codes "mediaType") media l2 l3
    → Logs l3 new map_ends → SendsValue (object_with (codes "mediaType") media ((codes "content", content) ∷ (codes "location", location) ∷ [])) old new
doc_string_sent None content location n old l0 l1 l2 l3 new len begun h0 h1 h2 ended =
    (l0, subst (λ m. Logs old l0 (map_begins (Some m))) len begun, (h0.0, l1, h0.1, h0.2, (h1.0, l2, h1.1, h1.2, subst (λ m. Logs m new map_ends) h2 ended)))
doc_string_sent (Some media) content location n old l0 l1 l2 l3 new len begun h0 h1 h2 ended =
    (l0, subst (λ m. Logs old l0 (map_begins (Some m))) len begun, (h0.0, l1, h0.1, h0.2, (h1.0, l2, h1.1, h1.2, (h2.0, l3, h2.1, h2.2, ended))))

pub step_sent : (argument : Option Argument) (keyword location text : Data) (n : ℕ) (old l0 l1 l2 l3 l4 new : Log) → n ≡ 3 + option_count argument
    → Logs old l0 (map_begins (Some n))
    → SendsArgument argument l0 l1
    → SendsMember (codes "keyword") keyword l1 l2
    → SendsMember (codes "location") location l2 l3
    → SendsMember (codes "text") text l3 l4
    → Logs l4 new map_ends
    → SendsValue (object (with_argument argument (members_of ((codes "keyword", keyword) ∷ (codes "location", location) ∷ (codes "text", text) ∷ [])))) old new
step_sent None keyword location text n old l0 l1 l2 l3 l4 new len begun h0 h1 h2 h3 ended =
    (l0, subst (λ m. Logs old l0 (map_begins (Some m))) len begun, ((subst (λ m. SendsMember (codes "keyword") keyword m l2) h0 h1).0, l2, (subst (λ m. SendsMember (codes "keyword") keyword m l2) h0 h1).1, (subst (λ m. SendsMember (codes "keyword") keyword m l2) h0 h1).2, (h2.0, l3, h2.1, h2.2, (h3.0, l4, h3.1, h3.2, ended))))
step_sent (Some (Table rows)) keyword location text n old l0 l1 l2 l3 l4 new len begun h0 h1 h2 h3 ended =
    (l0, subst (λ m. Logs old l0 (map_begins (Some m))) len begun, (h0.0, l1, h0.1, h0.2, (h1.0, l2, h1.1, h1.2, (h2.0, l3, h2.1, h2.2, (h3.0, l4, h3.1, h3.2, ended)))))
step_sent (Some (Text d)) keyword location text n old l0 l1 l2 l3 l4 new len begun h0 h1 h2 h3 ended =
    (l0, subst (λ m. Logs old l0 (map_begins (Some m))) len begun, (h0.0, l1, h0.1, h0.2, (h1.0, l2, h1.1, h1.2, (h2.0, l3, h2.1, h2.2, (h3.0, l4, h3.1, h3.2, ended)))))

pub pickle_step_sent : (argument kind : Option Data) (nodes text : Data) (n : ℕ) (old l0 l1 l2 l3 l4 new : Log) → n ≡ 2 + option_count argument + option_count kind
    → Logs old l0 (map_begins (Some n))
    → SendsOptional (codes "argument") argument l0 l1
    → SendsMember (codes "astNodeIds") nodes l1 l2
    → SendsMember (codes "text") text l2 l3
    → SendsOptional (codes "type") kind l3 l4
    → Logs l4 new map_ends
    → SendsValue (object_with_two (codes "argument") argument (codes "type") kind ((codes "astNodeIds", nodes) ∷ (codes "text", text) ∷ [])) old new
pickle_step_sent None None nodes text n old l0 l1 l2 l3 l4 new len begun h0 h1 h2 h3 ended =
    (l0, subst (λ m. Logs old l0 (map_begins (Some m))) len begun, ((subst (λ m. SendsMember (codes "astNodeIds") nodes m l2) h0 h1).0, l2, (subst (λ m. SendsMember (codes "astNodeIds") nodes m l2) h0 h1).1, (subst (λ m. SendsMember (codes "astNodeIds") nodes m l2) h0 h1).2, (h2.0, l3, h2.1, h2.2, subst (λ m. Logs m new map_ends) h3 ended)))
pickle_step_sent None (Some kind) nodes text n old l0 l1 l2 l3 l4 new len begun h0 h1 h2 h3 ended =
    (l0, subst (λ m. Logs old l0 (map_begins (Some m))) len begun, ((subst (λ m. SendsMember (codes "astNodeIds") nodes m l2) h0 h1).0, l2, (subst (λ m. SendsMember (codes "astNodeIds") nodes m l2) h0 h1).1, (subst (λ m. SendsMember (codes "astNodeIds") nodes m l2) h0 h1).2, (h2.0, l3, h2.1, h2.2, (h3.0, l4, h3.1, h3.2, ended))))
pickle_step_sent (Some argument) None nodes text n old l0 l1 l2 l3 l4 new len begun h0 h1 h2 h3 ended =
    (l0, subst (λ m. Logs old l0 (map_begins (Some m))) len begun, (h0.0, l1, h0.1, h0.2, (h1.0, l2, h1.1, h1.2, (h2.0, l3, h2.1, h2.2, subst (λ m. Logs m new map_ends) h3 ended))))
pickle_step_sent (Some argument) (Some kind) nodes text n old l0 l1 l2 l3 l4 new len begun h0 h1 h2 h3 ended =
    (l0, subst (λ m. Logs old l0 (map_begins (Some m))) len begun, (h0.0, l1, h0.1, h0.2, (h1.0, l2, h1.1, h1.2, (h2.0, l3, h2.1, h2.2, (h3.0, l4, h3.1, h3.2, ended)))))
