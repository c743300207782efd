-- Reading the items of a list one after the other, as a loop does.
use Rattle.std.proofs.Common.{◌≡◌, ◌∙◌, ◌+◌, ◌<◌, ◌≤◌, ℕ, List, [], ◌∷◌, ◌++◌, ap, append-nil, append_assoc, drop, get_or, length, refl, sym, subst, Result, Ok, Err}
use Rattle.std.specs.Prelude.{IsErr, IsErrAnd}
use Rattle.std.proofs.lemmas.List.{drop_all, drop_more}
use Rattle.serde_json.specs.Data.{Data, Items, item}
use Rattle.serde_json.specs.View.{items_view, view}
use Rattle.serde_json.specs.declared.value.Value.{Value}
use Rattle.cm_envelope.specs.Member.{◌>>=◌, each}
use Rattle.cm_reading.specs.Giving.{FailsAtMember, GivesMember}
use Rattle.cm_envelope.specs.Documents.{Ids, NodeRead, each_node}
use Rattle.cm_reading.specs.Giving.{GivesNode}
use Rattle.cm_reading.specs.declared.fault.MemberFault.{MemberFault}
use Rattle.cm_reading.specs.declared.fault.MemberFault.TheVariants.{Bad, Memory}

-- a fault is handed on as it is
pub refusal_given : {A : Type 0} (r : Result A MemberFault) (fault : MemberFault) (reading : Result A (List ℕ))
    → IsErr r × IsErrAnd r (λ e. e ≡ fault) → FailsAtMember fault reading → GivesMember r reading
refusal_given (Ok x) fault reading told f = cc (told.0)
refusal_given (Err e) fault reading told f = subst (λ (x : MemberFault). FailsAtMember x reading) (sym told.1) f

pub node_refusal_given : {A : Type 0} (r : Result A MemberFault) (ids : Ids) (fault : MemberFault) (reading : NodeRead A)
    → IsErr r × IsErrAnd r (λ e. e ≡ fault) → FailsAtMember fault reading → GivesNode r ids reading
node_refusal_given (Ok x) ids fault reading told f = cc (told.0)
node_refusal_given (Err e) ids fault reading told f = subst (λ (x : MemberFault). FailsAtMember x reading) (sym told.1) f

-- what was read before, and what is still read
abbrev pub with_front : {A : Type 0} → List A → Result (List A) (List ℕ) → Result (List A) (List ℕ)
with_front front (Ok others) = Ok (front ++ others)
with_front front (Err name) = Err name

-- the items from the i-th on
abbrev pub items_from : ℕ → List Value → Items
items_from i vs = items_view (drop i vs)

module _ {A : Type 0} (read : Data → Result A (List ℕ)) where
  first_moved : (front : List A) (x : A) (r : Result (List A) (List ℕ)) → with_front (front ++ x ∷ []) r ≡ with_front front (r >>= λ others. Ok (x ∷ others))
  first_moved front x (Ok others) = ap Ok (append_assoc front (x ∷ []) others)
  first_moved front x (Err name) = refl

  -- one item more is read
  pub one_read : (front new : List A) (x : A) (vs : List Value) (i : ℕ) (v : Value) (all : Result (List A) (List ℕ))
      → new ≡ front ++ x ∷ [] → read (view v) ≡ Ok x → i < length vs → v ≡ get_or vs i v
      → with_front front (each read (items_from i vs)) ≡ all → with_front new (each read (items_from (i + 1) vs)) ≡ all
  one_read front new x vs i v all n is l e h =
      let rest = each read (items_from (i + 1) vs) in
      let cut : items_from i vs ≡ item (view v) (items_from (i + 1) vs) = ap items_view (drop_more vs i v l ∙ ap (λ w. w ∷ drop (i + 1) vs) (sym e)) in
      ap (λ f. with_front f rest) n
      ∙ first_moved front x rest
      ∙ ap (with_front front) (sym (ap (each read) cut ∙ ap (λ r. r >>= λ first. rest >>= λ others. Ok (first ∷ others)) is))
      ∙ h

  -- the next item is refused
  pub one_refused : (front : List A) (vs : List Value) (i : ℕ) (v : Value) (fault : MemberFault) (all : Result (List A) (List ℕ))
      → FailsAtMember fault (read (view v)) → i < length vs → v ≡ get_or vs i v → with_front front (each read (items_from i vs)) ≡ all → FailsAtMember fault all
  one_refused front vs i v (Bad name) all f l e h =
      let cut : items_from i vs ≡ item (view v) (items_from (i + 1) vs) = ap items_view (drop_more vs i v l ∙ ap (λ w. w ∷ drop (i + 1) vs) (sym e)) in
      sym h ∙ ap (λ ds. with_front front (each read ds)) cut ∙ ap (λ r. with_front front (r >>= λ first. each read (items_from (i + 1) vs) >>= λ others. Ok (first ∷ others))) f
  one_refused front vs i v Memory all f l e h = tt

  -- no item is left
  pub all_read : (front : List A) (vs : List Value) (i : ℕ) (all : Result (List A) (List ℕ))
      → length vs ≤ i → with_front front (each read (items_from i vs)) ≡ all → all ≡ Ok front
  all_read front vs i all l h = sym h ∙ ap (λ ws. with_front front (each read (items_view ws))) (drop_all i vs l) ∙ ap Ok (append-nil front)

-- what was read before, and what is still read, of nodes
abbrev pub with_nodes : {A : Type 0} → List A → NodeRead (List A) → NodeRead (List A)
with_nodes front (Ok others) = Ok (front ++ others.0, others.1)
with_nodes front (Err name) = Err name

module _ {A : Type 0} (read : Ids → Data → NodeRead A) where
  -- the next node is refused
  pub one_node_refused : (front : List A) (ids : Ids) (vs : List Value) (i : ℕ) (v : Value) (fault : MemberFault) (all : NodeRead (List A))
      → FailsAtMember fault (read ids (view v)) → i < length vs → v ≡ get_or vs i v → with_nodes front (each_node read ids (items_from i vs)) ≡ all → FailsAtMember fault all
  one_node_refused front ids vs i v (Bad name) all f l e h =
      let cut : items_from i vs ≡ item (view v) (items_from (i + 1) vs) = ap items_view (drop_more vs i v l ∙ ap (λ w. w ∷ drop (i + 1) vs) (sym e)) in
      sym h ∙ ap (λ ds. with_nodes front (each_node read ids ds)) cut
      ∙ ap (λ r. with_nodes front (r >>= λ first. each_node read first.1 (items_from (i + 1) vs) >>= λ others. Ok (first.0 ∷ others.0, others.1))) f
  one_node_refused front ids vs i v Memory all f l e h = tt
