-- Reading the values of a list, with and without ids.
use Rattle.std.proofs.Common.{◌≡◌, ℕ, ◌+◌, List, [], ◌∷◌, ◌++◌, length, map, Result, Ok, refl, sym, ap, ◌∙◌, subst, decimal, append_assoc, append-nil, flat_map}
use Rattle.std.proofs.lemmas.List.{map-append, length-map, length-append}
use Rattle.std.specs.List.{AllByRecursion}
use Rattle.serde_json.specs.Data.{Data}
use Rattle.serde_json.specs.View.{items_of}
use Rattle.gk_grammar.specs.Grammar.{Node}
use Rattle.gk_grammar.proofs.Complete.{Counts, counts_apart}
use Rattle.cm_envelope.specs.Member.{each}
use Rattle.cm_envelope.specs.Documents.{Ids, NodeRead, each_node}

pub each_is : {A B : Type 0} (read : Data → Result B (List ℕ)) (written : A → Data) (view : A → B) → ((x : A) → read (written x) ≡ Ok (view x)) → (xs : List A) →
    each read (items_of (map written xs)) ≡ Ok (map view xs)
each_is read written view one [] = refl
each_is read written view one (x ∷ xs) = rw (one x, each_is read written view one xs) refl

-- ---- ids

-- the ids of nodes
abbrev pub names : List Node → Ids
names nodes = map (λ (x : Node). decimal x.1) nodes

-- after the first of the nodes the numbers go on
pub next_one : (ids : Ids) (id : List ℕ) (nodes : List Node) → Counts (length ids + 1) nodes → Counts (length (ids ++ id ∷ [])) nodes
next_one ids id nodes c = rw (length-append ids (id ∷ [])) c

pub apart : (ids : Ids) (a b : List Node) → Counts (length ids) (a ++ b) → Counts (length ids) a × Counts (length (ids ++ names a)) b
apart ids a b c =
    let parts = counts_apart (length ids) a b c in
    let e : length (ids ++ names a) ≡ length ids + length a = length-append ids (names a) ∙ ap (λ n. length ids + n) (length-map a _) in
    (parts.0, rw e parts.1)

-- ---- nodes

-- What is written of a node is read as the node, and adds the ids of its nodes.
abbrev pub IsRead : {A B : Type 0} → (Ids → Data → NodeRead B) → (A → Data) → (A → List Node) → (A → B) → (A → Type 0) → Type 0
IsRead {A} read written nodes view HasLines = (ids : Ids) (x : A) → HasLines x → Counts (length ids) (nodes x) → read ids (written x) ≡ Ok (view x, ids ++ names (nodes x))

pub nodes_are : {A B : Type 0} (read : Ids → Data → NodeRead B) (written : A → Data) (nodes : A → List Node) (view : A → B) (HasLines : A → Type 0) → IsRead read written nodes view HasLines →
    (ids : Ids) (xs : List A) → AllByRecursion HasLines xs → Counts (length ids) (flat_map nodes xs) →
    each_node read ids (items_of (map written xs)) ≡ Ok (map view xs, ids ++ names (flat_map nodes xs))
nodes_are {A} {B} read written nodes view HasLines one ids [] h c = ap (λ (i : Ids). Ok ([], i)) (sym (append-nil ids))
nodes_are {A} {B} read written nodes view HasLines one ids (x ∷ xs) h c =
    let parts = apart ids (nodes x) (flat_map nodes xs) c in
    let here = one ids x h.0 parts.0 in
    let others = nodes_are read written nodes view HasLines one (ids ++ names (nodes x)) xs h.1 parts.1 in
    rw (here, others) (ap (λ (i : Ids). Ok (view x ∷ map view xs, i))
    (append_assoc ids (names (nodes x)) (names (flat_map nodes xs)) ∙ ap (λ (i : Ids). ids ++ i) (sym (map-append _ (nodes x) (flat_map nodes xs)))))

singles : {A : Type 0} (f : A → Node) (xs : List A) → flat_map (λ x. f x ∷ []) xs ≡ map f xs
singles f [] = refl
singles f (x ∷ xs) = ap (λ ns. f x ∷ ns) (singles f xs)

-- the same where each is one node
pub each_one : {A B : Type 0} (read : Ids → Data → NodeRead B) (written : A → Data) (node : A → Node) (view : A → B) (HasLines : A → Type 0) →
    IsRead read written (λ x. node x ∷ []) view HasLines →
    (ids : Ids) (xs : List A) → AllByRecursion HasLines xs → Counts (length ids) (map node xs) → each_node read ids (items_of (map written xs)) ≡ Ok (map view xs, ids ++ names (map node xs))
each_one {A} {B} read written node view HasLines one ids xs h =
    subst (λ (ns : List Node). Counts (length ids) ns → each_node read ids (items_of (map written xs)) ≡ Ok (map view xs, ids ++ names ns))
    (singles node xs) (nodes_are read written (λ x. node x ∷ []) view HasLines one ids xs h)
