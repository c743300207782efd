-- What is said of a pickle, and the pickle that it is but for the ids that are free.
use Rattle.std.proofs.Common.{◌≡◌, ◌∙◌, ◌≤◌, ℕ, true, cond, List, [], ◌∷◌, Option, Some, None, map, refl, sym, ap, ap₂, arith}
use Rattle.std.specs.Prelude.{codes}
use Rattle.std.specs.Str.{bytes_eq}
use Rattle.serde_json.specs.Data.{Data, Items, Members, array, depth, item, items_depth, member, no_items, no_members, object, string}
use Rattle.serde_json.specs.Read.{max_depth}
use Rattle.serde_json.specs.View.{items_of}
use Rattle.cm_envelope.specs.declared.pickle.Pickle.{Pickle}
use Rattle.cm_envelope.specs.declared.pickle.PickleArgument.{PickleArgument}
use Rattle.cm_envelope.specs.declared.pickle.PickleArgument.TheVariants as argument
use Rattle.cm_envelope.specs.declared.pickle.PickleCell.{PickleCell}
use Rattle.cm_envelope.specs.declared.pickle.PickleDocString.{PickleDocString}
use Rattle.cm_envelope.specs.declared.pickle.PickleRow.{PickleRow}
use Rattle.cm_envelope.specs.declared.pickle.PickleStep.{PickleStep}
use Rattle.cm_envelope.specs.declared.pickle.PickleTable.{PickleTable}
use Rattle.cm_envelope.specs.declared.pickle.PickleTag.{PickleTag}
use Rattle.cm_envelope.specs.declared.pickle.StepKind.{StepKind}
use Rattle.cm_envelope.specs.declared.pickle.StepKind.TheVariants as kind
use Rattle.cm_differs.specs.DuePickles.{without_id, without_ids}
use Rattle.cm_differs.specs.PickleData.{argument_data, bare_pickle_data, pickle_cell_data, pickle_doc_string_data, kind_word, pickle_row_data, pickle_step_data, pickle_tag_data}
use Rattle.cm_read_back.specs.Values.{in_order, items_in_order}
use Rattle.cm_read_back.proofs.Orders.{items_are}
use Rattle.cm_read_back.proofs.Depths.{items_within}

-- ---- the pickle that a value is

texts_of : Items → List (List ℕ)
texts_of (item (string s) ds) = s ∷ texts_of ds
texts_of _ = []

cells_of : Items → List PickleCell
cells_of (item (object (member v (string value) no_members)) ds) = record { value = value } ∷ cells_of ds
cells_of _ = []

rows_of : Items → List PickleRow
rows_of (item (object (member c (array cells) no_members)) ds) = record { cells = cells_of cells } ∷ rows_of ds
rows_of _ = []

doc_string_of : Data → PickleDocString
doc_string_of (object (member c (string content) no_members)) = record { content = content; media_type = None }
doc_string_of (object (member c (string content) (member m (string media) no_members))) = record { content = content; media_type = Some media }
doc_string_of _ = record { content = []; media_type = None }

table_of : Data → PickleTable
table_of (object (member r (array rows) no_members)) = record { rows = rows_of rows }
table_of _ = record { rows = [] }

argument_of : Data → PickleArgument
argument_of (object (member name d no_members)) = cond (bytes_eq name (codes "dataTable")) (argument.Table (table_of d)) (argument.Text (doc_string_of d))
argument_of _ = argument.Table (record { rows = [] })

kind_of : List ℕ → StepKind
kind_of word =
    cond (bytes_eq word (codes "Context")) kind.Context (cond (bytes_eq word (codes "Action")) kind.Action (cond (bytes_eq word (codes "Outcome")) kind.Outcome kind.Unknown))

-- after the argument
step_with : Option PickleArgument → Members → PickleStep
step_with argument (member n (array nodes) (member t (string text) no_members)) = record { id = []; text = text; kind = None; ast_node_ids = texts_of nodes; argument = argument }
step_with argument (member n (array nodes) (member t (string text) (member k (string word) no_members))) =
    record { id = []; text = text; kind = Some (kind_of word); ast_node_ids = texts_of nodes; argument = argument }
step_with argument _ = record { id = []; text = []; kind = None; ast_node_ids = []; argument = argument }

step_of : Data → PickleStep
step_of (object (member n (array nodes) ms)) = step_with None (member n (array nodes) ms)
step_of (object (member a value ms)) = step_with (Some (argument_of value)) ms
step_of _ = step_with None no_members

steps_of : Items → List PickleStep
steps_of no_items = []
steps_of (item d ds) = step_of d ∷ steps_of ds

tags_of : Items → List PickleTag
tags_of (item (object (member i (string id) (member n (string name) no_members))) ds) = record { name = name; ast_node_id = id } ∷ tags_of ds
tags_of _ = []

pickle_of : Data → Pickle
pickle_of (object (member p (object (member i (array nodes) (member l (string language) (member n (string name) (member s (array steps) (member t (array tags) (member u (string uri) no_members))))))) no_members)) =
    record { id = []; uri = uri; name = name; language = language; ast_node_ids = texts_of nodes; tags = tags_of tags; steps = steps_of steps }
pickle_of _ = record { id = []; uri = []; name = []; language = []; ast_node_ids = []; tags = []; steps = [] }

-- ---- a pickle is read back

texts_back : (ts : List (List ℕ)) → texts_of (items_of (map string ts)) ≡ ts
unfolding texts_of
texts_back [] = refl
texts_back (t ∷ ts) = ap (λ (l : List (List ℕ)). t ∷ l) (texts_back ts)

cells_back : (cs : List PickleCell) → cells_of (items_of (map pickle_cell_data cs)) ≡ cs
unfolding cells_of
cells_back [] = refl
cells_back (c ∷ cs) = ap (λ (l : List PickleCell). c ∷ l) (cells_back cs)

rows_back : (rs : List PickleRow) → rows_of (items_of (map pickle_row_data rs)) ≡ rs
unfolding rows_of
rows_back [] = refl
rows_back (r ∷ rs) = ap₂ (λ (cs : List PickleCell) (l : List PickleRow). record { cells = cs } ∷ l) (cells_back r.cells) (rows_back rs)

doc_string_back : (d : PickleDocString) (m : Option (List ℕ)) → doc_string_of (pickle_doc_string_data (record d { media_type = m })) ≡ record d { media_type = m }
unfolding doc_string_of
doc_string_back d None = refl
doc_string_back d (Some media) = refl

argument_back : (a : PickleArgument) → argument_of (argument_data a) ≡ a
unfolding argument_of table_of
argument_back (argument.Table t) = ap (λ (rs : List PickleRow). argument.Table (record { rows = rs })) (rows_back t.rows)
argument_back (argument.Text d) = ap argument.Text (doc_string_back d d.media_type)

kind_back : (k : StepKind) → kind_of (kind_word k) ≡ k
unfolding kind_of
kind_back kind.Unknown = refl
kind_back kind.Context = refl
kind_back kind.Action = refl
kind_back kind.Outcome = refl

step_back : (s : PickleStep) (a : Option PickleArgument) (k : Option StepKind) → step_of (pickle_step_data (record s { argument = a; kind = k })) ≡ without_id (record s { argument = a; kind = k })
unfolding step_of step_with
step_back s None None = ap (λ (ids : List (List ℕ)). record s { id = []; kind = None; argument = None; ast_node_ids = ids }) (texts_back s.ast_node_ids)
step_back s None (Some k) = ap₂ (λ (ids : List (List ℕ)) (x : StepKind). record s { id = []; kind = Some x; argument = None; ast_node_ids = ids }) (texts_back s.ast_node_ids) (kind_back k)
step_back s (Some (argument.Table t)) None =
    ap₂ (λ (ids : List (List ℕ)) (x : PickleArgument). record s { id = []; kind = None; argument = Some x; ast_node_ids = ids }) (texts_back s.ast_node_ids) (argument_back (argument.Table t))
step_back s (Some (argument.Text d)) None =
    ap₂ (λ (ids : List (List ℕ)) (x : PickleArgument). record s { id = []; kind = None; argument = Some x; ast_node_ids = ids }) (texts_back s.ast_node_ids) (argument_back (argument.Text d))
step_back s (Some (argument.Table t)) (Some k) =
    let ids = texts_back s.ast_node_ids in
    let same = argument_back (argument.Table t) in
    let word = kind_back k in
    λ i. record s { id = []; kind = Some (word i); argument = Some (same i); ast_node_ids = ids i }
step_back s (Some (argument.Text d)) (Some k) =
    let ids = texts_back s.ast_node_ids in
    let same = argument_back (argument.Text d) in
    let word = kind_back k in
    λ i. record s { id = []; kind = Some (word i); argument = Some (same i); ast_node_ids = ids i }

steps_back : (ss : List PickleStep) → steps_of (items_of (map pickle_step_data ss)) ≡ map without_id ss
unfolding steps_of
steps_back [] = refl
steps_back (s ∷ ss) = ap₂ (λ (x : PickleStep) (l : List PickleStep). x ∷ l) (step_back s s.argument s.kind) (steps_back ss)

tags_back : (ts : List PickleTag) → tags_of (items_of (map pickle_tag_data ts)) ≡ ts
unfolding tags_of
tags_back [] = refl
tags_back (t ∷ ts) = ap (λ (l : List PickleTag). t ∷ l) (tags_back ts)

pickle_back : (p : Pickle) → pickle_of (bare_pickle_data p) ≡ without_ids p
unfolding pickle_of
pickle_back p =
    let ids = texts_back p.ast_node_ids in
    let tags = tags_back p.tags in
    let steps = steps_back p.steps in
    λ i. record p { id = []; ast_node_ids = ids i; tags = tags i; steps = steps i }

pub same_pickles : (p q : Pickle) → bare_pickle_data p ≡ bare_pickle_data q → without_ids p ≡ without_ids q
same_pickles p q e = sym (pickle_back p) ∙ ap pickle_of e ∙ pickle_back q

-- ---- its members are in order, and it is shallow

texts_are : (ts : List (List ℕ)) → items_in_order (items_of (map string ts)) ≡ true
texts_are ts = items_are string (λ t. refl) ts

row_is : (r : PickleRow) → in_order (pickle_row_data r) ≡ true
row_is r = rw (items_are pickle_cell_data (λ c. refl) r.cells) refl

doc_string_is : (d : PickleDocString) (m : Option (List ℕ)) → in_order (pickle_doc_string_data (record d { media_type = m })) ≡ true
doc_string_is d None = refl
doc_string_is d (Some media) = refl

argument_is : (a : PickleArgument) → in_order (argument_data a) ≡ true
argument_is (argument.Table t) = rw (items_are pickle_row_data row_is t.rows) refl
argument_is (argument.Text d) = rw (doc_string_is d d.media_type) refl

step_is : (s : PickleStep) (a : Option PickleArgument) (k : Option StepKind) → in_order (pickle_step_data (record s { argument = a; kind = k })) ≡ true
step_is s None None = rw (texts_are s.ast_node_ids) refl
step_is s None (Some k) = rw (texts_are s.ast_node_ids) refl
step_is s (Some a) None = rw (texts_are s.ast_node_ids, argument_is a) refl
step_is s (Some a) (Some k) = rw (texts_are s.ast_node_ids, argument_is a) refl

pub pickle_in_order : (p : Pickle) → in_order (bare_pickle_data p) ≡ true
pickle_in_order p = rw (texts_are p.ast_node_ids, items_are pickle_step_data (λ s. step_is s s.argument s.kind) p.steps, items_are pickle_tag_data (λ t. refl) p.tags) refl

texts_within : (ts : List (List ℕ)) → items_depth (items_of (map string ts)) ≤ 0
texts_within ts = items_within string 0 (λ t. omega arith) ts

row_within : (r : PickleRow) → depth (pickle_row_data r) ≤ 3
row_within r = omega (arith, items_within pickle_cell_data 1 (λ c. omega arith) r.cells)

doc_string_within : (d : PickleDocString) (m : Option (List ℕ)) → depth (pickle_doc_string_data (record d { media_type = m })) ≤ 1
doc_string_within d None = omega arith
doc_string_within d (Some media) = omega arith

argument_within : (a : PickleArgument) → depth (argument_data a) ≤ 6
argument_within (argument.Table t) = omega (arith, items_within pickle_row_data 3 row_within t.rows)
argument_within (argument.Text d) = omega (arith, doc_string_within d d.media_type)

step_within : (s : PickleStep) (a : Option PickleArgument) (k : Option StepKind) → depth (pickle_step_data (record s { argument = a; kind = k })) ≤ 7
step_within s None None = omega (arith, texts_within s.ast_node_ids)
step_within s None (Some k) = omega (arith, texts_within s.ast_node_ids)
step_within s (Some a) None = omega (arith, texts_within s.ast_node_ids, argument_within a)
step_within s (Some a) (Some k) = omega (arith, texts_within s.ast_node_ids, argument_within a)

pub pickle_shallow : (p : Pickle) → depth (bare_pickle_data p) ≤ max_depth
pickle_shallow p =
    omega (arith, texts_within p.ast_node_ids, items_within pickle_step_data 7 (λ s. step_within s s.argument s.kind) p.steps, items_within pickle_tag_data 1 (λ t. omega arith) p.tags)
