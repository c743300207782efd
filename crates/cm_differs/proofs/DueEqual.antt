-- A pickle is the one that is due exactly where both are equal without what is free.
use Rattle.std.proofs.Common.{◌≡◌, refl, ap, ◌∙◌, List, [], ◌∷◌, Option, Some, None, true, Bool, map}
use Rattle.std.specs.Prelude.{option_map, slice_get, unwrap_or}
use Rattle.std.specs.Str.{bytes_eq}
use Rattle.gk_pickle.specs.declared.pickles.PickleArgument.TheVariants as due_argument
use Rattle.gk_pickle.specs.declared.pickles.StepType.{StepType}
use Rattle.gk_pickle.specs.declared.pickles.StepType.TheVariants as due_kind
use Rattle.cm_envelope.specs.declared.pickle.Pickle.{Pickle}
use Rattle.cm_envelope.specs.declared.pickle.PickleArgument.{PickleArgument}
use Rattle.cm_envelope.specs.declared.pickle.PickleArgument.TheVariants as argument
use Rattle.cm_envelope.specs.declared.pickle.PickleCell.{PickleCell}
use Rattle.cm_envelope.specs.declared.pickle.PickleDocString.{PickleDocString}
use Rattle.cm_envelope.specs.declared.pickle.PickleRow.{PickleRow}
use Rattle.cm_envelope.specs.declared.pickle.PickleStep.{PickleStep}
use Rattle.cm_envelope.specs.declared.pickle.PickleTable.{PickleTable}
use Rattle.cm_envelope.specs.declared.pickle.PickleTag.{PickleTag}
use Rattle.cm_envelope.specs.declared.pickle.StepKind.{StepKind}
use Rattle.cm_envelope.specs.declared.pickle.StepKind.TheVariants as line
use Rattle.cm_stream.specs.Sources.{DueArgument, DuePickle, DueStep, english, fits_type, has_cells, ids_at, is_argument, is_due, is_due_step, is_due_tag, is_type}
use Rattle.cm_stream.specs.Texts.{Utf8, same_list, same_option, same_texts}
use Rattle.cm_stream.proofs.Lists.{and_true}
use Rattle.cm_stream.proofs.Found.{bytes_are}
use Rattle.cm_stream.proofs.Tells.{Tells, five, four, maybe_texts, text_lists, texts, whole_lists, whole_options}
use Rattle.cm_differs.specs.DuePickles.{DueIsEqual, argument_of, due_cell, due_pickle, due_row, due_pickle_step, due_pickle_steps, due_tag, step_kind, without_id, without_ids}

-- ---- tables and doc strings

abbrev same_cell : PickleCell → Utf8 → Bool
same_cell c = bytes_eq c.value

cells : Tells same_cell (λ c. c) due_cell
cells = record {
  is = λ c t h. let v = bytes_are c.value t h in λ i. record { value = v i };
  by = λ c t e. texts.by c.value t (ap (λ (x : PickleCell). x.value) e);
}

rows : Tells has_cells (λ r. r) due_row
rows = record {
  is = λ r ts h. let k = (whole_lists cells).is r.cells ts h in λ i. record { cells = k i };
  by = λ r ts e. (whole_lists cells).by r.cells ts (ap (λ (x : PickleRow). x.cells) e);
}

arguments : Tells is_argument (λ a. a) argument_of
arguments = record { is = are; by = back }
  where
    are : (a : PickleArgument) (due : DueArgument) → is_argument a due ≡ true → a ≡ argument_of due
    are (argument.Table t) (due_argument.Table due) h =
        let k = (whole_lists rows).is t.rows due h in
        λ i. argument.Table (record { rows = k i })
    are (argument.Text d) (due_argument.Text due) h =
        let k = and_true (same_option bytes_eq d.media_type due.media) (bytes_eq d.content due.content) h in
        let m = maybe_texts.is d.media_type due.media k.0 in
        let t = bytes_are d.content due.content k.1 in
        λ i. argument.Text (record { content = t i; media_type = m i })
    are (argument.Table t) (due_argument.Text due) h = cc
    are (argument.Text d) (due_argument.Table due) h = cc

    back : (a : PickleArgument) (due : DueArgument) → a ≡ argument_of due → is_argument a due ≡ true
    back (argument.Table t) (due_argument.Table due) e =
        let same : t ≡ (record { rows = map due_row due }) = cc in
        (whole_lists rows).by t.rows due (ap (λ (x : PickleTable). x.rows) same)
    back (argument.Text d) (due_argument.Text due) e =
        let same : d ≡ (record { content = due.content; media_type = due.media }) = cc in
        rw (maybe_texts.by d.media_type due.media (ap (λ (x : PickleDocString). x.media_type) same), texts.by d.content due.content (ap (λ (x : PickleDocString). x.content) same)) refl
    back (argument.Table t) (due_argument.Text due) e = cc
    back (argument.Text d) (due_argument.Table due) e = cc

-- ---- steps

type_is : (k : StepKind) (due : StepType) → is_type k due ≡ true → k ≡ step_kind due
type_is line.Unknown due_kind.Unknown h = refl
type_is line.Context due_kind.Context h = refl
type_is line.Action due_kind.Action h = refl
type_is line.Outcome due_kind.Outcome h = refl
type_is line.Unknown due_kind.Context h = cc
type_is line.Unknown due_kind.Action h = cc
type_is line.Unknown due_kind.Outcome h = cc
type_is line.Context due_kind.Unknown h = cc
type_is line.Context due_kind.Action h = cc
type_is line.Context due_kind.Outcome h = cc
type_is line.Action due_kind.Unknown h = cc
type_is line.Action due_kind.Context h = cc
type_is line.Action due_kind.Outcome h = cc
type_is line.Outcome due_kind.Unknown h = cc
type_is line.Outcome due_kind.Context h = cc
type_is line.Outcome due_kind.Action h = cc

is_own_type : (due : StepType) → is_type (step_kind due) due ≡ true
is_own_type due_kind.Unknown = refl
is_own_type due_kind.Context = refl
is_own_type due_kind.Action = refl
is_own_type due_kind.Outcome = refl

fits_is : (k : Option StepKind) (due : StepType) → fits_type k due ≡ true → k ≡ option_map (λ kind. step_kind due) k
fits_is None due h = refl
fits_is (Some k) due h = ap Some (type_is k due h)

is_fit : (k : Option StepKind) (due : StepType) → k ≡ option_map (λ kind. step_kind due) k → fits_type k due ≡ true
is_fit None due e = refl
is_fit (Some k) due e = let same : k ≡ step_kind due = cc in ap (λ x. is_type x due) same ∙ is_own_type due

step_is : (ids : List Utf8) (s : PickleStep) (due : DueStep) → is_due_step ids s due ≡ true → without_id s ≡ due_pickle_step ids (Some s) due
step_is ids s due h =
    let k = four (bytes_eq s.text due.text) (fits_type s.kind due.kind) (same_texts s.ast_node_ids (ids_at ids due.nodes)) (same_option is_argument s.argument due.argument) h in
    let t = bytes_are s.text due.text k.0 in
    let f = fits_is s.kind due.kind k.1 in
    let n = text_lists.is s.ast_node_ids (ids_at ids due.nodes) k.2 in
    let a = (whole_options arguments).is s.argument due.argument k.3 in
    λ i. record { id = []; text = t i; kind = f i; ast_node_ids = n i; argument = a i }

step_by : (ids : List Utf8) (s : PickleStep) (due : DueStep) → without_id s ≡ due_pickle_step ids (Some s) due → is_due_step ids s due ≡ true
step_by ids s due e =
    rw (
      texts.by s.text due.text (ap (λ (x : PickleStep). x.text) e),
      is_fit s.kind due.kind (ap (λ (x : PickleStep). x.kind) e),
      text_lists.by s.ast_node_ids (ids_at ids due.nodes) (ap (λ (x : PickleStep). x.ast_node_ids) e),
      (whole_options arguments).by s.argument due.argument (ap (λ (x : PickleStep). x.argument) e),
    ) refl

steps_are : (ids : List Utf8) (ss : List PickleStep) (due : List DueStep) → same_list (is_due_step ids) ss due ≡ true → map without_id ss ≡ due_pickle_steps ids ss due
steps_are ids [] [] h = refl
steps_are ids [] (d ∷ ds) h = cc
steps_are ids (s ∷ ss) [] h = cc
steps_are ids (s ∷ ss) (d ∷ ds) h =
    let k = and_true (is_due_step ids s d) (same_list (is_due_step ids) ss ds) h in
    let first = step_is ids s d k.0 in
    let rest = steps_are ids ss ds k.1 in
    λ i. first i ∷ rest i

steps_by : (ids : List Utf8) (ss : List PickleStep) (due : List DueStep) → map without_id ss ≡ due_pickle_steps ids ss due → same_list (is_due_step ids) ss due ≡ true
steps_by ids [] [] e = refl
steps_by ids [] (d ∷ ds) e = cc
steps_by ids (s ∷ ss) [] e = cc
steps_by ids (s ∷ ss) (d ∷ ds) e =
    let first : without_id s ≡ due_pickle_step ids (Some s) d = cc in
    let rest : map without_id ss ≡ due_pickle_steps ids ss ds = cc in
    rw (step_by ids s d first, steps_by ids ss ds rest) refl

-- ---- tags and pickles

tags : (ids : List Utf8) → Tells (is_due_tag ids) (λ t. t) (due_tag ids)
tags ids = record {
  is = λ t due h.
      let k = and_true (bytes_eq t.name due.name) (same_texts (t.ast_node_id ∷ []) (ids_at ids (due.node ∷ []))) h in
      let n = bytes_are t.name due.name k.0 in
      let here : (t.ast_node_id ∷ []) ≡ ids_at ids (due.node ∷ []) = text_lists.is (t.ast_node_id ∷ []) (ids_at ids (due.node ∷ [])) k.1 in
      let node : t.ast_node_id ≡ unwrap_or (slice_get ids due.node) [] = cc in
      λ i. record { name = n i; ast_node_id = node i };
  by = λ t due e.
      rw (
        texts.by t.name due.name (ap (λ (x : PickleTag). x.name) e),
        text_lists.by (t.ast_node_id ∷ []) (ids_at ids (due.node ∷ [])) (ap (λ (x : PickleTag). x.ast_node_id ∷ []) e),
      ) refl;
}

pickle_is : (ids : List Utf8) (p : Pickle) (due : DuePickle) → is_due ids p due ≡ true → without_ids p ≡ due_pickle p.uri ids p.steps due
pickle_is ids p due h =
    let k = five (bytes_eq p.language english) (bytes_eq p.name due.name) (same_texts p.ast_node_ids (ids_at ids due.nodes))
    (same_list (is_due_tag ids) p.tags due.tags) (same_list (is_due_step ids) p.steps due.steps) h in
    let l = bytes_are p.language english k.0 in
    let n = bytes_are p.name due.name k.1 in
    let m = text_lists.is p.ast_node_ids (ids_at ids due.nodes) k.2 in
    let t = (whole_lists (tags ids)).is p.tags due.tags k.3 in
    let s = steps_are ids p.steps due.steps k.4 in
    λ i. record { id = []; uri = p.uri; name = n i; language = l i; ast_node_ids = m i; tags = t i; steps = s i }

pickle_by : (ids : List Utf8) (p : Pickle) (due : DuePickle) → without_ids p ≡ due_pickle p.uri ids p.steps due → is_due ids p due ≡ true
pickle_by ids p due e =
    rw (
      texts.by p.language english (ap (λ (x : Pickle). x.language) e),
      texts.by p.name due.name (ap (λ (x : Pickle). x.name) e),
      text_lists.by p.ast_node_ids (ids_at ids due.nodes) (ap (λ (x : Pickle). x.ast_node_ids) e),
      (whole_lists (tags ids)).by p.tags due.tags (ap (λ (x : Pickle). x.tags) e),
      steps_by ids p.steps due.steps (ap (λ (x : Pickle). x.steps) e),
    ) refl

pub due_is_equal : DueIsEqual
due_is_equal ids p due = (pickle_is ids p due, pickle_by ids p due)
