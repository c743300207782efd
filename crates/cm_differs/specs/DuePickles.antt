-- A pickle that is due, as the stream would have it, and a pickle without what is free.
use Rattle.std.specs.Prelude.{◌≡◌, ◌↔◌, true, List, [], ◌∷◌, Option, Some, None, map, option_map, slice_get, unwrap_or}
use Rattle.gk_pickle.specs.declared.pickles.PickleArgument.TheVariants as due_argument
use Rattle.gk_pickle.specs.declared.pickles.StepType.{StepType}
use Rattle.gk_pickle.specs.declared.pickles.StepType.TheVariants as due_kind
use Rattle.cm_envelope.specs.declared.pickle.Pickle.{Pickle}
use Rattle.cm_envelope.specs.declared.pickle.PickleArgument.{PickleArgument}
use Rattle.cm_envelope.specs.declared.pickle.PickleArgument.TheVariants as argument
use Rattle.cm_envelope.specs.declared.pickle.PickleCell.{PickleCell}
use Rattle.cm_envelope.specs.declared.pickle.PickleRow.{PickleRow}
use Rattle.cm_envelope.specs.declared.pickle.PickleStep.{PickleStep}
use Rattle.cm_envelope.specs.declared.pickle.PickleTag.{PickleTag}
use Rattle.cm_envelope.specs.declared.pickle.StepKind.{StepKind}
use Rattle.cm_envelope.specs.declared.pickle.StepKind.TheVariants as line
use Rattle.cm_stream.specs.Sources.{DueArgument, DuePickle, DueStep, DueTag, english, ids_at, is_due}
use Rattle.cm_stream.specs.Texts.{Utf8}

-- The ids of a pickle and of its steps are free.
abbrev pub without_id : PickleStep → PickleStep
without_id s = record s { id = [] }

abbrev pub without_ids : Pickle → Pickle
without_ids p = record p { id = []; steps = map without_id p.steps }

-- a step's type, as messages have it (Messages, `PickleStepType`)
abbrev pub step_kind : StepType → StepKind
step_kind due_kind.Unknown = line.Unknown
step_kind due_kind.Context = line.Context
step_kind due_kind.Action = line.Action
step_kind due_kind.Outcome = line.Outcome

-- The type that is due beside a step of the stream. Where that step has none, none is due.
abbrev pub kind_beside : Option PickleStep → StepType → Option StepKind
kind_beside None due = Some (step_kind due)
kind_beside (Some s) due = option_map (λ kind. step_kind due) s.kind

abbrev pub due_cell : Utf8 → PickleCell
due_cell value = record { value = value }

abbrev pub due_row : List Utf8 → PickleRow
due_row cells = record { cells = map due_cell cells }

-- the table of these cells, or the doc string
abbrev pub argument_of : DueArgument → PickleArgument
argument_of (due_argument.Table rows) = argument.Table (record { rows = map due_row rows })
argument_of (due_argument.Text d) =
    argument.Text (record { content = d.content; media_type = d.media })

abbrev pub due_pickle_step : (ids : List Utf8) → (beside : Option PickleStep) → DueStep → PickleStep
due_pickle_step ids beside due = record {
  id = [];
  text = due.text;
  kind = kind_beside beside due.kind;
  ast_node_ids = ids_at ids due.nodes;
  argument = option_map argument_of due.argument;
}

-- the steps that are due, each beside the stream's step at its place, where there is one
abbrev pub due_pickle_steps : (ids : List Utf8) → (beside : List PickleStep) → List DueStep
    → List PickleStep
due_pickle_steps ids beside [] = []
due_pickle_steps ids [] (d ∷ ds) = due_pickle_step ids None d ∷ due_pickle_steps ids [] ds
due_pickle_steps ids (s ∷ ss) (d ∷ ds) = due_pickle_step ids (Some s) d ∷ due_pickle_steps ids ss ds

abbrev pub due_tag : (ids : List Utf8) → DueTag → PickleTag
due_tag ids due = record { name = due.name; ast_node_id = unwrap_or (slice_get ids due.node) [] }

-- the pickle that is due in the stream, beside steps of the stream, where the nodes have these ids
abbrev pub due_pickle : (uri : Utf8) → (ids : List Utf8) → (beside : List PickleStep)
    → DuePickle → Pickle
due_pickle uri ids beside due = record {
  id = [];
  uri = uri;
  name = due.name;
  language = english;
  ast_node_ids = ids_at ids due.nodes;
  tags = map (due_tag ids) due.tags;
  steps = due_pickle_steps ids beside due.steps;
}

-- A pickle of the stream is the one that is due exactly where both are equal without what is free.
abbrev pub DueIsEqual : Type 0
DueIsEqual = (ids : List Utf8) (p : Pickle) (due : DuePickle)
    → (is_due ids p due ≡ true) ↔ (without_ids p ≡ due_pickle p.uri ids p.steps due)
