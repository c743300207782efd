-- What a source and a pickle are read as: each id is a number in decimal, and an empty media type is none.
use Rattle.std.specs.Prelude.{ℕ, ◌+◌, List, [], ◌∷◌, length, map, option_map, option_and_then, Some, codes, decimal}
use Rattle.gk_pickle.specs.declared.pickles.StepType.{StepType}
use Rattle.gk_pickle.specs.declared.pickles.StepType.TheVariants as written_kind
use Rattle.gk_pickle.specs.declared.pickles.PickleTag as written_tag
use Rattle.gk_pickle.specs.declared.pickles.PickleDocString as written_doc_string
use Rattle.gk_pickle.specs.declared.pickles.PickleArgument as written_argument
use Rattle.gk_pickle.specs.declared.pickles.PickleArgument.TheVariants as written
use Rattle.gk_pickle.specs.declared.pickles.PickleStep as written_step
use Rattle.gk_pickle.specs.declared.pickles.Pickle as written_pickle
use Rattle.gk_document.specs.MediaType.{unless_empty as media_type}
use Rattle.cm_envelope.specs.declared.envelope.Source.{Source}
use Rattle.cm_envelope.specs.declared.pickle.StepKind.{StepKind}
use Rattle.cm_envelope.specs.declared.pickle.StepKind.TheVariants.{Unknown, Context, Action, Outcome}
use Rattle.cm_envelope.specs.declared.pickle.PickleTag.{PickleTag}
use Rattle.cm_envelope.specs.declared.pickle.PickleCell.{PickleCell}
use Rattle.cm_envelope.specs.declared.pickle.PickleRow.{PickleRow}
use Rattle.cm_envelope.specs.declared.pickle.PickleDocString.{PickleDocString}
use Rattle.cm_envelope.specs.declared.pickle.PickleArgument.{PickleArgument}
use Rattle.cm_envelope.specs.declared.pickle.PickleArgument.TheVariants.{Table, Text}
use Rattle.cm_envelope.specs.declared.pickle.PickleStep.{PickleStep}
use Rattle.cm_envelope.specs.declared.pickle.Pickle.{Pickle}

abbrev pub source_read : List ℕ → List ℕ → Source
source_read uri text =
    record { uri = uri; content = text; media_type = codes "text/x.cucumber.gherkin+plain" }

abbrev pub kind_read : StepType → StepKind
kind_read written_kind.Unknown = Unknown
kind_read written_kind.Context = Context
kind_read written_kind.Action = Action
kind_read written_kind.Outcome = Outcome

abbrev pub tag_read : written_tag.PickleTag → PickleTag
tag_read t = record { name = t.name; ast_node_id = decimal t.node }

abbrev pub cell_read : List ℕ → PickleCell
cell_read value = record { value = value }

abbrev pub row_read : List (List ℕ) → PickleRow
row_read cells = record { cells = map cell_read cells }

abbrev pub doc_string_read : written_doc_string.PickleDocString → PickleDocString
doc_string_read d = record { content = d.content; media_type = option_and_then media_type d.media }

abbrev pub argument_read : written_argument.PickleArgument → PickleArgument
argument_read (written.Table rows) = Table (record { rows = map row_read rows })
argument_read (written.Text d) = Text (doc_string_read d)

abbrev pub step_read : ℕ → written_step.PickleStep → PickleStep
step_read id s = record {
  id = decimal id;
  text = s.text;
  kind = Some (kind_read s.kind);
  ast_node_ids = map decimal s.nodes;
  argument = option_map argument_read s.argument;
}

-- the steps take the ids from the first one on
abbrev pub steps_read : ℕ → List written_step.PickleStep → List PickleStep
steps_read id [] = []
steps_read id (s ∷ ss) = step_read id s ∷ steps_read (id + 1) ss

-- the pickle's id is the one after those of its steps
abbrev pub pickle_read : List ℕ → ℕ → written_pickle.Pickle → Pickle
pickle_read uri first p = record {
  id = decimal (first + length p.steps);
  uri = uri;
  name = p.name;
  language = codes "en";
  ast_node_ids = map decimal p.nodes;
  tags = map tag_read p.tags;
  steps = steps_read first p.steps;
}
