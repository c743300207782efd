-- What the document and the pickles of a source have to be.
use Rattle.std.specs.Prelude.{ℕ, ◌&&◌, Bool, true, false, List, [], ◌∷◌, Option, Some, None, map, slice_get, codes, unwrap_or}
use Rattle.std.specs.Str.{bytes_eq}
pub use Rattle.gk_grammar.specs.Grammar.{english}
use Rattle.gk_pickle.specs.declared.pickles.StepType.{StepType}
use Rattle.gk_pickle.specs.declared.pickles.StepType.TheVariants as due_kind
use Rattle.gk_pickle.specs.declared.pickles.PickleArgument as due_pickle_argument
use Rattle.gk_pickle.specs.declared.pickles.PickleArgument.TheVariants as due_argument
use Rattle.gk_pickle.specs.declared.pickles.Pickle as due_pickle
use Rattle.gk_pickle.specs.declared.pickles.PickleStep as due_step
use Rattle.gk_pickle.specs.declared.pickles.PickleTag as due_tag
use Rattle.cm_stream.specs.Texts.{Utf8, same_list, same_texts, same_option}
use Rattle.cm_envelope.specs.declared.pickle.StepKind.{StepKind}
use Rattle.cm_envelope.specs.declared.pickle.StepKind.TheVariants as line
use Rattle.cm_envelope.specs.declared.pickle.PickleCell.{PickleCell}
use Rattle.cm_envelope.specs.declared.pickle.PickleRow.{PickleRow}
use Rattle.cm_envelope.specs.declared.pickle.PickleArgument.{PickleArgument}
use Rattle.cm_envelope.specs.declared.pickle.PickleArgument.TheVariants as argument
use Rattle.cm_envelope.specs.declared.pickle.Pickle.{Pickle}
use Rattle.cm_envelope.specs.declared.pickle.PickleStep.{PickleStep}
use Rattle.cm_envelope.specs.declared.pickle.PickleTag.{PickleTag}

-- the media type of plain Gherkin
abbrev pub plain : Utf8
plain = codes "text/x.cucumber.gherkin+plain"

-- A pickle that is due names nodes by their numbers, one of the stream by the ids that the stream's document gives them.
abbrev pub DuePickle : Type 0
DuePickle = due_pickle.Pickle

abbrev pub DueStep : Type 0
DueStep = due_step.PickleStep

abbrev pub DueTag : Type 0
DueTag = due_tag.PickleTag

abbrev pub DueArgument : Type 0
DueArgument = due_pickle_argument.PickleArgument

-- the ids of the nodes
abbrev pub ids_at : List Utf8 → List ℕ → List Utf8
ids_at ids nodes = map (λ n. unwrap_or (slice_get ids n) []) nodes

abbrev pub is_type : StepKind → StepType → Bool
is_type line.Unknown due_kind.Unknown = true
is_type line.Context due_kind.Context = true
is_type line.Action due_kind.Action = true
is_type line.Outcome due_kind.Outcome = true
is_type _ _ = false

-- an absent step type isn't compared
abbrev pub fits_type : Option StepKind → StepType → Bool
fits_type None due = true
fits_type (Some type) due = is_type type due

abbrev pub has_cells : PickleRow → List Utf8 → Bool
has_cells row cells = same_list (λ (c : PickleCell). bytes_eq c.value) row.cells cells

-- a table of these cells, or a doc string of this media type and content
abbrev pub is_argument : PickleArgument → DueArgument → Bool
is_argument (argument.Table t) (due_argument.Table rows) = same_list has_cells t.rows rows
is_argument (argument.Text d) (due_argument.Text due) =
    same_option bytes_eq d.media_type due.media && bytes_eq d.content due.content
is_argument _ _ = false

abbrev pub is_due_step : List Utf8 → PickleStep → DueStep → Bool
is_due_step ids s due =
    bytes_eq s.text due.text && fits_type s.kind due.kind
    && same_texts s.ast_node_ids (ids_at ids due.nodes)
    && same_option is_argument s.argument due.argument

abbrev pub is_due_tag : List Utf8 → PickleTag → DueTag → Bool
is_due_tag ids t due =
    bytes_eq t.name due.name && same_texts (t.ast_node_id ∷ []) (ids_at ids (due.node ∷ []))

-- The stream's pickle is the one that is due, where the nodes have these ids. Its own id and those of its steps are free.
abbrev pub is_due : List Utf8 → Pickle → DuePickle → Bool
is_due ids p due =
    bytes_eq p.language english && bytes_eq p.name due.name
    && same_texts p.ast_node_ids (ids_at ids due.nodes)
    && same_list (is_due_tag ids) p.tags due.tags && same_list (is_due_step ids) p.steps due.steps
