-- What an audit keeps of the lines so far.
use Rattle.std.specs.Prelude.{ℕ, ◌-◌, Bool, false, true, List, [], ◌∷◌, ◌++◌, Option, Some, None, if◌then◌else◌, map, length, drop}
use Rattle.std.specs.List.{filter_map}
use Rattle.std.specs.Str.{bytes_eq}
use Rattle.gk_document.specs.declared.tree.Document.{Document}
use Rattle.cm_refs.specs.Declarations.{Declarations, PickleRow, RunHookRow, no_declarations, with_source, with_document, with_pickle, with_definition, with_hook, with_run_hook, with_finished_run_hook}
use Rattle.cm_attempt.specs.Table.{Table, table_from, change_first, has_text}
use Rattle.cm_attempt.specs.Worst.{with_status, worst_so_far}
use Rattle.cm_attempt.specs.declared.status.Status.{Status}
use Rattle.cm_stream.specs.Statuses.{kept_status}
use Rattle.cm_stream.specs.Texts.{Utf8}
use Rattle.cm_stream.specs.Readings.{Reading, Accepted}
use Rattle.cm_stream.specs.Sources.{DuePickle}
use Rattle.cm_stream.specs.Checks.{due_pickles, first_ids}
use Rattle.cm_stream.specs.References.{as_document, sources, pickles, cases, run_hooks, hook_statuses, documents_of, pickles_of, has_run_finished, is_accepted, run_succeeded, is_hook_finished}
use Rattle.cm_stream.specs.Record.{table_of_envelopes, table_after_envelope}
use Rattle.cm_envelope.specs.declared.envelope.Envelope.{Envelope}
use Rattle.cm_envelope.specs.declared.envelope.Envelope.TheVariants as envelope
use Rattle.cm_envelope.specs.declared.envelope.Source.{Source}
use Rattle.cm_envelope.specs.declared.envelope.GherkinDocument.{GherkinDocument}
use Rattle.cm_envelope.specs.declared.envelope.TestRunStarted.{TestRunStarted}
use Rattle.cm_envelope.specs.declared.envelope.TestRunHookStarted.{TestRunHookStarted}
use Rattle.cm_envelope.specs.declared.pickle.Pickle.{Pickle}
use Rattle.cm_stream.specs.declared.laws.Counts.{Counts}

-- a source
pub record SourceRow : Type 0 where
  pub uri : Utf8
  -- its text is of the grammar
  pub is_accepted : Bool
  -- the document that its text is read as, until the stream's document of the uri came
  pub awaited : Option Document
  -- the ids of the stream's document, once it came
  pub ids : List Utf8
  -- the pickles that it compiles to and that haven't come
  pub due : List DuePickle

pub record Summary : Type 0 where
  pub declared : Declarations
  pub table : Table
  pub sources : List SourceRow
  -- the pickles that cases name, each once
  pub named : List Utf8
  -- the start of the run, once it came
  pub run : Option TestRunStarted
  pub is_finished : Bool
  -- the end of the run said success
  pub success : Bool
  -- the worst status of the run hooks, which is absent while none is finished
  pub hooks_worst : Option Status

-- how much of each is kept, and the pickles that no case names
abbrev pub counts_in : Summary → Counts
counts_in s = record {
  sources = length s.sources;
  pickles = length s.declared.pickles;
  cases = length s.table.cases;
  attempts = length s.table.attempts;
  unrun = length s.declared.pickles - length s.named;
}

-- ---- of all the lines so far

abbrev pub as_definition : Envelope → Option Utf8
as_definition (envelope.StepDefinition d) = Some d.id
as_definition _ = None

abbrev pub as_hook : Envelope → Option Utf8
as_hook (envelope.Hook h) = Some h.id
as_hook _ = None

abbrev pub as_run : Envelope → Option TestRunStarted
as_run (envelope.TestRunStarted r) = Some r
as_run _ = None

abbrev pub first_of : {X : Type 0} → List X → Option X
first_of [] = None
first_of (x ∷ xs) = Some x

abbrev pub pickle_row : Pickle → PickleRow
pickle_row p = record { id = p.id; steps = map (λ s. s.id) p.steps }

abbrev pub run_hook_row : List Envelope → TestRunHookStarted → RunHookRow
run_hook_row es s = record { id = s.id; is_finished = is_hook_finished s.id es }

abbrev pub declarations_in : List Envelope → Declarations
declarations_in es = record {
  sources = map (λ s. s.uri) (sources es);
  documents = map (λ d. d.uri) (filter_map as_document es);
  pickles = map pickle_row (pickles es);
  definitions = filter_map as_definition es;
  hooks = filter_map as_hook es;
  run_hooks = map (run_hook_row es) (run_hooks es);
}

-- the document that a text is read as
abbrev pub document_of : Reading → Option Document
document_of (Accepted d) = Some d
document_of _ = None

-- it, while none of the stream came
abbrev pub awaited_of : Reading → (came : List GherkinDocument) → Option Document
awaited_of reading [] = document_of reading
awaited_of reading (d ∷ ds) = None

-- a source whose text is read so, of which these documents and pickles came
abbrev pub row_of : Utf8 → Reading → List GherkinDocument → List Pickle → SourceRow
row_of uri reading documents pickles = record {
  uri = uri;
  is_accepted = is_accepted reading;
  awaited = awaited_of reading documents;
  ids = first_ids documents;
  due = drop (length pickles) (due_pickles (Some reading));
}

-- where texts are read so
abbrev pub source_row_by : (read : Utf8 → Reading) → List Envelope → Source → SourceRow
source_row_by read es s =
    row_of s.uri (read s.content) (documents_of s.uri es) (pickles_of s.uri es)

-- the names, and this one after them if it isn't among them
abbrev pub with_name : List Utf8 → Utf8 → List Utf8
with_name names name = if has_text name names then names else names ++ name ∷ []

abbrev pub names_from : List Utf8 → List Utf8 → List Utf8
names_from names [] = names
names_from names (name ∷ more) = names_from (with_name names name) more

-- each of the texts once, in order
abbrev pub once_each : List Utf8 → List Utf8
once_each texts = names_from [] texts

-- where texts are read so, and the attempts of a case are numbered from the first number
abbrev pub summary_of_lines_by : (read : Utf8 → Reading) → (first : ℕ) → List Envelope → Summary
summary_of_lines_by read first es = record {
  declared = declarations_in es;
  table = table_of_envelopes first es;
  sources = map (source_row_by read es) (sources es);
  named = once_each (map (λ c. c.pickle_id) (cases es));
  run = first_of (filter_map as_run es);
  is_finished = has_run_finished es;
  success = run_succeeded es;
  hooks_worst = worst_so_far (hook_statuses es);
}

-- ---- line by line

abbrev pub empty_summary : (first : ℕ) → Summary
empty_summary first = record {
  declared = no_declarations;
  table = table_from first;
  sources = [];
  named = [];
  run = None;
  is_finished = false;
  success = false;
  hooks_worst = None;
}

-- of which nothing came
abbrev pub new_row : Utf8 → Reading → SourceRow
new_row uri reading = row_of uri reading [] []

abbrev pub new_source_by : (read : Utf8 → Reading) → Source → SourceRow
new_source_by read s = new_row s.uri (read s.content)

-- its document came, with these ids
abbrev pub with_ids : List Utf8 → SourceRow → SourceRow
with_ids ids r = record r { awaited = None; ids = ids }

-- one more of its pickles came
abbrev pub one_more : SourceRow → SourceRow
one_more r = record r { due = drop 1 r.due }

abbrev pub change_source : Utf8 → (SourceRow → SourceRow) → List SourceRow → List SourceRow
change_source uri f = change_first (λ r. bytes_eq uri r.uri) f

-- what a line makes of it, where texts are read so
abbrev pub summary_after_line_by : (read : Utf8 → Reading) → Summary → Envelope → Summary
summary_after_line_by read s (envelope.Source x) =
    record s {
      declared = with_source x.uri s.declared;
      sources = s.sources ++ new_source_by read x ∷ [];
    }
summary_after_line_by read s (envelope.GherkinDocument d) =
    record s {
      declared = with_document d.uri s.declared;
      sources = change_source d.uri (with_ids d.ids) s.sources;
    }
summary_after_line_by read s (envelope.Pickle p) = record s {
  declared = with_pickle p.id (map (λ x. x.id) p.steps) s.declared;
  sources = change_source p.uri one_more s.sources;
}
summary_after_line_by read s (envelope.StepDefinition d) =
    record s { declared = with_definition d.id s.declared }
summary_after_line_by read s (envelope.Hook h) = record s { declared = with_hook h.id s.declared }
summary_after_line_by read s (envelope.TestCase c) = record s {
  table = table_after_envelope s.table (envelope.TestCase c);
  named = with_name s.named c.pickle_id;
}
summary_after_line_by read s (envelope.TestRunStarted r) = record s { run = Some r }
summary_after_line_by read s (envelope.TestCaseStarted x) =
    record s { table = table_after_envelope s.table (envelope.TestCaseStarted x) }
summary_after_line_by read s (envelope.TestRunHookStarted x) =
    record s { declared = with_run_hook x.id s.declared }
summary_after_line_by read s (envelope.TestRunHookFinished f) =
    record s {
      declared = with_finished_run_hook f.test_run_hook_started_id s.declared;
      hooks_worst = with_status s.hooks_worst (kept_status f.result.status);
    }
summary_after_line_by read s (envelope.TestRunFinished f) =
    record s { is_finished = true; success = f.success }
summary_after_line_by read s e = record s { table = table_after_envelope s.table e }
