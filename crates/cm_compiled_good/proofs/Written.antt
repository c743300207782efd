-- The envelopes that the lines of a compiled text are read as.
use Rattle.std.proofs.Common.{◌≡◌, ℕ, ◌+◌, List, [], ◌∷◌, ◌++◌, true, false, None, Ok, refl, codes, arith}
use Rattle.std.specs.List.{AllByRecursion, concat}
use Rattle.std.proofs.lemmas.List.Folds.{concat-append}
use Rattle.json.proofs.Printed.Utf8.{IsUtf8-are_ascii}
use Rattle.json.specs.Print.{escape_byte}
use Rattle.serde_json.specs.Data.{Data, boolean, object, no_members, member}
use Rattle.serde_json.specs.Written.{compact_text}
use Rattle.gk_document.specs.declared.tree.Document.{Document}
use Rattle.gk_pickle.specs.declared.pickles.Pickle.{Pickle}
use Rattle.gk_pickle.specs.Pickles.{pickles}
use Rattle.cm_messages.specs.SourceLayout.{source_data}
use Rattle.cm_messages.specs.DocumentLayout.{document_data}
use Rattle.cm_messages.specs.PickleLayout.{pickle_data}
use Rattle.cm_envelope.specs.declared.envelope.Envelope.{Envelope}
use Rattle.cm_envelope.specs.declared.envelope.Envelope.TheVariants as envelope
use Rattle.cm_envelope.specs.Lines.{is_blank}
use Rattle.cm_envelope.specs.Reading.{envelope_of_line}
use Rattle.cm_read_back.specs.Documents.{IsReadable, document_read}
use Rattle.cm_read_back.specs.Pickles.{pickle_read, source_read}
use Rattle.cm_read_back.specs.Values.{IsPlain}
use Rattle.cm_read_back.proofs.Lines.{read_as}
use Rattle.cm_read_back.proofs.Pickles.{source_is, pickle_is}
use Rattle.cm_read_back.proofs.Trees.{document_is}
use Rattle.cm_compile.specs.Compiled.{data_line, id_count, compiled_pickle_lines, compiled_lines}
use Rattle.cm_compiled_good.specs.Law.{run_lines}
use Rattle.cm_compiled_good.proofs.Compact.{text_no_feed}
use Rattle.cm_compiled_good.proofs.Feeding.{IsLineWith, AreLinesWith, more_lines}

-- ---- the envelopes

-- those of pickles, whose ids go on from this one
abbrev pub pickle_envelopes : List ℕ → ℕ → List Pickle → List Envelope
pickle_envelopes uri id [] = []
pickle_envelopes uri id (p ∷ ps) = envelope.Pickle (pickle_read uri id p) ∷ pickle_envelopes uri (id + id_count p) ps

abbrev pub run_started : Envelope
run_started = envelope.TestRunStarted (record { id = None })

abbrev pub run_finished : Envelope
run_finished = envelope.TestRunFinished (record { test_run_started_id = None; success = true; has_exception = false })

abbrev pub run_envelopes : List Envelope
run_envelopes = run_started ∷ run_finished ∷ []

abbrev pub expected : (uri text : List ℕ) → Document → List Envelope
expected uri text d =
    envelope.Source (source_read uri text) ∷ envelope.GherkinDocument (document_read uri d) ∷ (pickle_envelopes uri d.nodes (pickles d) ++ run_envelopes)

-- ---- lines

-- what is written is plain
pub record ArePlain (uri text : List ℕ) (d : Document) : Type 0 where
  pub source : IsPlain (source_data uri text)
  pub document : IsPlain (document_data uri d)
  pub each : AllByRecursion (λ (p : Pickle). (id : ℕ) → IsPlain (pickle_data uri id p)) (pickles d)

value_line : (d : Data) (e : Envelope) → is_blank (compact_text d) ≡ false → IsPlain d → envelope_of_line (compact_text d) ≡ Ok e → IsLineWith (data_line d) e
value_line d e filled plain read = record { line = compact_text d; cut = refl; read = read; filled = filled; one = text_no_feed d plain }

source_line : (uri text : List ℕ) → IsPlain (source_data uri text) → IsLineWith (data_line (source_data uri text)) (envelope.Source (source_read uri text))
unfolding source_data
source_line uri text plain = value_line (source_data uri text) _ refl plain ((source_is uri text).text plain)

document_line : (uri : List ℕ) (d : Document) → IsReadable d → IsPlain (document_data uri d) → IsLineWith (data_line (document_data uri d)) (envelope.GherkinDocument (document_read uri d))
unfolding document_data
document_line uri d readable plain = value_line (document_data uri d) _ refl plain ((document_is uri d readable).text plain)

pickle_line : (uri : List ℕ) (id : ℕ) (p : Pickle) → IsPlain (pickle_data uri id p) → IsLineWith (data_line (pickle_data uri id p)) (envelope.Pickle (pickle_read uri id p))
unfolding pickle_data
pickle_line uri id p plain = value_line (pickle_data uri id p) _ refl plain ((pickle_is uri id p).text plain)

pickles_lines : (uri : List ℕ) (id : ℕ) (ps : List Pickle) → AllByRecursion (λ (p : Pickle). (n : ℕ) → IsPlain (pickle_data uri n p)) ps
    → AreLinesWith (compiled_pickle_lines uri id ps) (pickle_envelopes uri id ps)
pickles_lines uri id [] h = tt
pickles_lines uri id (p ∷ ps) h = (pickle_line uri id p (h.0 id), pickles_lines uri (id + id_count p) ps h.1)

-- ---- the run

abbrev started_data : Data
started_data = object (member (codes "testRunStarted") (object no_members) no_members)

abbrev finished_data : Data
finished_data = object (member (codes "testRunFinished") (object (member (codes "success") (boolean true) no_members)) no_members)

started_line : IsLineWith (codes "{\"testRunStarted\":{}}\n") run_started
unfolding escape_byte
started_line =
    let plain : IsPlain started_data = (IsUtf8-are_ascii (codes "testRunStarted") refl, tt, tt) in
    value_line started_data run_started refl plain ((read_as started_data run_started refl (omega arith) refl).text plain)

finished_line : IsLineWith (codes "{\"testRunFinished\":{\"success\":true}}\n") run_finished
unfolding escape_byte
finished_line =
    let plain : IsPlain finished_data = (IsUtf8-are_ascii (codes "testRunFinished") refl, (IsUtf8-are_ascii (codes "success") refl, tt, tt), tt) in
    value_line finished_data run_finished refl plain ((read_as finished_data run_finished refl (omega arith) refl).text plain)

abbrev run_texts : List (List ℕ)
run_texts = codes "{\"testRunStarted\":{}}\n" ∷ codes "{\"testRunFinished\":{\"success\":true}}\n" ∷ []

-- ---- the whole

abbrev pub all_texts : (uri text : List ℕ) → Document → List (List ℕ)
all_texts uri text d = compiled_lines uri text d ++ run_texts

pub texts_joined : (uri text : List ℕ) (d : Document) → concat (all_texts uri text d) ≡ concat (compiled_lines uri text d) ++ run_lines
texts_joined uri text d = concat-append (compiled_lines uri text d) run_texts

pub all_lines : (uri text : List ℕ) (d : Document) → IsReadable d → ArePlain uri text d → AreLinesWith (all_texts uri text d) (expected uri text d)
all_lines uri text d readable plain = (
  source_line uri text plain.source,
  (
    document_line uri d readable plain.document,
    more_lines (compiled_pickle_lines uri d.nodes (pickles d)) run_texts (pickle_envelopes uri d.nodes (pickles d)) run_envelopes (pickles_lines uri d.nodes (pickles d) plain.each)
        (started_line, (finished_line, tt)),
  ),
)
