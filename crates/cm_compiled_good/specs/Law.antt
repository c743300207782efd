-- What a text compiles to is a good stream, once a run that does nothing follows it.
use Rattle.std.specs.Prelude.{◌≡◌, ℕ, List, ◌++◌, length, None, codes}
use Rattle.std.specs.List.{concat}
use Rattle.std.specs.Str.{IsUtf8}
use Rattle.gk_document.specs.declared.tree.Document.{Document}
use Rattle.gk_grammar.specs.Documents.{IsDocumentOf, IsTooLong}
use Rattle.gk_pickle.specs.Pickles.{pickles}
use Rattle.cm_attempt.specs.declared.status.Settings.{Settings}
use Rattle.cm_stream.specs.Stream.{feed_of, IsGoodStream}
use Rattle.cm_stream.specs.declared.laws.Counts.{Counts}
use Rattle.cm_compile.specs.Compiled.{compiled_lines}

-- the lines of a run that starts no case and succeeds
abbrev pub run_lines : List ℕ
run_lines = codes "{\"testRunStarted\":{}}\n" ++ codes "{\"testRunFinished\":{\"success\":true}}\n"

-- the lines of a text with this document, and the run after them
abbrev pub stream_of : (uri text : List ℕ) → Document → List ℕ
stream_of uri text d = concat (compiled_lines uri text d) ++ run_lines

-- one source, the pickles of its document, and no case
abbrev pub counts_for : Document → Counts
counts_for d =
    record {
      sources = 1;
      pickles = length (pickles d);
      cases = 0;
      attempts = 0;
      unrun = length (pickles d);
    }

-- A text of the grammar that isn't too long compiles to a good stream, by all settings, if the stream is within its limits.
abbrev pub CompiledAreGood : Type 0
CompiledAreGood =
    (settings : Settings) (uri text : List ℕ) (d : Document) → IsUtf8 uri → IsUtf8 text
    → IsDocumentOf text d → (IsTooLong text → ⊥)
    → (feed_of (stream_of uri text d)).trouble ≡ None
    → IsGoodStream settings (stream_of uri text d) (counts_for d)
