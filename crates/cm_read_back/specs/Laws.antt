-- What is written is read back.
use Rattle.std.specs.Prelude.{◌≡◌, ◌≤◌, ℕ, List, Some, Ok, true}
use Rattle.std.specs.Str.{IsUtf8}
use Rattle.serde_json.specs.Data.{Data, depth}
use Rattle.serde_json.specs.Read.{read, max_depth}
use Rattle.serde_json.specs.Written.{compact_text}
use Rattle.gk_document.specs.declared.tree.Document.{Document}
use Rattle.gk_document.specs.Skeleton.{skeleton}
use Rattle.gk_grammar.specs.Documents.{IsDocumentOf, IsTooLong}
use Rattle.gk_pickle.specs.declared.pickles.Pickle.{Pickle}
use Rattle.cm_messages.specs.SourceLayout.{source_data}
use Rattle.cm_messages.specs.DocumentLayout.{document_data}
use Rattle.cm_messages.specs.PickleLayout.{pickle_data}
use Rattle.cm_envelope.specs.declared.envelope.Envelope.{Envelope}
use Rattle.cm_envelope.specs.declared.envelope.Envelope.TheVariants as envelope
use Rattle.cm_envelope.specs.Reading.{envelope_of, envelope_of_line}
use Rattle.cm_read_back.specs.Documents.{IsReadable, document_read, document_kept}
use Rattle.cm_read_back.specs.Pickles.{pickle_read, source_read}
use Rattle.cm_read_back.specs.Values.{IsPlain, in_order}

-- The line is the value in JSON: it is UTF-8, and read as that value if the value's nesting is within the limit. Each text
-- that `to_string` gives of the value is such a line.
abbrev pub IsLineOf : List ℕ → Data → Type 0
IsLineOf line d = IsUtf8 line × (depth d ≤ max_depth → read line ≡ Some d)

-- the text without spaces of a plain value, its members in order, is a line of it
abbrev pub PlainHaveLines : Type 0
PlainHaveLines = (d : Data) → IsPlain d → in_order d ≡ true → IsLineOf (compact_text d) d

-- The value is read as the envelope, and so are each line of it and, where it is plain, its text without spaces.
pub record IsReadAs (d : Data) (e : Envelope) : Type 0 where
  pub value : envelope_of d ≡ Ok e
  pub line : (line : List ℕ) → IsLineOf line d → envelope_of_line line ≡ Ok e
  pub text : IsPlain d → envelope_of_line (compact_text d) ≡ Ok e

abbrev pub SourceIsReadBack : Type 0
SourceIsReadBack =
    (uri text : List ℕ) → IsReadAs (source_data uri text) (envelope.Source (source_read uri text))

abbrev pub PickleIsReadBack : Type 0
PickleIsReadBack =
    (uri : List ℕ) (first : ℕ) (p : Pickle) → IsReadAs (pickle_data uri first p)
    (envelope.Pickle (pickle_read uri first p))

abbrev pub DocumentIsReadBack : Type 0
DocumentIsReadBack =
    (uri : List ℕ) (d : Document) → IsReadable d
    → IsReadAs (document_data uri d) (envelope.GherkinDocument (document_read uri d))

-- the document of a text that isn't too long is one that is read back
abbrev pub ParsedAreReadable : Type 0
ParsedAreReadable =
    (text : List ℕ) (d : Document) → IsDocumentOf text d → (IsTooLong text → ⊥) → IsReadable d

-- what is kept of the document of a text has that document's skeleton
abbrev pub ParsedHaveSkeletons : Type 0
ParsedHaveSkeletons =
    (text : List ℕ) (d : Document) → IsDocumentOf text d → skeleton (document_kept d) ≡ skeleton d
