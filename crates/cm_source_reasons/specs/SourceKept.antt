-- What is told of a line at which a stream isn't what its sources compile to, by what an audit keeps of the lines before it.
use Rattle.std.specs.Prelude.{◌≡◌, ℕ, false, List, [], ◌++◌, Option, Some, None, IsSomeAnd, find, slice_get}
use Rattle.std.specs.Option.{option_map_or}
use Rattle.gk_document.specs.declared.tree.Document.{Document}
use Rattle.cm_envelope.specs.declared.envelope.Envelope.{Envelope}
use Rattle.cm_envelope.specs.declared.envelope.Envelope.TheVariants as envelope
use Rattle.cm_envelope.specs.declared.envelope.GherkinDocument.{GherkinDocument}
use Rattle.cm_envelope.specs.declared.pickle.Pickle.{Pickle}
use Rattle.cm_stream.specs.Skeleton.{same_skeleton}
use Rattle.cm_stream.specs.declared.laws.StreamFault.{StreamFault}
use Rattle.cm_stream.specs.declared.laws.StreamFault.TheVariants as bad
use Rattle.cm_state.specs.StateChecks.{find_source, lacks_by}
use Rattle.cm_state.specs.Summary.{SourceRow, Summary}
use Rattle.cm_differs.specs.Differences.{IsTreeDifference}
use Rattle.cm_differs.specs.declared.difference.Difference.{Difference}
use Rattle.cm_source_reasons.specs.SourceReasons.{difference_text, missing_document, missing_pickles, pickle_reason_text, uri_line}

-- the difference of the document that is awaited and the stream's, where the trees differ
abbrev pub DiffersInTree : SourceRow → GherkinDocument → Option Difference → Type 0
DiffersInTree r d o =
    (due : Document) → r.awaited ≡ Some due → same_skeleton d.document due ≡ false
    → IsSomeAnd o (IsTreeDifference d.uri due d.document)

-- what holds of each source that is found so
abbrev pub OfFound : Option SourceRow → (SourceRow → Type 0) → Type 0
OfFound found P = (r : SourceRow) → found ≡ Some r → P r

-- the lines of a difference, where there is one
abbrev pub difference_lines : Option Difference → List ℕ
difference_lines d = option_map_or difference_text d []

-- what a source lacks: the document that is awaited, or else its pickles
abbrev pub lack_by_document : List Envelope → SourceRow → Option Document → List ℕ
lack_by_document es r (Some due) = missing_document
lack_by_document es r None = missing_pickles es r.uri r.ids r.due

abbrev pub lack_lines : List Envelope → SourceRow → List ℕ
lack_lines es r = uri_line r.uri ++ lack_by_document es r r.awaited

-- ---- the text, by the envelope of the line and the lines up to it

abbrev pub TellsTree : Summary → GherkinDocument → (text : List ℕ) → Type 0
TellsTree s x text =
    (o : Option Difference) × OfFound (find_source s x.uri) (λ r. DiffersInTree r x o)
    × (text ≡ difference_lines o)

-- that of the next pickle of the source and the stream's
abbrev pub pickle_reason_text_by : Summary → (upto : List Envelope) → Pickle → List ℕ
pickle_reason_text_by s upto p =
    option_map_or (λ r. pickle_reason_text upto r.ids (slice_get r.due 0) p) (find_source s p.uri)
    []

-- that of the first source that lacks something
abbrev pub lack_lines_by : Summary → (upto : List Envelope) → List ℕ
lack_lines_by s upto = option_map_or (lack_lines upto) (find lacks_by s.sources) []

abbrev pub TellsAtTree : Summary → Envelope → (text : List ℕ) → Type 0
TellsAtTree s (envelope.GherkinDocument x) text = TellsTree s x text
TellsAtTree s _ text = text ≡ []

abbrev pub lines_at_pickle : Summary → (upto : List Envelope) → Envelope → List ℕ
lines_at_pickle s upto (envelope.Pickle p) = pickle_reason_text_by s upto p
lines_at_pickle s upto _ = []

abbrev pub TellsKept : Summary → (upto : List Envelope) → Envelope → StreamFault → (text : List ℕ)
    → Type 0
TellsKept s upto e bad.TreeDiffers text = TellsAtTree s e text
TellsKept s upto e bad.PickleDiffers text = text ≡ lines_at_pickle s upto e
TellsKept s upto e bad.SourceIncomplete text = text ≡ lack_lines_by s upto
TellsKept s upto e _ text = text ≡ []
