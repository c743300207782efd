-- What is told of a line at which a stream isn't what its sources compile to, under the answer.
use Rattle.std.specs.Prelude.{◌≡◌, ℕ, ◌==◌, List, [], ◌∷◌, ◌++◌, Option, Some, None, codes, drop, find, if◌then◌else◌, length, map}
use Rattle.std.specs.Option.{option_map_or}
use Rattle.gk_document.specs.declared.tree.Document.{Document}
use Rattle.gk_pickle.specs.Pickles.{pickles as compiled}
use Rattle.cm_envelope.specs.Lines.{line_feed}
use Rattle.cm_envelope.specs.declared.envelope.Envelope.{Envelope}
use Rattle.cm_envelope.specs.declared.envelope.Envelope.TheVariants as envelope
use Rattle.cm_envelope.specs.declared.envelope.GherkinDocument.{GherkinDocument}
use Rattle.cm_envelope.specs.declared.envelope.Source.{Source}
use Rattle.cm_envelope.specs.declared.pickle.Pickle.{Pickle}
use Rattle.cm_stream.specs.Checks.{document_ids, is_incomplete_by, next_pickle_by}
use Rattle.cm_stream.specs.Readings.{Reading, Accepted}
use Rattle.cm_stream.specs.References.{documents_of, pickles_of, reading_of_by, sources}
use Rattle.cm_stream.specs.Sources.{DuePickle}
use Rattle.cm_stream.specs.Texts.{Utf8}
use Rattle.cm_stream.specs.declared.laws.StreamFault.{StreamFault}
use Rattle.cm_stream.specs.declared.laws.StreamFault.TheVariants as bad
use Rattle.cm_cases.specs.Places.{scenario_text}
use Rattle.cm_cases.specs.Shown.{shown_json, shown_text}
use Rattle.cm_reasons.specs.Lines.{limited_text}
use Rattle.cm_differs.specs.Differences.{IsTreeDifference, pickle_difference}
use Rattle.cm_differs.specs.DuePickles.{due_pickle}
use Rattle.cm_differs.specs.declared.difference.Difference.{Difference}

-- ---- lines

-- the feature file
abbrev pub uri_line : (uri : Utf8) → List ℕ
uri_line uri = codes "uri " ++ shown_text uri ++ line_feed ∷ []

-- one side of a difference: its JSON, in which no character can break, turn or hide the line, or `nothing`
abbrev pub side_text : (name : List ℕ) → Option (List ℕ) → List ℕ
side_text name json =
    name ++ codes " " ++ option_map_or shown_json json (codes "nothing") ++ line_feed ∷ []

-- what the text of the feature file compiles to, and what the stream has in its place
abbrev pub sides_text : Difference → List ℕ
sides_text d = side_text (codes "expected") d.expected ++ side_text (codes "found") d.found

-- the feature file, and both
abbrev pub difference_text : Difference → List ℕ
difference_text d = uri_line d.uri ++ sides_text d

-- ` URI:LINE NAME` of a pickle that is due, where the nodes have these ids
abbrev pub due_scenario : List Envelope → (uri : Utf8) → (ids : List Utf8) → DuePickle → List ℕ
due_scenario es uri ids due = scenario_text es (due_pickle uri ids [] due)

-- the pickle that is due, or the feature file alone where no more are
abbrev pub due_line : List Envelope → (uri : Utf8) → (ids : List Utf8) → Option DuePickle → List ℕ
due_line es uri ids (Some due) = codes "due" ++ due_scenario es uri ids due ++ line_feed ∷ []
due_line es uri ids None = uri_line uri

-- that, what it is as JSON, and the pickle that the stream has in its place
abbrev pub pickle_reason_text : List Envelope → (ids : List Utf8) → Option DuePickle → Pickle
    → List ℕ
pickle_reason_text es ids due p =
    due_line es p.uri ids due ++ sides_text (pickle_difference ids due p)

abbrev pub missing_document : List ℕ
missing_document = codes "missing document" ++ line_feed ∷ []

-- the pickles that are due, a hundred at most, and how many more there are
abbrev pub missing_pickles : List Envelope → (uri : Utf8) → (ids : List Utf8) → List DuePickle
    → List ℕ
missing_pickles es uri ids due =
    limited_text (map (λ d. codes "missing" ++ due_scenario es uri ids d) due)

-- what a source of this uri whose text is read so lacks after these envelopes: its document, or else those of its pickles that
-- didn't come
abbrev pub missing_lines : List Envelope → (uri : Utf8) → Reading → List ℕ
missing_lines before uri (Accepted d) =
    if length (documents_of uri before) == 0 then missing_document
    else missing_pickles before uri (document_ids uri before)
    (drop (length (pickles_of uri before)) (compiled d))
missing_lines before uri _ = []

-- ---- the text that is told of an envelope after these, where texts are read so

-- at a document that isn't the one that its source is read as: in which part they differ first
pub record IsTreeReason (read : Utf8 → Reading) (before : List Envelope) (e : Envelope)
    (text : List ℕ) : Type 0 where
  pub document : GherkinDocument
  pub is_document : e ≡ envelope.GherkinDocument document
  pub due : Document
  pub is_due : reading_of_by read document.uri before ≡ Some (Accepted due)
  pub difference : Difference
  pub differs : IsTreeDifference document.uri due document.document difference
  pub told : text ≡ difference_text difference

-- at a pickle that isn't the next one of its source: which one is due, if any, and both
pub record IsPickleReason (read : Utf8 → Reading) (before : List Envelope) (e : Envelope)
    (text : List ℕ) : Type 0 where
  pub pickle : Pickle
  pub is_pickle : e ≡ envelope.Pickle pickle
  pub told : text
      ≡ pickle_reason_text before (document_ids pickle.uri before)
      (next_pickle_by read pickle.uri before) pickle

-- at the end of the run: the first source that lacks something, and what it lacks
pub record IsLackReason (read : Utf8 → Reading) (before : List Envelope) (text : List ℕ)
    : Type 0 where
  pub source : Source
  pub is_first : find (is_incomplete_by read before) (sources before) ≡ Some source
  pub told : text ≡ uri_line source.uri ++ missing_lines before source.uri (read source.content)

-- by the fault: of one that isn't against a source nothing is told here
abbrev pub IsSourceReason : (read : Utf8 → Reading) → (before : List Envelope) → Envelope
    → StreamFault → (text : List ℕ) → Type 0
IsSourceReason read before e bad.TreeDiffers text = IsTreeReason read before e text
IsSourceReason read before e bad.PickleDiffers text = IsPickleReason read before e text
IsSourceReason read before e bad.SourceIncomplete text = IsLackReason read before text
IsSourceReason read before e _ text = text ≡ []
