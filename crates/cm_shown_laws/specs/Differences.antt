-- What is expected, and what is found, where a stream differs from what its sources' texts compile to.
use Rattle.std.specs.Prelude.{◌≡◌, ◌≢◌, ◌≤◌, ℕ, List, ◌++◌, Option, codes, true, ⊤, IfOk}
use Rattle.std.specs.List.{AllByRecursion}
use Rattle.std.specs.Option.{option_map_or}
use Rattle.std.specs.Str.{IsUtf8}
use Rattle.serde_json.specs.Data.{Data, depth}
use Rattle.serde_json.specs.Read.{max_depth}
use Rattle.serde_json.specs.Written.{compact_text}
use Rattle.gk_document.specs.declared.tree.Document.{Document}
use Rattle.gk_parts.specs.Parts.{Part, part_alone, parts_alone}
use Rattle.gk_pickle.specs.Pickles.{pickles as compiled}
use Rattle.cm_envelope.specs.Reading.{envelope_of_line}
use Rattle.cm_envelope.specs.declared.envelope.Envelope.{Envelope}
use Rattle.cm_envelope.specs.declared.envelope.Envelope.TheVariants as envelope
use Rattle.cm_envelope.specs.declared.pickle.Pickle.{Pickle}
use Rattle.cm_envelope.specs.declared.pickle.PickleStep.{PickleStep}
use Rattle.cm_attempt.specs.declared.status.Settings.{Settings}
use Rattle.cm_stream.specs.Findings as bad
use Rattle.cm_stream.specs.Findings.{IsBad}
use Rattle.cm_stream.specs.Readings.{Accepted, IsReading}
use Rattle.cm_stream.specs.Texts.{Utf8}
use Rattle.cm_cases.specs.Shown.{shown_json}
use Rattle.cm_differs.specs.DuePickles.{due_pickle, without_ids}
use Rattle.cm_differs.specs.PartData.{part_data, part_text}
use Rattle.cm_differs.specs.PickleData.{bare_pickle_data, pickle_text}
use Rattle.cm_differs.specs.declared.difference.Difference.{Difference}
use Rattle.cm_read_back.specs.Values.{IsPlain, in_order}
use Rattle.cm_source_reasons.specs.SourceReasons.{sides_text}
use Rattle.cm_fault_reasons.specs.AtLine.{IsToldOfLine}

-- what JSON can say and a reader takes: plain, the members in order, nested within the limit
pub record IsSayable (d : Data) : Type 0 where
  pub plain : IsPlain d
  pub ordered : in_order d ≡ true
  pub shallow : depth d ≤ max_depth

-- values whose texts without spaces are shown alike are the same
abbrev pub UnlikeValuesAreShownUnlike : Type 0
UnlikeValuesAreShownUnlike =
    (d e : Data) → IsSayable d → IsSayable e
    → shown_json (compact_text d) ≡ shown_json (compact_text e) → d ≡ e

-- its texts are UTF-8, its lines of 64 bits
abbrev pub IsPlainPart : Part → Type 0
IsPlainPart p = IsPlain (part_data p)

-- parts, each alone, that are shown alike are the same
abbrev pub UnlikePartsAreShownUnlike : Type 0
UnlikePartsAreShownUnlike =
    (p q : Part) → IsPlainPart (part_alone p) → IsPlainPart (part_alone q)
    → shown_json (part_text (part_alone p)) ≡ shown_json (part_text (part_alone q))
    → part_alone p ≡ part_alone q

-- its texts are UTF-8
abbrev pub IsPlainPickle : Pickle → Type 0
IsPlainPickle p = IsPlain (bare_pickle_data p)

-- pickles that are shown alike are the same, but for the ids that are free
abbrev pub UnlikePicklesAreShownUnlike : Type 0
UnlikePicklesAreShownUnlike =
    (p q : Pickle) → IsPlainPickle p → IsPlainPickle q
    → shown_json (pickle_text p) ≡ shown_json (pickle_text q) → without_ids p ≡ without_ids q

-- what is plain of an envelope: the content of a source, each part of a document, or a pickle
abbrev pub IsPlainEnvelope : Envelope → Type 0
IsPlainEnvelope (envelope.Source s) = IsUtf8 s.content
IsPlainEnvelope (envelope.GherkinDocument g) = AllByRecursion IsPlainPart (parts_alone g.document)
IsPlainEnvelope (envelope.Pickle p) = IsPlainPickle p
IsPlainEnvelope _ = ⊤

-- the envelope that a line is read as, if it is one
abbrev pub ReadArePlain : Type 0
ReadArePlain = (line : List ℕ) → IfOk (envelope_of_line line) IsPlainEnvelope

-- each part of the document that a text within the limits has
abbrev pub AcceptedArePlain : Type 0
AcceptedArePlain =
    (text : Utf8) (d : Document) → IsUtf8 text → IsReading text (Accepted d)
    → AllByRecursion IsPlainPart (parts_alone d)

-- each pickle that it compiles to, as the stream would have it, where the nodes have these ids
abbrev pub CompiledArePlain : Type 0
CompiledArePlain =
    (text : Utf8) (d : Document) → IsUtf8 text → IsReading text (Accepted d)
    → (uri : Utf8) (ids : List Utf8) (beside : List PickleStep) → IsUtf8 uri
    → AllByRecursion IsUtf8 ids
    → AllByRecursion (λ due. IsPlainPickle (due_pickle uri ids beside due)) (compiled d)

-- what is printed of a side: its JSON, or `nothing`
abbrev pub shown_side : Option (List ℕ) → List ℕ
shown_side json = option_map_or shown_json json (codes "nothing")

-- what is printed as expected isn't what is printed as found
abbrev pub IsToldApart : Difference → Type 0
IsToldApart d = shown_side d.expected ≢ shown_side d.found

-- the text ends with the lines of both sides of a difference, which are unlike
pub record TellsApart (text : List ℕ) : Type 0 where
  pub front : List ℕ
  pub difference : Difference
  pub ends : text ≡ front ++ sides_text difference
  pub apart : IsToldApart difference

-- What is told of a line of a stream whose document isn't the one that its source is read as: what is due and what is found, which
-- are printed unlike.
abbrev pub TreesAreToldApart : Type 0
TreesAreToldApart =
    (settings : Settings) (bytes : List ℕ) (n : ℕ) (text : List ℕ)
    → IsToldOfLine settings bytes n (IsBad bad.TreeDiffers) text → TellsApart text

-- The same of a line whose pickle isn't the one that is due there.
abbrev pub PicklesAreToldApart : Type 0
PicklesAreToldApart =
    (settings : Settings) (bytes : List ℕ) (n : ℕ) (text : List ℕ)
    → IsToldOfLine settings bytes n (IsBad bad.PickleDiffers) text → TellsApart text
