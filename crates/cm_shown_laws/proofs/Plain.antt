-- What is read of lines, and what the grammar reads of texts, is plain.
use Rattle.std.proofs.Common.{List, [], ◌∷◌, Result, Ok, Err, IsUtf8}
use Rattle.std.specs.Prelude.{⊤, IfOk}
use Rattle.std.specs.List.{AllByRecursion}
use Rattle.gk_document.specs.declared.tree.Document.{Document}
use Rattle.gk_pickle.specs.Pickles.{pickles as compiled}
use Rattle.cm_envelope.specs.Reading.{LineFault, envelope_of_line}
use Rattle.cm_envelope.specs.declared.envelope.Envelope.{Envelope}
use Rattle.cm_envelope.specs.declared.envelope.Envelope.TheVariants as envelope
use Rattle.cm_stream.specs.Readings.{Accepted, IsReading, Reading}
use Rattle.cm_stream.specs.Sources.{DuePickle}
use Rattle.cm_stream.specs.Texts.{Utf8}
use Rattle.cm_differs.specs.DuePickles.{due_pickle}
use Rattle.cm_compiled_good.proofs.Blocks.{parsed_clean}
use Rattle.cm_compiled_good.proofs.Compiling.{pickles_fine}
use Rattle.cm_compiled_good.proofs.Filling.{filled_utf8}
use Rattle.cm_compiled_good.proofs.Fine.{clean, FeatureOf, PickleFine}
use Rattle.cm_shown_laws.specs.Differences.{AcceptedArePlain, CompiledArePlain, IsPlainEnvelope, IsPlainPickle, ReadArePlain}
use Rattle.cm_shown_laws.proofs.PlainParts.{parts_plain}
use Rattle.cm_shown_laws.proofs.PlainPickles.{due_texts, pickle_plain}
use Rattle.cm_shown_laws.proofs.ReadLines.{EnvelopeTexts, line_read}

-- ---- of a line

envelope_plain : (e : Envelope) → EnvelopeTexts e → IsPlainEnvelope e
envelope_plain (envelope.Source s) h = h
envelope_plain (envelope.GherkinDocument g) h = parts_plain g.document h.feature
envelope_plain (envelope.Pickle p) h = pickle_plain p h
envelope_plain _ h = tt

pub read_plain : ReadArePlain
read_plain line = go (envelope_of_line line) (line_read line)
  where
    go : (r : Result Envelope LineFault) → IfOk r EnvelopeTexts → IfOk r IsPlainEnvelope
    go (Ok e) h = envelope_plain e h
    go (Err f) h = tt

-- ---- of a text

-- a document that is accepted
abbrev pub ReadingTexts : Reading → Type 0
ReadingTexts (Accepted d) = FeatureOf clean d.feature
ReadingTexts _ = ⊤

pub reading_texts : (text : Utf8) (r : Reading) → IsUtf8 text → IsReading text r → ReadingTexts r
reading_texts text (Accepted d) u h = (parsed_clean text d u h.1 h.0).0
reading_texts text _ u h = tt

pub accepted_plain : AcceptedArePlain
accepted_plain text d u h = parts_plain d (reading_texts text (Accepted d) u h)

pub compiled_fine : (d : Document) → FeatureOf clean d.feature → AllByRecursion (PickleFine clean) (compiled d)
compiled_fine d h = pickles_fine clean (λ t header cells x y z. filled_utf8 t header cells x z) d h

pub compiled_plain : CompiledArePlain
compiled_plain text d u h uri ids beside v k = each (compiled d) (compiled_fine d (reading_texts text (Accepted d) u h))
  where
    each : (ps : List DuePickle) → AllByRecursion (PickleFine clean) ps → AllByRecursion (λ due. IsPlainPickle (due_pickle uri ids beside due)) ps
    each [] fine = tt
    each (p ∷ ps) fine = (pickle_plain (due_pickle uri ids beside p) (due_texts uri ids beside p v k fine.0), each ps fine.1)
