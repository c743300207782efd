-- Why a stream isn't judged, by the line that shows it: what its envelope says, and what the grammar says of a source's text.
use Rattle.std.specs.Prelude.{◌≡◌, ℕ, ◌+◌, false, true, List, ◌∷◌, ◌++◌, Some, Ok, length}
use Rattle.std.specs.Str.{bytes_eq}
use Rattle.gk_grammar.specs.Documents.{IsTooLong}
use Rattle.cm_attempt.specs.declared.status.Settings.{Settings}
use Rattle.cm_stream.specs.Readings.{IsInOtherLanguage}
use Rattle.cm_stream.specs.Sources.{plain}
use Rattle.cm_stream.specs.Good.{has_unknown_result}
use Rattle.cm_stream.specs.Findings.{IsUnsupported}
use Rattle.cm_stream.specs.Stream.{At, IsFirstFault, feed_of, envelope_unless_blank}
use Rattle.cm_stream.specs.declared.laws.Reason.{Reason}
use Rattle.cm_stream.specs.declared.laws.Reason.TheVariants as reason
use Rattle.cm_envelope.specs.declared.envelope.Envelope.{Envelope}
use Rattle.cm_envelope.specs.declared.envelope.Envelope.TheVariants as envelope

-- The envelope is a source whose text is in another language, or too long, or whose media type isn't that of plain Gherkin;
-- or it is the result of a step or of a run hook, and its status is unknown.
abbrev pub HasReason : Reason → Envelope → Type 0
HasReason reason.Language (envelope.Source s) =
    (IsTooLong s.content → ⊥) × IsInOtherLanguage s.content
HasReason reason.SourceTooLong (envelope.Source s) = IsTooLong s.content
HasReason reason.MediaType (envelope.Source s) = bytes_eq s.media_type plain ≡ false
HasReason reason.UnknownStatus e = has_unknown_result e ≡ true
HasReason _ _ = ⊥

-- line n of the bytes, counted from 1, is read as an envelope with this reason
pub record ShowsReason (bytes : List ℕ) (n : ℕ) (r : Reason) : Type 0 where
  pub before : List (List ℕ)
  pub line : List ℕ
  pub after : List (List ℕ)
  pub cut : (feed_of bytes).lines ≡ before ++ line ∷ after
  pub count : n ≡ length before + 1
  pub said : Envelope
  pub read : envelope_unless_blank line ≡ Some (Ok said)
  pub why : HasReason r said

-- where the first fault is that a stream isn't judged for a reason, its line shows that reason
abbrev pub ReasonsAreShown : Type 0
ReasonsAreShown =
    (settings : Settings) (bytes : List ℕ) (n : ℕ) (r : Reason)
    → IsFirstFault settings bytes (At n (IsUnsupported r)) → ShowsReason bytes n r
