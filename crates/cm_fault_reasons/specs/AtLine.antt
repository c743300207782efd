-- What is told of the line of a stream that decides, under the answer.
use Rattle.std.specs.Prelude.{◌≡◌, ◌+◌, ⊤, ℕ, List, [], ◌∷◌, ◌++◌, Option, None, Some, Ok, IsSomeAnd, length}
use Rattle.cm_attempt.specs.declared.status.Settings.{Settings}
use Rattle.cm_judge.specs.Deciding.{judged_in}
use Rattle.cm_envelope.specs.declared.envelope.Envelope.{Envelope}
use Rattle.cm_state.specs.Summary.{Summary}
use Rattle.cm_stream.specs.Checks.{fault_by}
use Rattle.cm_stream.specs.Findings.{Finding, IsBad, IsUnsupported, NoEnvelope, NoRunFinished, stream_fault_named}
use Rattle.cm_stream.specs.Readings.{Reading, ReadsByTheGrammar}
use Rattle.cm_stream.specs.Redeclared.{judged_as}
use Rattle.cm_stream.specs.Stream.{envelope_unless_blank, feed_of}
use Rattle.cm_stream.specs.Texts.{Utf8}
use Rattle.cm_stream.specs.declared.laws.Reason.{Reason}
use Rattle.cm_stream.specs.declared.laws.StreamFault.{StreamFault}
use Rattle.cm_stream.specs.declared.laws.StreamFault.TheVariants as fault
use Rattle.cm_stream.specs.declared.laws.Verdict.{Verdict}
use Rattle.cm_stream.specs.declared.laws.Verdict.TheVariants as verdict
use Rattle.cm_reasons.specs.Trail.{trail_of}
use Rattle.cm_reasons.specs.declared.trail.Trail.{Trail}
use Rattle.cm_source_reasons.specs.Deciding.{IsDeciding}
use Rattle.cm_fault_reasons.specs.RunLines.{IsToldAtEnd}
use Rattle.cm_fault_reasons.specs.ToldAt.{IsTold, reason_lines}

-- Line n of the bytes, counted from 1, is read as an envelope. What it is judged as has this finding, and the text is what is told
-- of it after what the lines before are judged as. Texts are read by the grammar.
pub record IsToldOfLine (settings : Settings) (bytes : List ℕ) (n : ℕ) (f : Finding)
    (text : List ℕ) : Type 0 where
  pub read : Utf8 → Reading
  pub by_the_grammar : ReadsByTheGrammar read
  pub before : List (List ℕ)
  pub line : List ℕ
  pub after : List (List ℕ)
  pub cut : (feed_of bytes).lines ≡ before ++ line ∷ after
  pub count : n ≡ length before + 1
  pub said : Envelope
  pub is_read : envelope_unless_blank line ≡ Some (Ok said)
  pub why : fault_by read settings (judged_in settings before)
      (judged_as settings (judged_in settings before) said) ≡ Some f
  pub told : IsTold read settings (judged_in settings before) said f text

-- The bytes are lines without a trouble after them, and the text is what is told of all that they are judged as.
pub record IsToldOfEnd (settings : Settings) (bytes text : List ℕ) : Type 0 where
  pub whole : (feed_of bytes).trouble ≡ None
  pub told : IsToldAtEnd (judged_in settings (feed_of bytes).lines) text

-- the text that is told under a finding: nothing of a line that is no envelope, of the end what is told of the whole, and else
-- what is told of the line
abbrev pub IsToldUnder : Settings → (bytes : List ℕ) → ℕ → Finding → (text : List ℕ) → Type 0
IsToldUnder settings bytes n (IsBad (NoEnvelope fault)) text = text ≡ []
IsToldUnder settings bytes n (IsBad NoRunFinished) text = IsToldOfEnd settings bytes text
IsToldUnder settings bytes n f text = IsToldOfLine settings bytes n f text

-- that, by a verdict
abbrev pub IsToldWith : Settings → (bytes : List ℕ) → Verdict → (text : List ℕ) → Type 0
IsToldWith settings bytes (verdict.Good counts) text = ⊤
IsToldWith settings bytes (verdict.Bad n b) text =
    IsToldUnder settings bytes n (IsBad (stream_fault_named b)) text
IsToldWith settings bytes (verdict.Unsupported n r) text =
    IsToldUnder settings bytes n (IsUnsupported r) text

-- ---- by what an audit keeps of the lines before, the trail of the lines up to it, and the envelope of the line

abbrev pub TellsOf : Settings → Summary → Trail → (last : Option Envelope) → Finding
    → (text : List ℕ) → Type 0
TellsOf settings s trail last f text =
    IsSomeAnd last (λ e. (before : List Envelope) → (d : IsDeciding settings s trail before e f)
    → IsTold d.read settings before e f text)

abbrev pub TellsFault : Settings → Summary → Trail → (last : Option Envelope) → StreamFault
    → (text : List ℕ) → Type 0
TellsFault settings s trail last (fault.NoEnvelope of) text = text ≡ []
TellsFault settings s trail last fault.AfterRunFinished text =
    IsSomeAnd last (λ e. text ≡ [])
TellsFault settings s trail last fault.NoRunFinished text =
    (es : List Envelope) → trail ≡ trail_of es → IsToldAtEnd es text
TellsFault settings s trail last b text =
    TellsOf settings s trail last (IsBad (stream_fault_named b)) text

abbrev pub TellsReason : Trail → (last : Option Envelope) → Reason → (text : List ℕ) → Type 0
TellsReason trail last r text =
    IsSomeAnd last (λ e. (es : List Envelope) → trail ≡ trail_of es
    → text ≡ reason_lines r es e)

abbrev pub TellsWith : Settings → Summary → Trail → (last : Option Envelope) → Verdict
    → (text : List ℕ) → Type 0
TellsWith settings s trail last (verdict.Good counts) text = ⊤
TellsWith settings s trail last (verdict.Bad n b) text = TellsFault settings s trail last b text
TellsWith settings s trail last (verdict.Unsupported n r) text = TellsReason trail last r text
