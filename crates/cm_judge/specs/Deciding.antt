-- What the line that decides the verdict on a stream is: its envelope, its finding, and what the lines before it leave.
use Rattle.std.specs.Prelude.{◌≡◌, ◌<◌, ◌+◌, ⊤, ℕ, Bool, true, false, List, [], ◌∷◌, ◌++◌, Option, None, Some, IfSome, IsSome, Result, Ok, Err, length}
use Rattle.std.specs.List.{flat_map}
use Rattle.cm_envelope.specs.Reading.{LineFault}
use Rattle.cm_envelope.specs.declared.envelope.Envelope.{Envelope}
use Rattle.cm_attempt.specs.declared.status.Settings.{Settings}
use Rattle.cm_stream.specs.Checks.{fault_by}
use Rattle.cm_stream.specs.FaultlessLines.{IsFaultlessBy}
use Rattle.cm_stream.specs.Readings.{Reading, ReadsByTheGrammar}
use Rattle.cm_stream.specs.Texts.{Utf8}
use Rattle.cm_stream.specs.Findings.{Finding, IsBad, IsUnsupported, stream_fault_named}
use Rattle.cm_stream.specs.Redeclared.{judged_after, judged_as}
use Rattle.cm_stream.specs.Stream.{feed_of, envelope_unless_blank}
use Rattle.cm_stream.specs.declared.laws.StreamFault.{StreamFault}
use Rattle.cm_stream.specs.declared.laws.StreamFault.TheVariants as bad
use Rattle.cm_stream.specs.declared.laws.Verdict.{Verdict}
use Rattle.cm_stream.specs.declared.laws.Verdict.TheVariants as verdict
use Rattle.cm_state.specs.Summary.{Summary, summary_of_lines_by}

-- the envelope of a line that is read so, if any
abbrev pub envelope_in : Option (Result Envelope LineFault) → List Envelope
envelope_in (Some (Ok e)) = e ∷ []
envelope_in _ = []

-- the envelopes of lines
abbrev pub envelopes_in : List (List ℕ) → List Envelope
envelopes_in lines = flat_map (λ l. envelope_in (envelope_unless_blank l)) lines

-- what they are judged as
abbrev pub judged_in : Settings → List (List ℕ) → List Envelope
judged_in settings lines = judged_after settings [] (envelopes_in lines)

-- ---- up to the line that decides

-- a fault of an envelope, and not of a line that is none, or of the end
abbrev pub is_of_envelope : StreamFault → Bool
is_of_envelope (bad.NoEnvelope fault) = false
is_of_envelope bad.NoRunFinished = false
is_of_envelope _ = true

-- Line n of the bytes, counted from 1, is read as this envelope. What it is judged as has this finding, and no line before it has
-- one. `follows` holds of what the lines up to it are judged as, and `left` of what the lines before it leave. Texts are read by
-- the grammar.
pub record IsDecidedAt (settings : Settings) (follows : List Envelope → Type 0)
    (left : Summary → Type 0) (bytes : List ℕ) (n : ℕ) (f : Finding) (said : Envelope)
    : Type 0 where
  pub read : Utf8 → Reading
  pub by_the_grammar : ReadsByTheGrammar read
  pub before : List (List ℕ)
  pub line : List ℕ
  pub after : List (List ℕ)
  pub cut : (feed_of bytes).lines ≡ before ++ line ∷ after
  pub count : n ≡ length before + 1
  pub is_read : envelope_unless_blank line ≡ Some (Ok said)
  pub faultless : IsFaultlessBy read settings (judged_in settings before)
  pub why : fault_by read settings (judged_in settings before)
      (judged_as settings (judged_in settings before) said) ≡ Some f
  pub followed : follows (judged_in settings before
      ++ judged_as settings (judged_in settings before) said ∷ [])
  pub leaves : left (summary_of_lines_by read settings.first_attempt (judged_in settings before))

-- The bytes are lines without a trouble after them, and no line has a finding. `follows` holds of what they are judged as, and
-- that is what they leave.
pub record IsFollowedToEnd (settings : Settings) (follows : List Envelope → Type 0)
    (kept : Summary) (bytes : List ℕ) : Type 0 where
  pub read : Utf8 → Reading
  pub by_the_grammar : ReadsByTheGrammar read
  pub whole : (feed_of bytes).trouble ≡ None
  pub faultless : IsFaultlessBy read settings (judged_in settings (feed_of bytes).lines)
  pub followed : follows (judged_in settings (feed_of bytes).lines)
  pub left : kept ≡ summary_of_lines_by read settings.first_attempt
      (judged_in settings (feed_of bytes).lines)

-- one of these, where the verdict isn't Good: the first of an envelope, the other past the last line; at a fault of an envelope
-- that is what the lines before leave
abbrev pub DecidesVerdict : Settings → (List Envelope → Type 0) → (last : Option Envelope)
    → (kept : Summary) → List ℕ → Verdict → Type 0
DecidesVerdict settings follows last kept bytes (verdict.Bad n b) =
    (is_of_envelope b ≡ true
    → IfSome last (IsDecidedAt settings follows (λ s. kept ≡ s) bytes n
    (IsBad (stream_fault_named b))))
    × (length (feed_of bytes).lines < n → IsFollowedToEnd settings follows kept bytes)
DecidesVerdict settings follows last kept bytes (verdict.Unsupported n r) =
    IfSome last (IsDecidedAt settings follows (λ s. ⊤) bytes n (IsUnsupported r))
DecidesVerdict settings follows last kept bytes (verdict.Good counts) = ⊤

-- the envelope of the line that decides is there, where that line has one
abbrev pub HasLast : (last : Option Envelope) → Verdict → Type 0
HasLast last (verdict.Good counts) = ⊤
HasLast last (verdict.Bad n b) = is_of_envelope b ≡ true → IsSome last
HasLast last (verdict.Unsupported n r) = IsSome last
