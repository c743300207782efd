-- What an audit keeps of lines without a fault, and what the line after them has.
use Rattle.std.specs.Prelude.{◌≡◌, List, [], ◌∷◌, ◌++◌, Some}
use Rattle.cm_attempt.specs.declared.status.Settings.{Settings}
use Rattle.cm_envelope.specs.declared.envelope.Envelope.{Envelope}
use Rattle.cm_stream.specs.Checks.{fault_by}
use Rattle.cm_stream.specs.FaultlessLines.{IsFaultlessBy}
use Rattle.cm_stream.specs.Findings.{Finding}
use Rattle.cm_stream.specs.Readings.{Reading, ReadsByTheGrammar}
use Rattle.cm_stream.specs.Texts.{Utf8}
use Rattle.cm_state.specs.Summary.{Summary, summary_of_lines_by}
use Rattle.cm_reasons.specs.Trail.{trail_of}
use Rattle.cm_reasons.specs.declared.trail.Trail.{Trail}

-- What an audit keeps of lines without a fault, the trail of these and of the line after them, and what that line has.
pub record IsDeciding (settings : Settings) (s : Summary) (trail : Trail)
    (before : List Envelope) (e : Envelope) (f : Finding) : Type 0 where
  pub read : Utf8 → Reading
  pub by_the_grammar : ReadsByTheGrammar read
  pub faultless : IsFaultlessBy read settings before
  pub left : s ≡ summary_of_lines_by read settings.first_attempt before
  pub upto : trail ≡ trail_of (before ++ e ∷ [])
  pub why : fault_by read settings before e ≡ Some f
