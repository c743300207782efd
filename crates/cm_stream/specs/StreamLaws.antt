-- What is reported of a stream is right: laws over bytes.
use Rattle.std.specs.Prelude.{◌≡◌, ℕ, Bool, List, Result}
use Rattle.cm_attempt.specs.declared.status.Settings.{Settings}
use Rattle.cm_stream.specs.Stream.{FirstFault, At, Troubled, NoFault, IsFirstFault, IsGoodStream, IsGoodRun, counts_of, GoodWith, answer_of_audit, answer_for, verdict_in, GoodRunsOnly, NoneIsGood, HaveFirstLines}
use Rattle.cm_envelope.specs.declared.envelope.Envelope.{Envelope}
use Rattle.cm_envelope.specs.declared.feed.Trouble.{Trouble}
use Rattle.cm_stream.specs.declared.laws.Counts.{Counts}
use Rattle.cm_stream.specs.declared.laws.Audited.{Audited}
use Rattle.cm_stream.specs.Findings.{Finding}

-- a stream has one first fault
pub record OneFirstFault : Type 0 where
  pub some : (settings : Settings) (bytes : List ℕ)
      → (f : FirstFault) × IsFirstFault settings bytes f
  pub one : (settings : Settings) (bytes : List ℕ) (f g : FirstFault)
      → IsFirstFault settings bytes f → IsFirstFault settings bytes g → f ≡ g

-- where no fault is reported, the stream is good, and these are its counts
abbrev pub NoFaultIsGood : Type 0
NoFaultIsGood =
    (settings : Settings) (bytes : List ℕ) (es : List Envelope)
    → IsFirstFault settings bytes (NoFault es)
    → IsGoodStream settings bytes (counts_of es)

-- of a good stream no fault is reported
abbrev pub GoodIsNoFault : Type 0
GoodIsNoFault =
    (settings : Settings) (bytes : List ℕ) (counts : Counts) → IsGoodStream settings bytes counts
    → (es : List Envelope) × IsFirstFault settings bytes (NoFault es) × (counts ≡ counts_of es)

-- no good stream has the lines up to one at which a fault is reported
abbrev pub NoneBeginsSo : Type 0
NoneBeginsSo =
    (settings : Settings) (bytes other : List ℕ) (n : ℕ) (f : Finding) (counts : Counts)
    → IsFirstFault settings bytes (At n f) → HaveFirstLines n bytes other
    → IsGoodStream settings other counts → ⊥

-- a stream of which a finding or a trouble is reported isn't good, at whatever line it is
pub record FoundIsNotGood : Type 0 where
  pub found : (settings : Settings) (bytes : List ℕ) (n : ℕ) (f : Finding) (counts : Counts)
      → IsFirstFault settings bytes (At n f) → IsGoodStream settings bytes counts → ⊥
  pub troubled : (settings : Settings) (bytes : List ℕ) (t : Trouble) (counts : Counts)
      → IsFirstFault settings bytes (Troubled t) → IsGoodStream settings bytes counts → ⊥

-- The answer for what is reported is right: Good only for a good stream with these counts that says this of success, Bad only
-- where none begins so, and Good for each good stream.
pub record IsRightAnswer (settings : Settings) (bytes : List ℕ)
    (answer : Result Audited Trouble) : Type 0 where
  pub good : GoodRunsOnly settings bytes answer
  pub bad : NoneIsGood settings bytes (verdict_in answer)
  pub decided : (counts : Counts) (success : Bool) → IsGoodRun settings bytes counts success
      → answer_of_audit answer ≡ GoodWith counts success

abbrev pub AnswersAreRight : Type 0
AnswersAreRight =
    (settings : Settings) (bytes : List ℕ) (f : FirstFault) (answer : Result Audited Trouble)
    → IsFirstFault settings bytes f → answer_of_audit answer ≡ answer_for f
    → IsRightAnswer settings bytes answer
