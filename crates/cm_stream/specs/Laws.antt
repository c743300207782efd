-- What the definitions of good streams and of faults have to do with each other.
use Rattle.std.specs.Prelude.{◌≡◌, List, None}
use Rattle.cm_attempt.specs.declared.status.Settings.{Settings}
use Rattle.cm_stream.specs.Texts.{Utf8}
use Rattle.cm_stream.specs.Readings.{Reading, ByTheGrammar}
use Rattle.cm_stream.specs.Good.{Good}
use Rattle.cm_stream.specs.Checks.{fault_at_end}
use Rattle.cm_stream.specs.FaultlessLines.{IsFaultlessBy}
use Rattle.cm_envelope.specs.declared.envelope.Envelope.{Envelope}

-- no line has a fault after those before it, and there is none at the end, where sources' texts are read so
pub record HasNoFaultBy (read : Utf8 → Reading) (settings : Settings)
    (es : List Envelope) : Type 0 where
  pub lines : IsFaultlessBy read settings es
  pub end : fault_at_end es ≡ None

-- good lists are those without a fault
abbrev pub GoodHaveNoFaultBy : (Utf8 → Reading) → Type 0
GoodHaveNoFaultBy read =
    (settings : Settings) (es : List Envelope) → Good settings es → HasNoFaultBy read settings es

abbrev pub FaultlessAreGoodBy : (Utf8 → Reading) → Type 0
FaultlessAreGoodBy read =
    (settings : Settings) (es : List Envelope) → HasNoFaultBy read settings es → Good settings es

abbrev pub GoodHaveNoFault : Type 0
GoodHaveNoFault = ByTheGrammar GoodHaveNoFaultBy

abbrev pub FaultlessAreGood : Type 0
FaultlessAreGood = ByTheGrammar FaultlessAreGoodBy
