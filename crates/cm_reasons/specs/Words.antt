-- The words of statuses and of the faults of texts.
use Rattle.std.specs.Prelude.{ℕ, List, codes}
use Rattle.cm_attempt.specs.declared.status.Status.{Status}
use Rattle.cm_attempt.specs.declared.status.Status.TheVariants as status
use Rattle.gk_grammar.specs.declared.fault.FaultKind.{FaultKind}
use Rattle.gk_grammar.specs.declared.fault.FaultKind.TheVariants as kind

-- the word of a status, as `testStepResult` of the Cucumber Messages schemas has it
abbrev pub status_word : Status → List ℕ
status_word status.Unknown = codes "UNKNOWN"
status_word status.Passed = codes "PASSED"
status_word status.Skipped = codes "SKIPPED"
status_word status.Pending = codes "PENDING"
status_word status.Undefined = codes "UNDEFINED"
status_word status.Ambiguous = codes "AMBIGUOUS"
status_word status.Failed = codes "FAILED"

-- the number and the name of a fault's kind
abbrev pub kind_label : FaultKind → List ℕ
kind_label kind.Unexpected = codes "1 Unexpected"
kind_label kind.TagSpace = codes "2 TagSpace"
kind_label kind.CellCount = codes "3 CellCount"
kind_label kind.UnsupportedLanguage = codes "4 UnsupportedLanguage"
kind_label kind.UnexpectedEnd = codes "5 UnexpectedEnd"
kind_label kind.TooLong = codes "6 TooLong"
kind_label kind.Memory = codes "7 Memory"
