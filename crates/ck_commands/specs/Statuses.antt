-- The words of the statuses of cases.
use Rattle.std.specs.Prelude.{ℕ, List, Option, Some, None, codes}
use Rattle.cm_attempt.specs.declared.status.Status.{Status}
use Rattle.cm_reasons.specs.Words.{status_word}

-- a case without a final attempt has no status
abbrev pub reported_word : Option Status → List ℕ
reported_word (Some status) = status_word status
reported_word None = codes "NONE"
