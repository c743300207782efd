-- The statuses of a stream, as a record of attempts keeps them.
use Rattle.cm_envelope.specs.declared.envelope.Status as stream
use Rattle.cm_envelope.specs.declared.envelope.Status.TheVariants as line
use Rattle.cm_attempt.specs.declared.status.Status.{Status}
use Rattle.cm_attempt.specs.declared.status.Status.TheVariants.{Unknown, Passed, Skipped, Pending, Undefined, Ambiguous, Failed}

abbrev pub kept_status : stream.Status → Status
kept_status line.Unknown = Unknown
kept_status line.Passed = Passed
kept_status line.Skipped = Skipped
kept_status line.Pending = Pending
kept_status line.Undefined = Undefined
kept_status line.Ambiguous = Ambiguous
kept_status line.Failed = Failed
