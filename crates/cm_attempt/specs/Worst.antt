-- The order of the statuses of Cucumber Messages (`testStepResult.status`), and the worst of a list.
use Rattle.std.specs.Prelude.{ℕ, List, fold, Option, None, Some, nat_lt, if◌then◌else◌, unwrap_or}
use Rattle.cm_attempt.specs.declared.status.Status.{Status}
use Rattle.cm_attempt.specs.declared.status.Status.TheVariants.{Unknown, Passed, Skipped, Pending}
use Rattle.cm_attempt.specs.declared.status.Status.TheVariants.{Undefined, Ambiguous, Failed}

-- the place of a status in the order
abbrev pub rank : Status → ℕ
rank Unknown = 0
rank Passed = 1
rank Skipped = 2
rank Pending = 3
rank Undefined = 4
rank Ambiguous = 5
rank Failed = 6

-- the worst so far, after one more status
abbrev pub with_status : Option Status → Status → Option Status
with_status None s = Some s
with_status (Some w) s = Some (if nat_lt (rank w) (rank s) then s else w)

-- the worst of a list, which is absent while there is none
abbrev pub worst_so_far : List Status → Option Status
worst_so_far = fold with_status None

-- the status of a list that comes last in the order, and `Passed` of none
abbrev pub worst_of : List Status → Status
worst_of statuses = unwrap_or (worst_so_far statuses) Passed
