-- The results of the test cases.
use Rattle.std.specs.Prelude.{List, Option, map}
use Rattle.cm_attempt.specs.Table.{Table, Utf8, reported_status}
use Rattle.cm_attempt.specs.declared.status.Status.{Status}
use Rattle.cm_attempt.specs.declared.track.CaseResult.{CaseResult}

-- the cases in order of declaration, each with the worst status of its final attempt
abbrev pub case_results : Table → List (Utf8 × Option Status)
case_results t = map (λ c. (c.id, reported_status t c.id)) t.cases

-- a result that the code holds
abbrev pub result_view : CaseResult → Utf8 × Option Status
result_view r = (r.id.now, r.status)
