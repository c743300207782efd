use Rattle.std.proofs.Common.{◌≡◌, map}
use Rattle.serde_json.specs.View.{view}
use Rattle.cm_reading.specs.Members.{as_named, looked_for}
use Rattle.cm_reading.proofs.Walking.{past_all}
use Rattle.cm_reading.proofs.member.find.Given as goal

abbrev pub invariant-loop-name : goal.invariant-loop-name
invariant-loop-name l = map (past_all l.name-iterator) (map as_named l.members) ≡ map (looked_for (view l.fn.object)) (map as_named l.fn.members)
