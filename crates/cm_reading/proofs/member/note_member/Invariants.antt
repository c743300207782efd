use Rattle.std.proofs.Common.{◌≡◌, ◌++◌, map, take, drop}
use Rattle.serde_json.specs.View.{view}
use Rattle.cm_reading.specs.Members.{as_named, with_value}
use Rattle.cm_reading.proofs.member.note_member.Given as goal

abbrev pub invariant-loop-i : goal.invariant-loop-i
invariant-loop-i l = map as_named l.members ≡ map (with_value l.name (view l.value)) (take l.i (map as_named l.fn.members)) ++ drop l.i (map as_named l.fn.members)
