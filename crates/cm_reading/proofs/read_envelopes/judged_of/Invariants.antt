use Rattle.std.proofs.Common.{◌≡◌, option_map}
use Rattle.std.specs.List.{cons_option}
use Rattle.cm_envelope.specs.Reading.{judged_kinds_of, the_one, kind_and_data}
use Rattle.cm_reading.proofs.Judged.{judged_members, object_of}
use Rattle.cm_reading.proofs.read_envelopes.judged_of.Given as goal

abbrev pub invariant-loop-name : goal.invariant-loop-name
invariant-loop-name l = the_one (cons_option (option_map kind_and_data l.found) (judged_members l.name-iterator)) ≡ the_one (judged_kinds_of (object_of l.fn.members.entries))
