-- What the reads of a source left, as the source has it.
use Rattle.std.specs.Prelude.{ℕ, List, Option}
use Rattle.cm_envelope.specs.Device.{Input}
use Rattle.cm_envelope.specs.declared.device.Reads.{Reads}

-- with the bytes that are still to come, where the source shows them
abbrev pub input_with : (to_come : Option (List ℕ)) → Reads → Input
input_with to_come r = record {
  heard = r.heard.bytes;
  is_over = r.heard.is_over;
  to_come = to_come;
  failed_calls = r.failed;
}
