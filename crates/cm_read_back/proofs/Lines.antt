-- A value that is read is read from its lines.
use Rattle.std.proofs.Common.{◌≡◌, ◌≤◌, List, ℕ, Ok, true, ap, ◌∙◌}
use Rattle.serde_json.specs.Data.{Data, depth}
use Rattle.serde_json.specs.Read.{max_depth}
use Rattle.serde_json.specs.Written.{compact_text}
use Rattle.cm_envelope.specs.declared.envelope.Envelope.{Envelope}
use Rattle.cm_envelope.specs.Member.{◌>>=◌}
use Rattle.cm_envelope.specs.Reading.{envelope_of, envelope_of_line}
use Rattle.cm_envelope.proofs.Json.{json_read}
use Rattle.cm_read_back.specs.Laws.{IsLineOf, IsReadAs}
use Rattle.cm_read_back.specs.Values.{in_order}
use Rattle.cm_read_back.proofs.Values.{plain_have_lines}

line_is : (line : List ℕ) (d : Data) (e : Envelope) → envelope_of d ≡ Ok e → depth d ≤ max_depth → IsLineOf line d → envelope_of_line line ≡ Ok e
line_is line d e read shallow given = ap (λ j. j >>= envelope_of) (json_read line d (given.0, given.1 shallow)) ∙ read

pub read_as : (d : Data) (e : Envelope) → envelope_of d ≡ Ok e → depth d ≤ max_depth → in_order d ≡ true → IsReadAs d e
read_as d e read shallow ordered = record {
  value = read;
  line = λ line given. line_is line d e read shallow given;
  text = λ plain. line_is (compact_text d) d e read shallow (plain_have_lines d plain ordered);
}
