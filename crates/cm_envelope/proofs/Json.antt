-- The JSON value of a line, by what the reader of JSON says.
use Rattle.std.proofs.Common.{◌≡◌, ℕ, List, Bool, true, false, cond, Option, Some, None, Ok, Err, refl, ap}
use Rattle.std.proofs.lemmas.Str.{IsUtf8-from_is_utf8, is_utf8-from_IsUtf8}
use Rattle.std.specs.Str.{IsUtf8, is_utf8}
use Rattle.serde_json.specs.Data.{Data}
use Rattle.serde_json.specs.Read.{read}
use Rattle.cm_envelope.specs.Reading.{not_json, json_or_fault, json_of_line}

pub json_read : (line : List ℕ) (d : Data) → IsUtf8 line × (read line ≡ Some d) → json_of_line line ≡ Ok d
json_read line d given = rw (is_utf8-from_IsUtf8 line given.0, given.1) refl

refused_if : (b : Bool) (o : Option Data) → (b ≡ true → o ≡ None) → json_or_fault (cond b o None) ≡ Err not_json
refused_if true o none = ap json_or_fault (none refl)
refused_if false o none = refl

pub json_refused : (line : List ℕ) → (IsUtf8 line → read line ≡ None) → json_of_line line ≡ Err not_json
json_refused line none = refused_if (is_utf8 line) (read line) (λ e. none (IsUtf8-from_is_utf8 line e))
