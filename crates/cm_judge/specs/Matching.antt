-- Parts of a pickle that are compared one by one.
use Rattle.std.specs.Prelude.{ℕ, Bool, List, [], slice_get, unwrap_or}
use Rattle.std.specs.Str.{bytes_eq}
use Rattle.cm_stream.specs.Texts.{Utf8}
use Rattle.cm_envelope.specs.declared.pickle.PickleCell.{PickleCell}

-- the text is the id of the node
abbrev pub is_id : List Utf8 → Utf8 → ℕ → Bool
is_id ids id node = bytes_eq id (unwrap_or (slice_get ids node) [])

abbrev pub has_value : List Utf8 → PickleCell → Utf8 → Bool
has_value ids cell value = bytes_eq cell.value value
