-- The rows that begin with a text.
use Rattle.std.specs.Prelude.{Bool, false, List, slice_get}
use Rattle.std.specs.Option.{option_map_or}
use Rattle.std.specs.Str.{bytes_eq}
use Rattle.gk_document.specs.Texts.{Utf8}

-- there is a first text, and it is this one
abbrev pub begins_with : (text : Utf8) → List Utf8 → Bool
begins_with text texts = option_map_or (bytes_eq text) (slice_get texts 0) false
