-- Rows of flags by texts.
use Rattle.std.specs.Prelude.{◌&&◌, ℕ, Bool, false, List, [], Vec, map, slice_index_or}
use Rattle.std.specs.Borrow.{Bor}
use Rattle.std.specs.List.{filter, list_any}
use Rattle.std.specs.Option.{option_map_or}
use Rattle.std.specs.Str.{bytes_eq}
use Rattle.std.specs.declared.alloc.Global.{Global}
use Rattle.indexmap.specs.IndexMap.{IndexMap}
use Rattle.cm_attempt.specs.Table.{has_text}
use Rattle.cm_cases.specs.Firsts.{value_at}
use Rattle.cm_stream.specs.Texts.{Utf8}

-- of the pickles of a uri, which are given by id and uri, whether each id is one of these
abbrev pub flags_in : (named : List Utf8) → List (Utf8 × Utf8) → (uri : Utf8) → List Bool
flags_in named pickles uri =
    map (λ p. has_text p.0 named) (filter (λ p. bytes_eq uri p.1) pickles)

module _ {S : Type 0} where
  -- the row that a map has for a text, and an empty one where it has none
  abbrev pub row_at : IndexMap (Bor Utf8) (Vec Bool Global) S → Utf8 → List Bool
  row_at m text = option_map_or (λ row. row.items) (value_at m text) []

  -- whether the flag of the place is set there
  abbrev pub flag_at : IndexMap (Bor Utf8) (Vec Bool Global) S → Utf8 → (place : ℕ) → Bool
  flag_at m text place = slice_index_or (row_at m text) place false

  -- one of the sources, which are given by uri and text, has the text, and by its uri the flag of the place is set
  abbrev pub is_set_at : IndexMap (Bor Utf8) (Vec Bool Global) S → List (Utf8 × Utf8) → Utf8
      → (place : ℕ) → Bool
  is_set_at m sources text place =
      list_any (λ s. bytes_eq text s.1 && flag_at m s.0 place) sources
