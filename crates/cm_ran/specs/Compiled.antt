-- Sources whose texts compile to as many pickles as their uris have flags. It is in the contracts of private functions alone.
use Rattle.std.specs.Prelude.{ℕ, Bool, List, Vec, length}
use Rattle.std.specs.Borrow.{Bor}
use Rattle.std.specs.List.{AllByRecursion}
use Rattle.std.specs.declared.alloc.Global.{Global}
use Rattle.indexmap.specs.IndexMap.{IndexMap}
use Rattle.cm_stream.specs.Texts.{Utf8}
use Rattle.cm_ran.specs.Marks.{CompilesTo}
use Rattle.cm_ran.specs.Rows.{row_at}

module _ {S : Type 0} where
  -- of sources that are given by uri and text
  abbrev pub HasCompiled : IndexMap (Bor Utf8) (Vec Bool Global) S → List (Utf8 × Utf8) → Type 0
  HasCompiled m sources =
      AllByRecursion (λ s. CompilesTo s.1 (length (row_at m s.0))) sources
