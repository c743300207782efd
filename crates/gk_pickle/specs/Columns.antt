-- The columns of a header by their names, as a map has them.
use Rattle.std.specs.Prelude.{ℕ, List, [], Vec}
use Rattle.std.specs.Option.{option_map_or}
use Rattle.std.specs.Map.{lookup}
use Rattle.std.specs.Str.{bytes_eq}
use Rattle.std.specs.declared.alloc.Global.{Global}
use Rattle.indexmap.specs.IndexMap.{IndexMap}
use Rattle.std.proofs.Common.{Bor}

module _ {S : Type 0} where
  abbrev pub columns_at : IndexMap (Bor (List ℕ)) (Vec ℕ Global) S → List ℕ → List ℕ
  columns_at named name =
      option_map_or (λ columns. columns.items) (lookup (λ k. bytes_eq name k.now) named.entries) []
