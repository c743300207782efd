use Rattle.std.proofs.Common.{◌≡◌, ℕ, List, take}
use Rattle.gk_pickle.specs.SinglePass.{columns_named}
use Rattle.gk_pickle.specs.Columns.{columns_at}
use Rattle.gk_pickle.proofs.filling.named.Given as goal

abbrev pub invariant-loop-column : goal.invariant-loop-column
invariant-loop-column l = (name : List ℕ) → columns_at l.named name ≡ columns_named name (take l.column l.header)
