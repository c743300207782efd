use Rattle.std.proofs.Common.{◌≡◌, ℕ, List, map, take}
use Rattle.cm_cases.specs.Listed.{both_texts}
use Rattle.cm_ran.specs.Rows.{flags_in, row_at}
use Rattle.cm_ran.proofs.marks.rows_of.Given as goal

abbrev pub invariant-loop-pickle : goal.invariant-loop-pickle
invariant-loop-pickle l = (uri : List ℕ) → row_at l.rows uri ≡ flags_in (map (λ id. id.now) l.named) (map both_texts (take l.pickle-index l.pickles)) uri
