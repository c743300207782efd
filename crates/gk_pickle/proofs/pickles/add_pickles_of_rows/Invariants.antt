use Rattle.std.proofs.Common.{◌≡◌, ◌++◌, ◌∷◌, [], map, drop}
use Rattle.gk_pickle.specs.Pickles.{pickle_of}
use Rattle.gk_document.specs.declared.tree.Row.{Row}
use Rattle.gk_pickle.proofs.pickles.add_pickles_of_rows.Given as goal

abbrev pub invariant-loop-row : goal.invariant-loop-row
invariant-loop-row l =
    let made = λ (row : Row). pickle_of l.inherited l.scenario l.tags (record { header = l.columns; cells = row.cells; rows = row.node ∷ [] }) in
    l.made.items ++ map made (drop l.row-index l.rows) ≡ l.initial.made.items ++ map made l.rows
