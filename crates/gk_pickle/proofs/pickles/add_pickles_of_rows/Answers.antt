use Rattle.std.proofs.Common.{◌∙◌, ◌∷◌, [], ap, map, refl}
use Rattle.gk_pickle.specs.Pickles.{pickle_of}
use Rattle.gk_document.specs.declared.tree.Row.{Row}
use Rattle.gk_pickle.proofs.Made.{all_made, one_made}
use Rattle.gk_pickle.proofs.pickles.add_pickles_of_rows.Goals as goal

pub loop-row-preserved : goal.loop-row-preserved
loop-row-preserved c =
    let pickle = pickle_of c.args.inherited.now c.args.scenario.now c.args.tags.now in
    let made = λ (row : Row). pickle (record { header = c.args.columns.now; cells = row.cells; rows = row.node ∷ [] }) in
    one_made made _ _ _ c.args.rows.now c.loop-row.row-index c.row-item.result _ c.in_ok-push.ensures.items (c.in_ok-pickle.ensures ∙ ap pickle c.of_row-filling.ensures)
    c.loop-row-test.true c.row-item.is c.loop-row.invariant

pub returns : goal.returns
returns c =
    let made = λ (row : Row). pickle_of c.args.inherited.now c.args.scenario.now c.args.tags.now (record { header = c.args.columns.now; cells = row.cells; rows = row.node ∷ [] }) in
    all_made (map made) _ c.args.rows.now c.loop-row.row-index _ refl c.loop-row-test.false c.loop-row.invariant
