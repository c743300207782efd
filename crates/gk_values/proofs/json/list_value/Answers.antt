use Rattle.std.proofs.Common.{◌∙◌, ap, map, refl}
use Rattle.serde_json.specs.Data.{array}
use Rattle.serde_json.specs.View.{items_of}
use Rattle.serde_json.proofs.Views.{view-Array}
use Rattle.gk_pickle.proofs.Made.{all_made}
use Rattle.gk_values.proofs.Written.{one_written}
use Rattle.gk_values.proofs.json.list_value.Goals as goal

pub loop-item-preserved : goal.loop-item-preserved
loop-item-preserved g c = one_written g.T.WriteJson.json _ _ _ _ _ _ _ c.in_ok-push.ensures.items c.in_ok-value.ensures c.loop-item-test.true c.item-item.is c.loop-item.invariant

pub returns : goal.returns
returns g c =
    view-Array c.loop-item.values
    ∙ ap (λ ds. array (items_of ds)) (all_made (map g.T.WriteJson.json) _ c.args.items.now c.loop-item.item-index _ refl c.loop-item-test.false c.loop-item.invariant)
