use Rattle.std.proofs.Common.{rules}
use Rattle.gk_pickle.proofs.Replacing.{one_replaced}
use Rattle.gk_pickle.proofs.filling.replace.Goals as goal

pub loop-before-preserved : goal.loop-before-preserved
loop-before-preserved c = record {
  text = search rules;
  same =
      one_replaced _ _ _ c.in-Some.before.now c.args.cell.now _ _ _ c.in_ok-push_str.ensures.bytes c.in_ok-push_str-2.ensures.bytes (c.in-Some.ensures.some c.args.cell.now)
      c.loop-before.invariant.same;
}
