use Rattle.std.proofs.Common.{map, refl}
use Rattle.cm_differs.specs.DuePickles.{due_tag}
use Rattle.gk_pickle.proofs.Made.{all_made, one_made}
use Rattle.cm_differs.proofs.difference.due_tags.Goals as goal

pub loop-tag-preserved : goal.loop-tag-preserved
loop-tag-preserved c = one_made (due_tag c.args.ids.now) _ _ _ _ _ _ _ c.in_ok-push.ensures.ok c.in_ok-tag.ensures c.loop-tag-test.true c.tag-item.is c.loop-tag.invariant

pub returns : goal.returns
returns c = all_made (map (due_tag c.args.ids.now)) _ _ _ _ refl c.loop-tag-test.false c.loop-tag.invariant
