use Rattle.std.proofs.Common.{map, refl}
use Rattle.gk_pickle.specs.Pickles.{pickle_tag}
use Rattle.gk_pickle.proofs.Made.{all_made, one_made}
use Rattle.gk_pickle.proofs.pickles.add_tags.Goals as goal

pub loop-tag-preserved : goal.loop-tag-preserved
loop-tag-preserved c =
    one_made pickle_tag _ _ _ c.args.tags.now c.loop-tag.tag-index c.tag-item.result _ c.in_ok-push.ensures.items (rw (c.in_ok-name.ensures, c.as_str.ensures)) c.loop-tag-test.true
    c.tag-item.is c.loop-tag.invariant

pub returns : goal.returns
returns c = all_made (map pickle_tag) _ c.args.tags.now c.loop-tag.tag-index _ refl c.loop-tag-test.false c.loop-tag.invariant
