use Rattle.std.proofs.Common.{◌∙◌, arith}
use Rattle.std.proofs.lemmas.List.{length-take-le}
use Rattle.gk_tree.proofs.TextLemmas.{turn_tags}
use Rattle.gk_tree.proofs.tags.with_tags.Goals as goal

pub loop-word-preserved : goal.loop-word-preserved
loop-word-preserved c = record {
  count = omega arith;
  tags =
      c.in_ok-push.ensures.ok
      ∙ turn_tags c.loop-word.all c.args.tags c.args.number c.args.node c.loop-word.next c.loop-word.word-index c.args.words.now _ c.in_ok-tag_name.field-0 (omega arith) c.in_ok-tag_name.ensures c.loop-word.invariant.count (length-take-le c.loop-word.word-index c.args.words.now (omega arith)) c.loop-word.invariant.tags;
}
