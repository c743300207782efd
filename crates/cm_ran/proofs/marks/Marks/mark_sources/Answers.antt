use Rattle.std.proofs.Common.{◌∙◌}
use Rattle.cm_ran.proofs.MarkLemmas.{source_taken}
use Rattle.cm_ran.proofs.WholeLemmas.{compiled_at}
use Rattle.cm_ran.proofs.marks.Marks.mark_sources.Goals as goal

pub loop-source-preserved : goal.loop-source-preserved
loop-source-preserved c = record {
  texts = c.in_ok-mark_source.ensures.texts ∙ c.loop-source.invariant.texts;
  also = source_taken c.args.rows.now c.args.sources.now c.loop-source.source-index _ c.args.self.now c.loop-source.self c.mark_source.new.self
      c.loop-source-test.true c.loop-source.invariant.texts c.loop-source.invariant.also c.in_ok-mark_source.ensures.ok;
  rows = λ all whole. c.in_ok-mark_source.ensures.rows (compiled_at c.args.rows.now c.args.sources.now c.loop-source.source-index _ c.loop-source-test.true all) (c.loop-source.invariant.rows all whole);
}
