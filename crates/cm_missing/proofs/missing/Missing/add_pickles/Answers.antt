use Rattle.cm_stream.specs.Release.{conditions_of}
use Rattle.cm_missing.proofs.ToldLemmas.{one_pickle_more}
use Rattle.cm_missing.proofs.missing.Missing.add_pickles.Goals as goal

pub loop-place-preserved : goal.loop-place-preserved
loop-place-preserved c =
    one_pickle_more (conditions_of c.args.conditions.now) c.args.path.now c.args.flags.now c.args.self.now c.loop-place.self c.add_pickle.new.self
    c.args.pickles.now c.args.lines.now c.loop-place.place c.index-pickles-place.result c.flag_at-has_run.result c.requires c.loop-place-test.true c.index-pickles-place.is
    c.flag_at-has_run.ensures c.loop-place.invariant c.in_ok-add_pickle.ensures
