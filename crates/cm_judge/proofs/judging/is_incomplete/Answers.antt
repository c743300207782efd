use Rattle.std.proofs.Common.{◌∙◌, sym}
use Rattle.cm_judge.proofs.Runs.{rows_lack}
use Rattle.cm_judge.proofs.judging.is_incomplete.Goals as goal

pub returns : goal.returns
returns c = c.lack_some.ensures ∙ sym (rows_lack c.args.state.now.sources.entries)
