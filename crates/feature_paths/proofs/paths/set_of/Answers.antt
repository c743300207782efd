use Rattle.std.proofs.Common.{string_bytes}
use Rattle.feature_paths.proofs.TextLemmas.{once_more}
use Rattle.feature_paths.proofs.paths.set_of.Goals as goal

pub loop-text-preserved : goal.loop-text-preserved
loop-text-preserved c =
    once_more string_bytes c.loop-text.set.keys c.insert.new.self.keys c.loop-text.yielded c.in-Some.text
    c.loop-text.invariant c.in_ok-insert.ensures.keys
