use Rattle.std.proofs.Common.{rules}
use Rattle.cm_envelope.proofs.feed.Feed.with_limits.Goals as goal

pub returns : goal.returns
returns c = search rules
