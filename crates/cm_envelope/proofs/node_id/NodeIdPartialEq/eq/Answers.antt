use Rattle.std.proofs.Common.{rules}
use Rattle.cm_envelope.proofs.node_id.NodeIdPartialEq.eq.Goals as goal

pub returns : goal.returns
returns c = search rules
