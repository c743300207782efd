use Rattle.std.proofs.Common.{rules}
use Rattle.cm_envelope.proofs.node_id.NodeId.as_str.Goals as goal

pub returns : goal.returns
returns c = search rules
