use Rattle.std.proofs.Common.{◌≡◌, ◌++◌, drop}
use Rattle.cm_stream.specs.Sources.{ids_at}
use Rattle.cm_differs.proofs.difference.ids_at.Given as goal

abbrev pub invariant-loop-node : goal.invariant-loop-node
invariant-loop-node l = l.texts ++ ids_at l.ids (drop l.node-index l.nodes) ≡ ids_at l.ids l.nodes
