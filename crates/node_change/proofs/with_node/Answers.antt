use Rattle.node_change.specs.NodeChange.{with_node}
use Rattle.node_change.proofs.with_node.Goals as goal

pub returns : goal.returns
unfolding with_node
returns c = c.insert.ensures
