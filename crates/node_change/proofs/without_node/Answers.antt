use Rattle.std.proofs.Common.{rules}
use Rattle.node_change.specs.NodeChange.{is_not, without_node}
use Rattle.node_change.proofs.without_node.Goals as goal

pub returns : goal.returns
unfolding without_node
returns c = c.retain.ensures (is_not c.args.id) (λ n r s. search rules)
