use Prim.Native.Nat.{◌-◌}
use mathlib.Core.Path.{◌≡◌}
use mathlib.Core.List.{List}
use lib.ListN.{length}
use Rattle.lists.specs.Lists.{padded}
use Rattle.bincode.specs.Sizes.{base}
use Rattle.bincode.specs.Items.{items, after}
use Rattle.pub_key_map.specs.declared.Node.{Node}
use Rattle.pub_key_map.specs.PubKeyMap.{no_node, read_node, read_map, following}
use Rattle.pub_key_map.proofs.PubKeyMapDecoded.read.Given as goal

abbrev pub invariant-loop-node : goal.invariant-loop-node
invariant-loop-node g l =
    (done : List Node) × (l.node-index ≡ length done) × (l.node-items ≡ padded l.count no_node done)
    × (read_map g.E.IntEncoding.edition base l.s l.at ≡ after done (items (read_node g.E.IntEncoding.edition l.s) following (l.count - l.node-index) l.low l.c))
