use Prim.Native.Nat.{◌-◌}
use mathlib.Core.Path.{◌≡◌}
use mathlib.Core.List.{List}
use Rattle.bincode.specs.Numbers.{fixed}
use Rattle.bincode.specs.Sizes.{base}
use Rattle.bincode.specs.Items.{items, after}
use Rattle.pub_key_map.specs.declared.Node.{Node}
use Rattle.pub_key_map.specs.PubKeyMap.{read_node, read_map, following}
use Rattle.pub_key_map.proofs.check_map.Given as goal

abbrev pub invariant-loop : goal.invariant-loop
invariant-loop l = (done : List Node) × (read_map fixed base l.s l.at ≡ after done (items (read_node fixed l.s) following (l.count - l.counter) l.low l.c))
