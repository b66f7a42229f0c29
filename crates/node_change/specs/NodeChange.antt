-- The map with one node more, or with one less, as `vote_to_add` and `vote_to_remove` propose it.
use Rattle.std.specs.Prelude.{ℕ, List, Bool, false, cond, not, length, leb, eqb}
use Rattle.lists.specs.Lists.{filter, has_key, insert_within}
use Rattle.bincode.specs.Sizes.{Sizes}
use Rattle.pub_key_map.specs.declared.Node.{Node}
use Rattle.pub_key_map.specs.PubKeyMap.{id_of}

-- row 13: another node than those of the map would reach one more than a map may have
unfoldable pub row13 : Sizes → List Node → ℕ → Bool
row13 z ns id = cond (has_key id_of id ns) false (leb z.nodes (length ns))

-- the node in place of the one with its id, or where its id belongs
unfoldable pub with_node : Sizes → List Node → Node → List Node
with_node z ns n = insert_within id_of z.nodes n ns

-- all but the node with the id; without such a node, the same map
abbrev pub is_not : ℕ → Node → Bool
is_not id n = not (eqb n.id id)

unfoldable pub without_node : List Node → ℕ → List Node
without_node ns id = filter (is_not id) ns
