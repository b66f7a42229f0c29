-- 01, "Leaves first": membership, index by ascending id, f. A map lists its nodes by ascending id, so a node's index is its place.
use Rattle.std.specs.Prelude.{ℕ, ◌+◌, List, [], ◌∷◌, Bool, true, false, cond, eqb}
use Rattle.lists.specs.Lists.{Found, found, nothing}
use Rattle.pub_key_map.specs.declared.Node.{Node}

-- the place of the first node with the id, counted from i
unfoldable pub index_from : ℕ → List Node → ℕ → Found ℕ
index_from i [] id = nothing
index_from i (n ∷ ns) id = cond (eqb n.id id) (found i) (index_from (i + 1) ns id)

abbrev pub node_index : List Node → ℕ → Found ℕ
node_index ns id = index_from 0 ns id

-- the key of the first node with the id
unfoldable pub key_of : List Node → ℕ → Found ℕ
key_of [] id = nothing
key_of (n ∷ ns) id = cond (eqb n.id id) (found n.key) (key_of ns id)

unfoldable pub is_member : List Node → ℕ → Bool
is_member [] id = false
is_member (n ∷ ns) id = cond (eqb n.id id) true (is_member ns id)
