-- A map from node id to key, in definitions a list of nodes: as code holds it, as it is compared, read and written.
use Rattle.std.specs.Prelude.{ℕ, ◌+◌, ◌^◌, ◌≤◌, ◌<◌, ◌≡◌, List, [], ◌∷◌, ◌++◌, Bool, cond, ◌&&◌, length, ltb, eqb}
use Rattle.lists.specs.Lists.{padded, eq_list}
use Rattle.array_list.specs.ArrayList.{items_in}
use Rattle.bincode.specs.Read.{Read, value, refuse, bind}
use Rattle.bincode.specs.Numbers.{Edition}
use Rattle.bincode.specs.Sizes.{Sizes, base}
use Rattle.bincode.specs.Items.{counted}
use Rattle.bincode.specs.Stands.{concat, concat_map, Each}
use Rattle.pub_key_map.specs.declared.Node.{Node}
use Rattle.pub_key_map.specs.declared.PubKeyMap.{PubKeyMap}

-- the nodes of any value of the struct: those below the count, as far as the array reaches
abbrev pub nodes_of : PubKeyMap → List Node
nodes_of m = items_in m.nodes

-- what a list of nodes goes by
abbrev pub id_of : Node → ℕ
id_of n = n.id

-- the struct that holds a list of nodes: unused places are zero
abbrev pub no_node : Node
no_node = record { id = 0; key = 0 }

abbrev pub map_held : List Node → PubKeyMap
map_held ns = record { nodes = record { count = length ns; items = padded base.nodes no_node ns } }

-- equality: the same ids with the same keys
unfoldable pub same_node : Node → Node → Bool
same_node a b = eqb a.id b.id && eqb a.key b.key

abbrev pub same_nodes : List Node → List Node → Bool
same_nodes = eq_list same_node

-- an id from `low` on, with its key; 2 where the bytes are cut, the id is lower (row 2: not strictly ascending) or the key is 0.
-- The id is judged before the key is read: 02, CR 5 has rows apply as the fields are read, and a key of the variable widths may be refused by 16.
unfoldable pub read_node : Edition → List ℕ → ℕ → ℕ → Read Node
read_node e s low at =
    bind (e.read 4 s at) λ id c.
    cond (ltb id low) (refuse 2)
    (bind (e.read 8 s c) λ key d.
    cond (eqb key 0) (refuse 2)
    (value (record { id = id; key = key }) d))

-- the least id that may follow
abbrev pub following : ℕ → Node → ℕ
following low n = n.id + 1

-- maps are a count, then id and key of each node; 3 where the count is over its size
unfoldable pub read_map : Edition → Sizes → List ℕ → ℕ → Read (List Node)
read_map e z s at = counted (read_node e s) following e s z.nodes 0 at

unfoldable pub node_bytes : Edition → Node → List ℕ
node_bytes e n = concat (e.bytes 4 n.id ∷ e.bytes 8 n.key ∷ [])

unfoldable pub map_bytes : Edition → List Node → List ℕ
map_bytes e ns = e.bytes 8 (length ns) ++ concat_map (node_bytes e) ns

-- the maps that some bytes are read as
pub record NodeOk (low : ℕ) (n : Node) : Type 0 where
  pub ascends : low ≤ n.id
  pub id_fits : n.id < 256 ^ 4
  pub key_fits : n.key < 256 ^ 8
  pub is_key : n.key ≡ 0 → ⊥

pub record MapOk (z : Sizes) (ns : List Node) : Type 0 where
  pub few : length ns ≤ z.nodes
  pub each : Each following NodeOk 0 ns
