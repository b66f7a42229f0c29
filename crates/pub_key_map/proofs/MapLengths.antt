-- How long a map is at most, in every edition and for every size.
-- Assumes nothing.
use Prim.Native.Nat.{ℕ, ◌+◌, ◌*◌, ◌≤◌}
use mathlib.Core.List.{List, [], ◌∷◌, append-nil}
use native.Mathlib.Omega.{arith}
use native.Mathlib.Nat.{suc-mul, mul-le-mul_right}
use lib.ListN.{length, length-append}
use Rattle.bincode.specs.Numbers.{Edition}
use Rattle.bincode.specs.Sizes.{Sizes}
use Rattle.bincode.specs.Stands.{concat_map, Each}
use Rattle.bincode.proofs.LengthLaws.{Lengths}
use Rattle.pub_key_map.specs.declared.Node.{Node}
use Rattle.pub_key_map.specs.PubKeyMap.{following, node_bytes, map_bytes, NodeOk, MapOk}

module _ (e : Edition) (z : Sizes) (tag count four eight : ℕ) (k : Lengths e z.nodes tag count four eight) where
  node_length : (low : ℕ) (n : Node) → NodeOk low n → length (node_bytes e n) ≤ four + eight
  unfolding node_bytes
  node_length low n o = simp (append-nil, length-append) (omega (arith, k.four_by n.id o.id_fits, k.eight_by n.key o.key_fits))

  nodes_length : (low : ℕ) (ns : List Node) → Each following NodeOk low ns → length (concat_map (node_bytes e) ns) ≤ length ns * (four + eight)
  nodes_length low [] o = omega arith
  nodes_length low (n ∷ ns) o =
      simp length-append (omega (arith, node_length low n o.0, nodes_length (following low n) ns o.1, suc-mul (length ns) (four + eight)))

  -- a count, and as many nodes
  pub map_length : (ns : List Node) → MapOk z ns → length (map_bytes e ns) ≤ count + z.nodes * (four + eight)
  unfolding map_bytes
  map_length ns o =
      let few = o.few in
      let m = mul-le-mul_right (four + eight) few in
      simp length-append (omega (arith, m, k.count_by (length ns) few, nodes_length 0 ns o.each))
