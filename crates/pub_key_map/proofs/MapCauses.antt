-- What refuses a map, in every edition and for every size: the causes that `map_wrong` names, each with its number, and nothing else.
-- Assumes nothing.
use Prim.Native.Nat.{ℕ, ◌<◌}
use mathlib.Core.Path.{refl}
use mathlib.Core.List.{List}
use native.Mathlib.Omega.{arith}
use lib.Dec.{ltb, eqb}
use borrow.Author.Tests.{ltb-true, ltb-false, eqb-true, eqb-false}
use Rattle.bincode.specs.Numbers.{Edition}
use Rattle.bincode.specs.Sizes.{Sizes}
use Rattle.bincode.specs.Items.{foldl}
use Rattle.bincode.specs.Stands.{Each}
use Rattle.bincode.specs.Codes.{NumberCodes}
use Rattle.bincode.specs.Causes.{not_ascending, key_zero, count_over, NumberWrong, Causes, NumberCauses}
use Rattle.bincode.proofs.CodeLaws.{four, eight}
use Rattle.bincode.proofs.CauseLaws.{field, tested, accepted}
use Rattle.bincode.proofs.RunCauses.{counted_causes, not_above}
use Rattle.pub_key_map.specs.declared.Node.{Node}
use Rattle.pub_key_map.specs.PubKeyMap.{read_node, read_map, following, node_bytes, NodeOk}
use Rattle.pub_key_map.specs.MapCauses.{node_wrong, map_wrong}
use Rattle.pub_key_map.proofs.MapCodes.{node_codes}

module _ (e : Edition) (v : NumberWrong) (s : List ℕ) (codes : NumberCodes e s) (num : NumberCauses e v s) where
  -- a node behind others
  pub node_causes : (before : List Node) → Each following NodeOk 0 before → Causes s (read_node e s (foldl following 0 before)) (node_wrong e v s before)
  unfolding read_node
  node_causes before h =
      field (codes 4 four) (num 4 four) λ id.
      let low = foldl following 0 before in
      let below = not_above following NodeOk (λ n. n.id) (λ l. l) (λ l n. refl) (λ l n o. o.ascends) 0 refl before h id in
      tested (ltb id low) not_ascending 2 refl
      (λ t. below.0 (ltb-true id low t)) (λ t p. let l = ltb-false id low t in let m = below.1 p in omega arith) λ t.
      field (codes 8 eight) (num 8 eight) λ key.
      tested (eqb key 0) key_zero 2 refl (eqb-true key 0) (eqb-false key 0) λ u d.
      accepted (record { id = id; key = key }) d

  pub map_causes : (z : Sizes) → Causes s (read_map e z s) (map_wrong e v s z)
  unfolding read_map
  map_causes z =
      counted_causes s (read_node e s) following (node_bytes e) NodeOk (node_codes e s codes) 0 (node_wrong e v s) node_causes e v codes num
      z.nodes (λ n. z.nodes < n) (λ n. (λ l. l, λ l. l)) count_over refl
