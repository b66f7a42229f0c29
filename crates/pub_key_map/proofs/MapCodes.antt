-- Reading and writing a map are inverse, in every edition and for every size.
-- Assumes nothing.
use Prim.Native.Nat.{ℕ, ◌^◌, ◌≤◌, ◌<◌}
use mathlib.Core.Path.{◌≡◌, refl}
use mathlib.Core.List.{List}
use lib.Dec.{ltb, eqb}
use borrow.Author.Tests.{le-ltb, ne_eqb, ltb-false, eqb-false}
use Rattle.bincode.specs.Numbers.{Edition}
use Rattle.bincode.specs.Sizes.{Sizes}
use Rattle.bincode.specs.Codes.{Codes, NumberCodes}
use Rattle.bincode.proofs.CodeLaws.{four, eight, field, guard, ended, restate, counted_codes}
use Rattle.pub_key_map.specs.declared.Node.{Node}
use Rattle.pub_key_map.specs.PubKeyMap.{read_node, read_map, following, node_bytes, map_bytes, NodeOk, MapOk}

-- a node that may follow, whose id was read, and its key
abbrev Key : Node → Type 0
Key n = n.key ≡ 0 → ⊥

abbrev Named : ℕ → ℕ → Node → Type 0
Named low id n = (Unit {0} × (n.id ≡ id)) × ((low ≤ n.id) × ((n.key < 256 ^ 8) × Key n))

abbrev Following : ℕ → ℕ → Node → Type 0
Following id key n = ((Unit {0} × (n.id ≡ id)) × (n.key ≡ key)) × Key n

module _ (e : Edition) (s : List ℕ) (num : NumberCodes e s) where
  pub node_codes : (low : ℕ) → Codes s (read_node e s low) (node_bytes e) (NodeOk low)
  unfolding read_node node_bytes
  node_codes low =
      restate
      (λ n o. record { ascends = o.1.1.0; id_fits = o.1.0; key_fits = o.1.1.1.0; is_key = o.1.1.1.1 })
      (λ n o. (tt, (o.id_fits, (o.ascends, (o.key_fits, o.is_key)))))
      (field {H = λ n. Unit {0}} {Q = λ n. (low ≤ n.id) × ((n.key < 256 ^ 8) × Key n)} (λ n. n.id) (num 4 four) λ id.
      guard {P = Named low id} (ltb id low) 2
      (λ t.
      restate (λ n o. (o.0, (rw o.0.1 (ltb-false id low t), o.1))) (λ n o. (o.0, o.1.1))
      (field {H = λ n. Unit {0} × (n.id ≡ id)} {Q = Key} (λ n. n.key) (num 8 eight) λ key.
      guard {P = Following id key} (eqb key 0) 2
      (λ u.
      restate (λ n o. (o.0, rw o.0.1 (eqb-false key 0 u))) (λ n o. (o.0, tt))
      (ended (record { id = id; key = key }) ((tt, refl), refl) (λ n h. λ i. record { id = h.0.1 i; key = h.1 i })))
      (λ n o. rw (← o.0.1) (ne_eqb n.key 0 o.1))))
      (λ n o. rw (← o.0.1) (le-ltb n.id low o.1.0)))

  pub map_codes : (z : Sizes) → z.nodes < 256 ^ 8 → Codes s (read_map e z s) (map_bytes e) (MapOk z)
  unfolding read_map map_bytes
  map_codes z fits =
      restate (λ ns o. record { few = o.0; each = o.1 }) (λ ns o. (o.few, o.each))
      (counted_codes s (read_node e s) following (node_bytes e) NodeOk node_codes e num z.nodes fits 0)
