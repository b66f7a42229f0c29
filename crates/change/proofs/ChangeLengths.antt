-- How long a change and its state are at most, in every edition and for every size.
-- Assumes nothing.
use Prim.Native.Nat.{ℕ, ◌+◌, ◌*◌, ◌≤◌, ◌<◌}
use mathlib.Core.List.{append-nil}
use native.Mathlib.Omega.{arith}
use native.Mathlib.Nat.{mul-le-mul_right}
use lib.Dec.{lit<}
use lib.ListN.{length, length-append}
use Rattle.bincode.specs.Numbers.{Edition}
use Rattle.bincode.specs.Sizes.{Sizes}
use Rattle.bincode.proofs.LengthLaws.{Lengths}
use Rattle.pub_key_map.proofs.MapLengths.{map_length}
use Rattle.honey_badger.proofs.ScheduleLengths.{schedule_length}
use Rattle.change.specs.Change.{ChangeOf, node_change, encryption_schedule, ChangeStateOf, none, in_progress, complete, change_bytes, state_bytes, ChangeOk, StateOk}

module _ (e : Edition) (z : Sizes) (tag count four eight : ℕ) (k : Lengths e z.nodes tag count four eight) (some : 0 < z.nodes) where
  -- a tag and a full map: no schedule is longer than a map of one node
  pub change_length : (c : ChangeOf) → ChangeOk z c → length (change_bytes e c) ≤ tag + (count + z.nodes * (four + eight))
  unfolding change_bytes
  change_length (node_change ns) o = simp (append-nil, length-append) (omega (arith, k.tag_by 0 (lit< tt), map_length e z tag count four eight k ns o))
  change_length (encryption_schedule x) o =
      let one : 1 ≤ z.nodes = omega (arith, some) in
      let m = mul-le-mul_right (four + eight) one in
      simp (append-nil, length-append)
      (omega (arith, m, k.narrow_tag, k.narrow_four, k.tag_by 1 (lit< tt), schedule_length e z.nodes tag count four eight k x o))

  -- and a tag more
  pub state_length : (x : ChangeStateOf) → StateOk z x → length (state_bytes e x) ≤ tag + (tag + (count + z.nodes * (four + eight)))
  unfolding state_bytes
  state_length none o = simp append-nil (omega (arith, k.tag_by 0 (lit< tt)))
  state_length (in_progress c) o = simp (append-nil, length-append) (omega (arith, k.tag_by 1 (lit< tt), change_length c o))
  state_length (complete c) o = simp (append-nil, length-append) (omega (arith, k.tag_by 2 (lit< tt), change_length c o))
