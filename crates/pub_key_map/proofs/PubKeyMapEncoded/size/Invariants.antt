use Prim.Native.Nat.{◌+◌, ◌*◌, ◌^◌, ◌≤◌, ◌<◌}
use mathlib.Core.Path.{◌≡◌}
use lib.ListN.{length, drop}
use Rattle.bincode.specs.Stands.{concat_map}
use Rattle.bincode.specs.Writing.{told, told_size}
use Rattle.pub_key_map.specs.PubKeyMap.{nodes_of, node_bytes, map_bytes}
use Rattle.pub_key_map.proofs.PubKeyMapEncoded.size.Given as goal

abbrev pub invariant-loop-x : goal.invariant-loop-x
invariant-loop-x g l =
    let e = g.E.IntEncoding.edition in
    let step = g.E.IntEncoding.longest 4 + g.E.IntEncoding.longest 8 in
    (l.size ≤ g.E.IntEncoding.longest 8 + l.x-index * step) × (l.size < 2 ^ 64) × (told (l.size + length (concat_map (node_bytes e) (drop l.x-index l.x-items))) ≡ told_size (map_bytes e (nodes_of l.fn.self)))
