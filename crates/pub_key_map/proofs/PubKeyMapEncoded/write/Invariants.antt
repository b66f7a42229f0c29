use Rattle.bincode.specs.Writing.{written, written_to}
use Rattle.bincode.proofs.WriteLaws.{Putting}
use Rattle.pub_key_map.specs.PubKeyMap.{nodes_of, node_bytes, map_bytes}
use Rattle.pub_key_map.proofs.PubKeyMapEncoded.write.Given as goal

abbrev pub invariant-loop-x : goal.invariant-loop-x
invariant-loop-x g l =
    let a = l.fn in
    let bytes = map_bytes g.E.IntEncoding.edition (nodes_of a.self) in
    Putting (node_bytes g.E.IntEncoding.edition) l.x-items (written a.buf a.at bytes) (written_to a.buf a.at bytes) l.x-index l.buf l.c
