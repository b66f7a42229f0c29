use Rattle.std.proofs.Common.{add-one}
use mathlib.Core.Path.{sym, ◌∙◌}
use native.Mathlib.Omega.{arith}
use Prim.Native.Nat.{◌+◌}
use lib.Seq.{drop-cons}
use lib.ListN.{length}
use borrow.Author.Tests.{leb-true}
use Rattle.bincode.proofs.WriteLaws.{put_counted, put_more}
use Rattle.pub_key_map.specs.PubKeyMap.{nodes_of, no_node, node_bytes, map_bytes}
use Rattle.pub_key_map.proofs.PubKeyMapEncoded.write.Goals as goal

pub loop-x-init : goal.loop-x-init
unfolding map_bytes
loop-x-init g c =
    let a = c.args in
    let e = g.E.IntEncoding.edition in
    let size = c.size in
    let live = c.as_slice-x-items.ensures in
    let h = leb-true (a.at + size.result) (length a.buf.now) (sym c.room.ensures ∙ c.if-room.true) in
    let p = put_counted e (node_bytes e) (nodes_of a.self.now) a.buf.now a.at c.len-n.result c.len-n.ensures.0 (omega arith) in
    let w = c.write_u64-c.ensures in
    rw (live, w.0, w.1) record { fits = p.0; content = p.1; stop = p.2 }

pub loop-x-preserved : goal.loop-x-preserved
loop-x-preserved g c =
    let ns = c.as_slice-x-items.result.now in
    let w = c.write-c.ensures in
    rw (w.0, w.1) (put_more (node_bytes g.E.IntEncoding.edition) ns _ _ _ _ _ _ (rw (add-one, drop-cons ns c.loop-x.x-index no_node c.loop-x-test.true)) c.loop-x.invariant)
