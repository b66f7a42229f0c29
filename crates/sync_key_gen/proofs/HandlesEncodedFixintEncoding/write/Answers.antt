use Prim.Native.Nat.{◌+◌}
use mathlib.Core.Path.{sym, ◌∙◌}
use native.Mathlib.Numerals.{add-one}
use native.Mathlib.Omega.{arith}
use lib.ListN.{length}
use lib.Seq.{drop-cons}
use borrow.Author.Tests.{leb-true}
use Rattle.bincode.specs.Numbers.{bytes_of}
use Rattle.bincode.proofs.WriteLaws.{put_more}
use Rattle.sync_key_gen.proofs.KeyGenLaws.{put_handles}
use Rattle.sync_key_gen.proofs.HandlesEncodedFixintEncoding.write.Goals as goal

pub loop-x-init : goal.loop-x-init
loop-x-init c =
    let a = c.args in
    let size = c.size in
    let h = leb-true (a.at + size.result) (length a.buf.now) (sym c.room.ensures ∙ c.if-room.true) in
    let w = c.write_u64-c.ensures in
    rw (c.as_slice-x-items.ensures, w.0, w.1) (put_handles a.self.now c.len.result c.len.ensures.0 a.buf.now a.at (omega (arith, h, size.ensures)))

pub loop-x-preserved : goal.loop-x-preserved
loop-x-preserved c =
    let xs = c.as_slice-x-items.result.now in
    let w = c.write_u64-c-in-loop-x.ensures in
    rw (w.0, w.1) (put_more (bytes_of 8) xs _ _ _ _ _ _ (rw add-one (drop-cons xs c.loop-x.x-index 0 c.loop-x-test.true)) c.loop-x.invariant)
