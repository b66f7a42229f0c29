use Prim.Native.Nat.{◌+◌}
use mathlib.Core.Path.{sym, ◌∙◌}
use mathlib.Core.List.{[], ◌∷◌}
use native.Mathlib.Omega.{arith}
use lib.ListN.{length}
use borrow.Author.Tests.{leb-true}
use Rattle.bincode.proofs.WriteLaws.{all_written}
use Rattle.bincode.proofs.Tuple2Encoded.write.Goals as goal

pub returns-then-room : goal.returns-then-room
returns-then-room g c =
    let a = c.args in
    let xs = g.A.Encoded.bytes a.self.now.0 in
    let ys = g.B.Encoded.bytes a.self.now.1 in
    let h = leb-true (a.at + c.size.result) (length a.buf.now) (sym c.room.ensures ∙ c.if-room.true) in
    let w = all_written a.buf.now a.at (xs ∷ ys ∷ []) (omega arith) in
    let e = c.write-c.ensures in
    let f = c.write.ensures in
    (f.0 ∙ rw (e.0, e.1) w.0, f.1 ∙ rw (e.0, e.1) w.1)
