use mathlib.Core.Path.{sym, ◌∙◌}
use native.Mathlib.Omega.{arith}
use Rattle.bincode.proofs.WriteLaws.{bytes_put}
use Rattle.bincode.proofs.put_bytes.Goals as goal

pub returns : goal.returns
returns g c =
    let a = c.args in
    let p = bytes_put a.buf.now a.at g.row.N a.bytes (omega arith) (sym c.room.ensures ∙ c.if-not-room.false) in
    (rw c.copy_from_slice.ensures.after p.0, p.1)
