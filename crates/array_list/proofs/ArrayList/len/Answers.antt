use native.Mathlib.Omega.{arith}
use lib.ListN.{length-take}
use Rattle.array_list.proofs.ArrayList.len.Goals as goal

pub returns : goal.returns
returns g c =
    let l = c.args.self.now in
    (omega (arith, c.min.ensures, length-take l.count l.items), omega (arith, c.min.ensures))
