use native.Mathlib.Omega.{arith}
use mathlib.Core.Path.{◌≡◌, sym, ◌∙◌}
use lib.ListN.{length}
use borrow.Author.Tests.{lt-ltb, le-ltb}
use Rattle.lists.proofs.ListLaws.{append_live}
use Rattle.array_list.specs.ArrayList.{items_in, pushed}
use Rattle.array_list.proofs.ArrayList.push.Goals as goal

pub returns-then-n : goal.returns-then-n
unfolding pushed
returns-then-n g c =
    let l = c.args.self.now in
    let places : length l.items ≡ g.row.N = omega arith in
    let h = lt-ltb (length (items_in l)) g.row.N (omega arith) in
    (append_live l.items l.count g.row.N c.len-n.result c.args.x places c.len-n.ensures.0 (omega arith) ∙ rw h, sym h, omega arith)

pub returns : goal.returns
unfolding pushed
returns g c =
    let h = le-ltb (length (items_in c.args.self.now)) g.row.N (omega arith) in
    (rw h, sym h, omega arith)
