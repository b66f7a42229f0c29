use Rattle.filled.specs.Filled.{Says}
use Rattle.filled.proofs.FillLaws.{FilledTo}
use Rattle.filled.proofs.put_each.Given as goal

abbrev pub invariant-loop-n : goal.invariant-loop-n
invariant-loop-n g l = (h : g.row.A.Denot → g.row.B.Denot) → Says (λ x y. g.F.Fn.post l.f (x, tt) y) h → FilledTo h l.items l.initial.list l.n l.list
