use Rattle.internal_contrib.proofs.CountLaws.{Passing}
use Rattle.internal_contrib.proofs.pass_items.Given as goal

abbrev pub invariant-loop : goal.invariant-loop
invariant-loop g l = Passing (g.T.Item.read_at l.s) l.n l.at l.counter l.c
