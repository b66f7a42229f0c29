use Prim.Native.Nat.{◌+◌}
use lib.ListN.{length}
use Rattle.board.proofs.BoardTurns.{Going}
use Rattle.board.proofs.row_of.Given as goal

abbrev pub invariant-loop-j : goal.invariant-loop-j
invariant-loop-j l = Going l.votes l.place l.initial.seen (l.place + 1 + length l.yielded) l.seen l.voter l.count
