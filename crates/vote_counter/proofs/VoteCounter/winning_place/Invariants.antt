use Rattle.change.specs.Change.{change_of}
use Rattle.vote_counter.proofs.WinnerTurns.{Counting, Best}
use Rattle.vote_counter.proofs.VoteCounter.winning_place.Given as goal

abbrev pub invariant-loop-j : goal.invariant-loop-j
invariant-loop-j l = Counting l.committed (change_of l.change) l.initial.row.voter l.i l.j l.row

abbrev pub invariant-voters : goal.invariant-voters
invariant-voters l = Best l.committed l.f l.i l.won l.best
