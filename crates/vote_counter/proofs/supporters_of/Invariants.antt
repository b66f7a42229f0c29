use Rattle.change.specs.Change.{change_of}
use Rattle.voters.specs.Voters.{ids_of}
use Rattle.vote_counter.proofs.CarriedTurns.{Listed}
use Rattle.vote_counter.proofs.supporters_of.Given as goal

abbrev pub invariant-loop-x : goal.invariant-loop-x
invariant-loop-x l = Listed (change_of l.change) l.x-items l.x-index (ids_of l.voters)
