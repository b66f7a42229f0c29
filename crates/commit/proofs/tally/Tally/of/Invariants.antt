use mathlib.Core.Path.{◌≡◌}
use mathlib.Core.List.{map}
use lib.ListN.{take}
use Rattle.commit.specs.Tally.{entries_of}
use Rattle.commit.proofs.TurnLaws.{kept_of}
use Rattle.commit.proofs.tally.Tally.of.Given as goal

abbrev pub invariant-loop-x : goal.invariant-loop-x
invariant-loop-x l = entries_of l.t ≡ map kept_of (take l.x-index l.x-items)
