use mathlib.Core.Path.{◌≡◌}
use lib.ListN.{length}
use Rattle.host.proofs.RecordLaws.{filled_to}
use Rattle.host.proofs.write_faults.Given as goal

-- as many pairs are written as were yielded
abbrev pub invariant-loop-i : goal.invariant-loop-i
invariant-loop-i l = l.list ≡ filled_to l.ids l.kinds l.initial.list (length l.yielded)
