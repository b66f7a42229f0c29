use Prim.Native.Nat.{◌≤◌}
use mathlib.Core.Bool.{Bool}
use Rattle.std.specs.Fn.{FnReturnsAt}
use Rattle.lists.proofs.KeptLaws.{Keeping}
use Rattle.array_list.specs.ArrayList.{Decides}
use Rattle.array_list.proofs.ArrayList.retain.Given as goal

abbrev pub invariant-loop-i : goal.invariant-loop-i
invariant-loop-i g l =
    (l.kept ≤ l.i) × (l.n ≤ g.row.N)
    × ((p : g.row.T.Denot → Bool) → Decides (FnReturnsAt g.F.Fn l.keep) p → Keeping (λ (x : g.row.T.Denot). x) p l.initial.self.items l.initial.self.count g.row.N l.n l.self.items l.kept l.i)
