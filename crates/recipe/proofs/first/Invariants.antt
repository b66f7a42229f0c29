use Prim.Native.Nat.{◌+◌}
use Rattle.recipe.specs.Places.{first_marks}
use Rattle.recipe.proofs.RecipeLaws.{Marking}
use Rattle.recipe.proofs.first.Given as goal

abbrev pub invariant-loop-flag : goal.invariant-loop-flag
invariant-loop-flag l = Marking (first_marks (l.t + 1) l.fn.good) l.t l.taken l.flag-index l.flag-items
