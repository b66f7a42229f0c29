-- The verdicts of a batch, by the place of the next.
-- Assumes nothing.
use Prim.Native.Nat.{ℕ, ◌+◌, ◌<◌}
use mathlib.Core.Path.{◌≡◌}
use mathlib.Core.List.{List}
use native.Mathlib.Numerals.{add-one}
use lib.ListN.{length, drop}
use lib.Seq.{drop-cons}
use Rattle.steps.specs.Steps.{other_verdicts}

-- one verdict is used
module _ (xs : List ℕ) (i : ℕ) where
  pub used_here : i < length xs → drop (i + 1) xs ≡ other_verdicts (drop i xs)
  used_here h = rw (add-one i, drop-cons xs i 0)
