-- The paper's bound (Miller et al., 2016): n >= 3f + 1.
-- Assumes nothing.
use Prim.Native.Nat.{ℕ, ◌+◌, ◌*◌, ◌≤◌}
use native.Mathlib.Omega.{arith}
use Rattle.util.specs.MaxFaulty.{max_faulty}

-- for every n >= 1 it is the greatest f with n >= 3f + 1: it meets the bound, and whatever meets the bound is no greater
pub greatest : (n : ℕ) → 1 ≤ n → (3 * max_faulty n + 1 ≤ n) × ((f : ℕ) → 3 * f + 1 ≤ n → f ≤ max_faulty n)
unfolding max_faulty
greatest n h = (omega arith, λ f k. omega arith)
