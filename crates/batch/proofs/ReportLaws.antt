-- The cases of a report's plan where something changed: no epoch follows, and the plan.
-- Assumes nothing.
use Prim.Native.Nat.{ℕ, ◌≤◌}
use mathlib.Core.Path.{◌≡◌}
use mathlib.Core.List.{List}
use mathlib.Core.Bool.{true}
use lib.ListN.{length}
use borrow.Author.Tests.{le-ltb, eq-eqb, ne_eqb}
use Rattle.bincode.specs.Numbers.{fixed}
use Rattle.bincode.specs.Sizes.{Sizes}
use Rattle.bincode.specs.Outcome.{refused}
use Rattle.join_plan.specs.JoinPlan.{plan_written, plan_said}
use Rattle.batch.specs.Batch.{BatchOf, changed, plan_of_batch, plan_left, plan_answered, found_bytes}

module _ (z : Sizes) (l : List ℕ) (b : BatchOf) (set : ℕ) (h : z.plan ≤ length l) (e : changed b.change ≡ true) where
  pub report_last : b.epoch ≡ 18446744073709551615 → (l ≡ plan_left z l b set) × (refused 5 ≡ plan_answered z l b set)
  unfolding plan_left plan_answered
  report_last q =
      let last = eq-eqb b.epoch 18446744073709551615 q in
      (rw (le-ltb (length l) z.plan h, e, last), rw (le-ltb (length l) z.plan h, e, last))

  pub report_plan : (b.epoch ≡ 18446744073709551615 → ⊥)
      → (plan_written fixed z.plan l (plan_of_batch b set) ≡ plan_left z l b set) × (found_bytes (plan_said fixed z.plan l (plan_of_batch b set)) ≡ plan_answered z l b set)
  unfolding plan_left plan_answered
  report_plan q =
      let last = ne_eqb b.epoch 18446744073709551615 q in
      (rw (le-ltb (length l) z.plan h, e, last), rw (le-ltb (length l) z.plan h, e, last))
