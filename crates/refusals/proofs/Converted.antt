-- The conversions of a join plan (02, CR 5) refuse exactly under their rows, for every plan, every buffer and every record of sizes. That a refused one leaves the
-- buffer as it was is `refusal_leaves` of join_plan/proofs/PageConversionLaws.
-- Assumes nothing.
use Prim.Native.Nat.{ℕ, ◌≤◌, ◌<◌}
use mathlib.Core.Path.{◌≡◌, refl, sym, ap, ◌∙◌}
use mathlib.Core.Logic.{◌⊎◌, inl, inr, ⊎_elim}
use mathlib.Core.List.{List}
use native.Mathlib.Omega.{arith}
use lib.ListN.{length}
use borrow.Author.Tests.{lt-ltb, le-ltb}
use Rattle.std.proofs.lemmas.Bool.{cases_lt}
use Rattle.lists.specs.Lists.{found, nothing}
use Rattle.bincode.specs.Read.{Read, value, refuse, whole}
use Rattle.bincode.specs.Numbers.{Edition, fixed, variable}
use Rattle.bincode.specs.Sizes.{Sizes}
use Rattle.bincode.proofs.RefusalLaws.{Plain, Refusing, OldRow, NewRow, fixed_refusing, old_refusing, new_refusing}
use Rattle.join_plan.specs.JoinPlan.{PlanOf, read_plan, conversion_said, to_variable_said, to_fixed_said}
use Rattle.join_plan.proofs.PlanRefusals.{whole_plan_plain}
use Rattle.join_plan.proofs.PageConversionLaws.{short_refused, accepted_said, refused_said}
use Rattle.refusals.specs.Table.{first_row, refusal_of, convert_rows}
use Rattle.refusals.proofs.FirstRow.{never}

-- the row that holds: 1 where the buffer is too short; else the number that reading met; and none where a plan was read
module _ (e : Edition) (room : ℕ) (z : Sizes) (plan buffer : List ℕ) where
  short_row : length buffer < room → first_row (convert_rows e room z plan buffer) ≡ found 1
  unfolding first_row convert_rows
  short_row h = rw (lt-ltb (length buffer) room h) refl

  module _ (long : room ≤ length buffer) where
    no_row : (p : PlanOf) (c : ℕ) → whole (read_plan e z plan) plan ≡ value p c → first_row (convert_rows e room z plan buffer) ≡ nothing
    unfolding first_row convert_rows
    no_row p c r = rw (le-ltb (length buffer) room long, r) refl

    met_row : (n : ℕ) → NewRow n → whole (read_plan e z plan) plan ≡ refuse n → first_row (convert_rows e room z plan buffer) ≡ found n
    unfolding first_row convert_rows
    met_row n (inl q) r = rw (le-ltb (length buffer) room long, r, q) refl
    met_row n (inr (inl q)) r = rw (le-ltb (length buffer) room long, r, q) refl
    met_row n (inr (inr q)) r = rw (le-ltb (length buffer) room long, r, q) refl

module _ (a b : Edition) (room : ℕ) (z : Sizes) (plan buffer : List ℕ) (numbers : Refusing NewRow a plan) where
  conversion_rows_lem : refusal_of (conversion_said a b room z plan buffer) ≡ first_row (convert_rows a room z plan buffer)
  conversion_rows_lem =
      ⊎_elim (λ h. ap refusal_of (short_refused a b room z plan buffer h) ∙ sym (short_row a room z plan buffer h)) (λ long. go long (whole (read_plan a z plan) plan) refl (whole_plan_plain numbers z))
      (cases_lt (length buffer) room)
    where
      go : room ≤ length buffer → (x : Read PlanOf) → whole (read_plan a z plan) plan ≡ x → Plain NewRow x
          → refusal_of (conversion_said a b room z plan buffer) ≡ first_row (convert_rows a room z plan buffer)
      go long (value p c) r u = ap refusal_of (accepted_said a b room z plan buffer long p c r) ∙ sym (no_row a room z plan buffer long p c r)
      go long (refuse n) r u = ap refusal_of (refused_said a b room z plan buffer long n r) ∙ sym (met_row a room z plan buffer long n u r)

-- to the new edition, and to the old one
module _ (z : Sizes) (plan buffer : List ℕ) where
  pub to_variable_rows : refusal_of (to_variable_said z plan buffer) ≡ first_row (convert_rows fixed z.variable_plan z plan buffer)
  to_variable_rows = conversion_rows_lem fixed variable z.variable_plan z plan buffer (fixed_refusing NewRow (inl refl) (inr (inl refl)) plan)

  pub to_fixed_rows : refusal_of (to_fixed_said z plan buffer) ≡ first_row (convert_rows variable z.plan z plan buffer)
  to_fixed_rows = conversion_rows_lem variable fixed z.plan z plan buffer (new_refusing plan)

  -- the old edition has no 16: whatever the plan's bytes, it is not converted by 16 to the new one
  pub old_without_16 : refusal_of (to_variable_said z plan buffer) ≡ found 16 → ⊥
  old_without_16 e =
      ⊎_elim (λ h. other 1 (inl refl) (ap refusal_of (short_refused fixed variable z.variable_plan z plan buffer h))) (λ long. go long (whole (read_plan fixed z plan) plan) refl (whole_plan_plain (old_refusing plan) z))
      (cases_lt (length buffer) z.variable_plan)
    where
      other : (n : ℕ) → (n ≡ 1) ⊎ OldRow n → refusal_of (to_variable_said z plan buffer) ≡ found n → ⊥
      other n k q =
          let f : found n ≡ found 16 = sym q ∙ e in
          let r : n ≡ 16 = cc in
          ⊎_elim (λ h. omega arith) (⊎_elim (λ h. omega arith) (λ h. omega arith)) k

      go : z.variable_plan ≤ length buffer → (x : Read PlanOf) → whole (read_plan fixed z plan) plan ≡ x → Plain OldRow x → ⊥
      go long (value p c) r u = never (sym (ap refusal_of (accepted_said fixed variable z.variable_plan z plan buffer long p c r)) ∙ e)
      go long (refuse n) r u = other n (inr u) (ap refusal_of (refused_said fixed variable z.variable_plan z plan buffer long n r))
