-- What a conversion leaves and answers, by what the reading of the plan came to.
-- Assumes nothing.
use Prim.Native.Nat.{ℕ, ◌+◌, ◌≤◌}
use mathlib.Core.Path.{◌≡◌, sym, ap, ◌∙◌}
use mathlib.Core.List.{List}
use native.Mathlib.Omega.{arith}
use lib.Dec.{lit<}
use lib.ListN.{length}
use Rattle.bincode.specs.Read.{value, refuse, whole}
use Rattle.bincode.specs.Outcome.{done, refused}
use Rattle.bincode.specs.Numbers.{Edition}
use Rattle.bincode.specs.Sizes.{base}
use Rattle.bincode.specs.Stands.{Bytes}
use Rattle.bincode.specs.Rows.{row_number, row}
use Rattle.bincode.specs.Codes.{NumberCodes}
use Rattle.bincode.specs.Causes.{NumberWrong, NumberCauses}
use Rattle.bincode.specs.Writing.{written, written_to}
use Rattle.bincode.proofs.CauseLaws.{whole_causes}
use Rattle.bincode.proofs.RowLaws.{caused_row}
use Rattle.bincode.proofs.WriteLaws.{has_room}
use Rattle.join_plan.specs.JoinPlan.{PlanOf, read_plan, plan_bytes, PlanOk, plan_of, plan_held, plan_converted, conversion_said}
use Rattle.join_plan.proofs.PlanLaws.{held_plan}
use Rattle.join_plan.proofs.PlanCodes.{plan_codes, plan_one_encoding}
use Rattle.join_plan.proofs.PlanCauses.{plan_causes}
use Rattle.join_plan.proofs.PageConversionLaws.{refused_left, refused_said, accepted_left, accepted_said}

module _ (a b : Edition) (v : NumberWrong) (num : (s : List ℕ) → NumberCodes a s) (causes : (s : List ℕ) → NumberCauses a v s)
    (room : ℕ) (short : (p : PlanOf) → PlanOk base p → length (plan_bytes b p) ≤ room) (s l : List ℕ) (bytes : Bytes s) (long : room ≤ length l) where
  -- what refuses the plan refuses its conversion, and the buffer stays
  pub refused_told : (n : ℕ) → whole (read_plan a base s) s ≡ refuse n
      → (l ≡ plan_converted a b room base s l) × (refused (row_number (row n)) ≡ conversion_said a b room base s l)
  refused_told n e =
      let codes = plan_codes a base (lit< tt) s (num s) in
      let caused = whole_causes codes (plan_causes a v s (num s) (causes s) base (lit< tt)) in
      (sym (refused_left a b room base s l n e), ap refused (caused_row s _ _ caused bytes n e) ∙ sym (refused_said a b room base s l long n e))

  -- a plan that was read is written, for it has room
  pub written_told : (p : PlanOf) (c : ℕ) → whole (read_plan a base s) s ≡ value p c
      → (written l 0 (plan_bytes b (plan_of (plan_held p))) ≡ plan_converted a b room base s l)
      × (done (written_to l 0 (plan_bytes b (plan_of (plan_held p)))) ≡ conversion_said a b room base s l)
  written_told p c e =
      let o = (plan_one_encoding a num base (lit< tt) s p c bytes e).1 in
      let n = short p o in
      let z : 0 + length (plan_bytes b p) ≡ length (plan_bytes b p) = omega arith in
      let w = has_room l 0 (plan_bytes b p) (omega arith) in
      rw (held_plan p) (sym w.0 ∙ sym (accepted_left a b room base s l long p c e), ap done (sym w.1 ∙ z) ∙ sym (accepted_said a b room base s l long p c e))
