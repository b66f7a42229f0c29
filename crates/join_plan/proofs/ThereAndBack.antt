-- A plan that is converted from one edition to another and back: its bytes are restored (02, CR 5).
-- Assumes nothing.
use Prim.Native.Nat.{ℕ, ◌^◌, ◌≤◌, ◌<◌}
use mathlib.Core.Path.{◌≡◌, sym, ap, ◌∙◌, subst}
use mathlib.Core.List.{List}
use native.Mathlib.Omega.{arith}
use lib.Dec.{lit<}
use lib.ListN.{length, take}
use Rattle.bincode.specs.Read.{value, whole}
use Rattle.bincode.specs.Outcome.{done}
use Rattle.bincode.specs.Numbers.{Edition, fixed, variable}
use Rattle.bincode.specs.Sizes.{Sizes, base}
use Rattle.bincode.specs.Stands.{Bytes}
use Rattle.bincode.specs.Codes.{NumberCodes}
use Rattle.bincode.proofs.CodeLaws.{fixed_codes}
use Rattle.bincode.proofs.WriteLaws.{stored_first}
use Rattle.bincode.proofs.VariableLaws.{variable_codes}
use Rattle.join_plan.specs.JoinPlan.{PlanOf, read_plan, plan_bytes, plan_converted, conversion_said, to_variable_left, to_variable_said, to_fixed_left, to_fixed_said}
use Rattle.join_plan.proofs.PlanCodes.{plan_one_encoding, plan_round_trip}
use Rattle.join_plan.proofs.PlanLengths.{fixed_plan_length, variable_plan_length}
use Rattle.join_plan.proofs.PageConversionLaws.{accepted_said, accepted_left, accepted_by}

-- one conversion: with room, and with a buffer that holds the plan's bytes in the other edition, these are its first
module _ (a b : Edition) (z : Sizes) where
  one_way : (room : ℕ) (s l : List ℕ) (p : PlanOf) (c : ℕ) → room ≤ length l → length (plan_bytes b p) ≤ length l → whole (read_plan a z s) s ≡ value p c
      → (conversion_said a b room z s l ≡ done (length (plan_bytes b p)))
      × (take (length (plan_bytes b p)) (plan_converted a b room z s l) ≡ plan_bytes b p)
  one_way room s l p c long holds e = (
    accepted_said a b room z s l long p c e,
    rw (accepted_left a b room z s l long p c e) (stored_first l (plan_bytes b p) holds),
  )

module _ (a b : Edition) (in_a : (s : List ℕ) → NumberCodes a s) (in_b : (s : List ℕ) → NumberCodes b s) (z : Sizes) (fits : z.nodes < 256 ^ 8) where
  -- There and back, for a plan that edition a accepts: it is accepted both ways, and the first bytes of the second buffer are those that it had. The first
  -- buffer has the other edition's room and holds the plan's bytes in it; the second has the room of the plan's own edition and holds its bytes.
  pub there_and_back : (ra rb : ℕ) (s : List ℕ) → Bytes s → (p : PlanOf) (c : ℕ) → whole (read_plan a z s) s ≡ value p c
      → (lb la : List ℕ) → rb ≤ length lb → length (plan_bytes b p) ≤ length lb → ra ≤ length la → length s ≤ length la
      → (n : ℕ) × (conversion_said a b rb z s lb ≡ done n)
      × (conversion_said b a ra z (take n (plan_converted a b rb z s lb)) la ≡ done (length s))
      × (take (length s) (plan_converted b a ra z (take n (plan_converted a b rb z s lb)) la) ≡ s)
  there_and_back ra rb s bytes p c e lb la room_b long_b room_a long_a =
      let own = plan_one_encoding a in_a z fits s p c bytes e in
      let there = one_way a b z rb s lb p c room_b long_b e in
      let back = plan_round_trip b in_b z fits p own.1 in
      let again = one_way b a z ra (plan_bytes b p) la p (length (plan_bytes b p)) room_a (rw (← own.0) long_a) back in
      let same = sym own.0 in (
        length (plan_bytes b p),
        there.0,
        rw there.1 (again.0 ∙ ap (λ (x : List ℕ). done (length x)) same),
        rw there.1 (subst (λ (x : List ℕ). take (length x) (plan_converted b a ra z (plan_bytes b p) la) ≡ x) same again.1),
      )

  -- What the first call accepts, with n bytes that the first buffer holds, the second never refuses, and it restores the bytes.
  pub accepted_back : (ra rb : ℕ) (s : List ℕ) → Bytes s → (lb la : List ℕ) (n : ℕ) → conversion_said a b rb z s lb ≡ done n
      → n ≤ length lb → ra ≤ length la → length s ≤ length la
      → (conversion_said b a ra z (take n (plan_converted a b rb z s lb)) la ≡ done (length s))
      × (take (length s) (plan_converted b a ra z (take n (plan_converted a b rb z s lb)) la) ≡ s)
  accepted_back ra rb s bytes lb la n e long_b room_a long_a =
      let r = accepted_by a b rb z s lb n e in
      let t = there_and_back ra rb s bytes r.1.0 r.1.1 r.1.2 lb la r.0 (omega (arith, r.1.3)) room_a long_a in
      let q : done t.0 ≡ done n = sym t.1 ∙ e in
      let same : t.0 ≡ n = cc in
      (rw same at t.2, rw same at t.3)

-- old to new to old
pub old_new_old : (s : List ℕ) → Bytes s → (p : PlanOf) (c : ℕ) → whole (read_plan fixed base s) s ≡ value p c
    → (new old : List ℕ) → base.variable_plan ≤ length new → base.plan ≤ length old
    → (n : ℕ) × (to_variable_said base s new ≡ done n)
    × (to_fixed_said base (take n (to_variable_left base s new)) old ≡ done (length s))
    × (take (length s) (to_fixed_left base (take n (to_variable_left base s new)) old) ≡ s)
old_new_old s bytes p c e new old long_new long_old =
    let own = plan_one_encoding fixed fixed_codes base (lit< tt) s p c bytes e in
    let fits_new : length (plan_bytes variable p) ≤ length new = omega (arith, variable_plan_length p own.1) in
    let fits_old : length s ≤ length old = omega (arith, ap length own.0, fixed_plan_length p own.1) in
    there_and_back fixed variable fixed_codes variable_codes base (lit< tt) base.plan base.variable_plan s bytes p c e new old long_new fits_new long_old fits_old

-- new to old to new
pub new_old_new : (s : List ℕ) → Bytes s → (p : PlanOf) (c : ℕ) → whole (read_plan variable base s) s ≡ value p c
    → (old new : List ℕ) → base.plan ≤ length old → base.variable_plan ≤ length new
    → (n : ℕ) × (to_fixed_said base s old ≡ done n)
    × (to_variable_said base (take n (to_fixed_left base s old)) new ≡ done (length s))
    × (take (length s) (to_variable_left base (take n (to_fixed_left base s old)) new) ≡ s)
new_old_new s bytes p c e old new long_old long_new =
    let own = plan_one_encoding variable variable_codes base (lit< tt) s p c bytes e in
    let fits_old : length (plan_bytes fixed p) ≤ length old = omega (arith, fixed_plan_length p own.1) in
    let fits_new : length s ≤ length new = omega (arith, ap length own.0, variable_plan_length p own.1) in
    there_and_back variable fixed variable_codes fixed_codes base (lit< tt) base.variable_plan base.plan s bytes p c e old new long_old fits_old long_new fits_new

-- And what the first call has accepted the second never refuses, with nothing asked but the lent buffers: the bytes are restored.
pub new_accepted_back : (s : List ℕ) → Bytes s → (new old : List ℕ) (n : ℕ) → to_variable_said base s new ≡ done n → base.plan ≤ length old
    → (to_fixed_said base (take n (to_variable_left base s new)) old ≡ done (length s))
    × (take (length s) (to_fixed_left base (take n (to_variable_left base s new)) old) ≡ s)
new_accepted_back s bytes new old n e long_old =
    let r = accepted_by fixed variable base.variable_plan base s new n e in
    let own = plan_one_encoding fixed fixed_codes base (lit< tt) s r.1.0 r.1.1 bytes r.1.2 in
    let fits_new : n ≤ length new = omega (arith, r.0, r.1.3, variable_plan_length r.1.0 own.1) in
    let fits_old : length s ≤ length old = omega (arith, ap length own.0, fixed_plan_length r.1.0 own.1) in
    accepted_back fixed variable fixed_codes variable_codes base (lit< tt) base.plan base.variable_plan s bytes new old n e fits_new long_old fits_old

pub old_accepted_back : (s : List ℕ) → Bytes s → (old new : List ℕ) (n : ℕ) → to_fixed_said base s old ≡ done n → base.variable_plan ≤ length new
    → (to_variable_said base (take n (to_fixed_left base s old)) new ≡ done (length s))
    × (take (length s) (to_variable_left base (take n (to_fixed_left base s old)) new) ≡ s)
old_accepted_back s bytes old new n e long_new =
    let r = accepted_by variable fixed base.plan base s old n e in
    let own = plan_one_encoding variable variable_codes base (lit< tt) s r.1.0 r.1.1 bytes r.1.2 in
    let fits_old : n ≤ length old = omega (arith, r.0, r.1.3, fixed_plan_length r.1.0 own.1) in
    let fits_new : length s ≤ length new = omega (arith, ap length own.0, variable_plan_length r.1.0 own.1) in
    accepted_back variable fixed variable_codes fixed_codes base (lit< tt) base.variable_plan base.plan s bytes old new n e fits_old long_new fits_new
