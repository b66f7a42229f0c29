-- Reading and writing a join plan are inverse, in every edition and for every size.
-- Assumes nothing.
use Prim.Native.Nat.{ℕ, ◌^◌, ◌<◌}
use mathlib.Core.Path.{◌≡◌, refl, sym, ◌∙◌}
use mathlib.Core.List.{List}
use mathlib.Core.Logic.{◌↔◌}
use lib.ListN.{length}
use Rattle.bincode.specs.Read.{value, whole}
use Rattle.bincode.specs.Numbers.{Edition}
use Rattle.bincode.specs.Sizes.{Sizes}
use Rattle.bincode.specs.Stands.{Bytes}
use Rattle.bincode.specs.Codes.{Codes, NumberCodes}
use Rattle.bincode.proofs.CodeLaws.{eight, field, ended, restate, one_encoding, round_trip, read_values}
use Rattle.bincode.proofs.ReadLaws.{same_value}
use Rattle.pub_key_map.proofs.MapCodes.{map_codes}
use Rattle.params.proofs.ParamsCodes.{params_codes}
use Rattle.change.proofs.ChangeCodes.{state_codes}
use Rattle.join_plan.specs.JoinPlan.{PlanOf, read_plan, plan_bytes, PlanOk}

module _ (e : Edition) (z : Sizes) (fits : z.nodes < 256 ^ 8) where
  pub plan_codes : (s : List ℕ) → NumberCodes e s → Codes s (read_plan e z s) (plan_bytes e) (PlanOk z)
  unfolding read_plan plan_bytes
  plan_codes s num =
      restate
      (λ p o. record { era_fits = o.1.0; change_ok = o.1.1.0; keys_ok = o.1.1.1.0; key_set_fits = o.1.1.1.1.0; params_ok = o.1.1.1.1.1.0 })
      (λ p o. (tt, (o.era_fits, (o.change_ok, (o.keys_ok, (o.key_set_fits, (o.params_ok, tt)))))))
      (field {H = λ p. Unit {0}} (λ p. p.era) (num 8 eight) λ era.
      field (λ p. p.change) (state_codes e s num z fits) λ change.
      field (λ p. p.keys) (map_codes e s num z fits) λ keys.
      field (λ p. p.key_set) (num 8 eight) λ key_set.
      field (λ p. p.params) (params_codes e s num) λ params.
      ended (record { era = era; change = change; keys = keys; key_set = key_set; params = params }) (((((tt, refl), refl), refl), refl), refl)
      (λ p h. λ i. record { era = h.0.0.0.0.1 i; change = h.0.0.0.1 i; keys = h.0.0.1 i; key_set = h.0.1 i; params = h.1 i }))

-- a whole plan of an edition
module _ (e : Edition) (num : (s : List ℕ) → NumberCodes e s) (z : Sizes) (fits : z.nodes < 256 ^ 8) where
  whole_codes : (s : List ℕ) → Codes s (read_plan e z s) (plan_bytes e) (PlanOk z)
  whole_codes s = plan_codes e z fits s (num s)

  -- accepted bytes are the plan's own
  pub plan_one_encoding : (s : List ℕ) (p : PlanOf) (c : ℕ) → Bytes s → whole (read_plan e z s) s ≡ value p c → (s ≡ plan_bytes e p) × PlanOk z p
  plan_one_encoding = one_encoding (read_plan e z) (plan_bytes e) (PlanOk z) whole_codes

  -- a plan's own bytes are accepted as the plan
  pub plan_round_trip : (p : PlanOf) → PlanOk z p → whole (read_plan e z (plan_bytes e p)) (plan_bytes e p) ≡ value p (length (plan_bytes e p))
  plan_round_trip = round_trip (read_plan e z) (plan_bytes e) (PlanOk z) whole_codes

  -- the plans that this holds for are just those that some bytes are read as
  pub plan_read_values : (p : PlanOf) → PlanOk z p ↔ ((s : List ℕ) × Bytes s × (whole (read_plan e z s) s ≡ value p (length s)))
  plan_read_values = read_values (read_plan e z) (plan_bytes e) (PlanOk z) whole_codes

  -- each plan has just one accepted encoding: bytes that are read as the same plan are the same bytes
  pub one_accepted : (s t : List ℕ) (p : PlanOf) (c d : ℕ) → Bytes s → Bytes t → whole (read_plan e z s) s ≡ value p c → whole (read_plan e z t) t ≡ value p d → s ≡ t
  one_accepted s t p c d bs bt es et = (plan_one_encoding s p c bs es).0 ∙ sym (plan_one_encoding t p d bt et).0

  -- and different plans have different bytes
  pub one_plan : (p q : PlanOf) → PlanOk z p → PlanOk z q → plan_bytes e p ≡ plan_bytes e q → p ≡ q
  one_plan p q op oq same =
      let r = plan_round_trip q oq in
      same_value (whole (read_plan e z (plan_bytes e p)) (plan_bytes e p)) (plan_round_trip p op) (rw (← same) at r)
