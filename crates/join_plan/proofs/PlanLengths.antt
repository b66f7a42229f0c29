-- How long a join plan is at most, in every edition and for every size.
-- Assumes nothing.
use Prim.Native.Nat.{ℕ, ◌+◌, ◌*◌, ◌≤◌, ◌<◌}
use mathlib.Core.Path.{◌≡◌, refl}
use mathlib.Core.List.{append-nil}
use native.Mathlib.Omega.{arith}
use lib.Dec.{lit<}
use lib.ListN.{length, length-append}
use Rattle.bincode.specs.Numbers.{Edition, fixed, variable}
use Rattle.bincode.specs.Sizes.{Sizes, base}
use Rattle.bincode.proofs.LengthLaws.{Lengths, fixed_lengths, variable_lengths}
use Rattle.pub_key_map.proofs.MapLengths.{map_length}
use Rattle.params.proofs.ParamsLengths.{params_length}
use Rattle.change.proofs.ChangeLengths.{state_length}
use Rattle.join_plan.specs.JoinPlan.{PlanOf, plan_bytes, PlanOk}

-- the longest plan: era; two tags and a map; a map; key set; parameters with the longest schedule
abbrev pub longest_plan : (tag count four eight nodes : ℕ) → ℕ
longest_plan tag count four eight nodes =
    let map = count + nodes * (four + eight) in eight + (tag + (tag + map)) + map + eight + (eight + (tag + (tag + (four + four))))

module _ (e : Edition) (z : Sizes) (tag count four eight : ℕ) (k : Lengths e z.nodes tag count four eight) (some : 0 < z.nodes) where
  -- no plan is longer: with a change, no schedule is longer than a map of one node
  pub plan_length : (p : PlanOf) → PlanOk z p → length (plan_bytes e p) ≤ longest_plan tag count four eight z.nodes
  unfolding plan_bytes
  plan_length p o =
      simp (append-nil, length-append)
      (omega (
        arith,
        k.eight_by p.era o.era_fits,
        state_length e z tag count four eight k some p.change o.change_ok,
        map_length e z tag count four eight k p.keys o.keys_ok,
        k.eight_by p.key_set o.key_set_fits,
        params_length e z.nodes tag count four eight k p.params o.params_ok,
      ))

-- of the fixed widths, for every size
abbrev pub plan_size : Sizes → ℕ
plan_size z = longest_plan 4 8 4 8 z.nodes

pub plan_short : (z : Sizes) → 0 < z.nodes → (p : PlanOf) → PlanOk z p → length (plan_bytes fixed p) ≤ plan_size z
plan_short z some = plan_length fixed z 4 8 4 8 (fixed_lengths z.nodes) some

-- 02, CR 5: of the variable widths, where a count takes one byte
abbrev pub variable_plan_size : Sizes → ℕ
variable_plan_size z = longest_plan 1 1 5 9 z.nodes

pub variable_plan_short : (z : Sizes) → 0 < z.nodes → z.nodes < 251 → (p : PlanOf) → PlanOk z p → length (plan_bytes variable p) ≤ variable_plan_size z
variable_plan_short z some small = plan_length variable z 1 1 5 9 (variable_lengths z.nodes small) some

-- up to 250 nodes, of which the count takes one byte
pub variable_plan_of_250 : (p : PlanOf) → PlanOk (record base { nodes = 250 }) p → length (plan_bytes variable p) ≤ 43 + 28 * 250
variable_plan_of_250 = variable_plan_short (record base { nodes = 250 }) (lit< tt) (lit< tt)

-- what is lent for a plan is just this bound (that a plan takes as much: `long` in examples/specs/Rows)
pub base_plan : plan_size base ≡ base.plan
base_plan = refl

pub base_variable_plan : variable_plan_size base ≡ base.variable_plan
base_variable_plan = refl

pub fixed_plan_length : (p : PlanOf) → PlanOk base p → length (plan_bytes fixed p) ≤ base.plan
fixed_plan_length = plan_short base (lit< tt)

pub variable_plan_length : (p : PlanOf) → PlanOk base p → length (plan_bytes variable p) ≤ base.variable_plan
variable_plan_length = variable_plan_short base (lit< tt) (lit< tt)
