-- What refuses a join plan, in every edition and for every size: the causes that `plan_wrong` names, each with its number, and nothing else.
-- Assumes nothing.
use Prim.Native.Nat.{ℕ, ◌^◌, ◌<◌}
use mathlib.Core.List.{List}
use Rattle.bincode.specs.Numbers.{Edition}
use Rattle.bincode.specs.Sizes.{Sizes}
use Rattle.bincode.specs.Codes.{NumberCodes}
use Rattle.bincode.specs.Causes.{NumberWrong, Causes, NumberCauses}
use Rattle.bincode.proofs.CodeLaws.{eight}
use Rattle.bincode.proofs.CauseLaws.{field, last}
use Rattle.pub_key_map.proofs.MapCodes.{map_codes}
use Rattle.pub_key_map.proofs.MapCauses.{map_causes}
use Rattle.params.proofs.ParamsCauses.{params_causes}
use Rattle.change.proofs.ChangeCodes.{state_codes}
use Rattle.change.proofs.ChangeCauses.{state_causes}
use Rattle.join_plan.specs.JoinPlan.{read_plan}
use Rattle.join_plan.specs.PlanCauses.{plan_wrong}

module _ (e : Edition) (v : NumberWrong) (s : List ℕ) (codes : NumberCodes e s) (num : NumberCauses e v s) (z : Sizes) (fits : z.nodes < 256 ^ 8) where
  pub plan_causes : Causes s (read_plan e z s) (plan_wrong e v s z)
  unfolding read_plan
  plan_causes =
      field (codes 8 eight) (num 8 eight) λ era.
      field (state_codes e s codes z fits) (state_causes e v s codes num z) λ change.
      field (map_codes e s codes z fits) (map_causes e v s codes num z) λ keys.
      field (codes 8 eight) (num 8 eight) λ key_set.
      last (λ params. record { era = era; change = change; keys = keys; key_set = key_set; params = params }) (params_causes e v s codes num)
