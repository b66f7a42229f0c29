-- Laws of join plans: the bytes of the fields, and that the struct that holds one stands for it.
-- Assumes nothing.
use mathlib.Core.Path.{◌≡◌}
use mathlib.Core.List.{[], ◌∷◌, append-nil, append_assoc}
use Rattle.lists.proofs.ListLaws.{take_padded}
use Rattle.bincode.specs.Numbers.{Edition}
use Rattle.bincode.specs.Stands.{concat}
use Rattle.bincode.specs.Sizes.{base}
use Rattle.pub_key_map.specs.PubKeyMap.{no_node, map_bytes}
use Rattle.params.specs.Params.{params_bytes}
use Rattle.change.specs.Change.{state_bytes}
use Rattle.change.proofs.ChangeLaws.{held_state}
use Rattle.join_plan.specs.JoinPlan.{PlanOf, plan_bytes, plan_of, plan_held}

-- the fields written one after the other, era and change as one
pub fields_bytes : (e : Edition) (p : PlanOf)
    → concat (concat (e.bytes 8 p.era ∷ state_bytes e p.change ∷ []) ∷ map_bytes e p.keys ∷ e.bytes 8 p.key_set ∷ params_bytes e p.params ∷ [])
    ≡ plan_bytes e p
unfolding plan_bytes
fields_bytes e p = simp (append-nil, append_assoc)

-- what is held is what was given
pub held_plan : (p : PlanOf) → plan_of (plan_held p) ≡ p
held_plan p =
    let change = held_state p.change in
    let keys = take_padded base.nodes no_node p.keys in
    λ i. record { era = p.era; change = change i; keys = keys i; key_set = p.key_set; params = p.params }
