-- A join plan. Its field order is one definition over the edition, so every edition has the same plan.
use Rattle.std.specs.Prelude.{ℕ, ◌^◌, ◌<◌, List, [], ◌∷◌, Bool, cond, length, ltb}
use Rattle.std.proofs.lemmas.List.Edits.{sets}
use Rattle.bincode.specs.Read.{Read, value, refuse, bind, whole}
use Rattle.bincode.specs.Outcome.{Outcome, done, refused}
use Rattle.bincode.specs.Numbers.{Edition, fixed, variable}
use Rattle.bincode.specs.Sizes.{Sizes}
use Rattle.bincode.specs.Stands.{concat}
use Rattle.pub_key_map.specs.declared.Node.{Node}
use Rattle.pub_key_map.specs.PubKeyMap.{nodes_of, map_held, read_map, map_bytes, MapOk}
use Rattle.params.specs.declared.Params.{Params}
use Rattle.params.specs.Params.{read_params, params_bytes, ParamsOk}
use Rattle.change.specs.Change.{ChangeStateOf, state_of, state_held, read_state, state_bytes, StateOk}
use Rattle.join_plan.specs.declared.JoinPlan.{JoinPlan}

pub record PlanOf : Type 0 where
  pub era : ℕ
  pub change : ChangeStateOf
  pub keys : List Node
  pub key_set : ℕ
  pub params : Params

-- era, change, map, key set, parameters
unfoldable pub read_plan : Edition → Sizes → List ℕ → ℕ → Read PlanOf
read_plan e z s at =
    bind (e.read 8 s at) λ era a.
    bind (read_state e z s a) λ change b.
    bind (read_map e z s b) λ keys c.
    bind (e.read 8 s c) λ key_set d.
    bind (read_params e s d) λ params f.
    value (record { era = era; change = change; keys = keys; key_set = key_set; params = params }) f

unfoldable pub plan_bytes : Edition → PlanOf → List ℕ
plan_bytes e p =
    concat
    (e.bytes 8 p.era ∷ state_bytes e p.change ∷ map_bytes e p.keys ∷ e.bytes 8 p.key_set ∷ params_bytes e p.params ∷ [])

-- the plans that some bytes are read as
pub record PlanOk (z : Sizes) (p : PlanOf) : Type 0 where
  pub era_fits : p.era < 256 ^ 8
  pub change_ok : StateOk z p.change
  pub keys_ok : MapOk z p.keys
  pub key_set_fits : p.key_set < 256 ^ 8
  pub params_ok : ParamsOk p.params

-- as code holds it
abbrev pub plan_of : JoinPlan → PlanOf
plan_of p = record { era = p.era; change = state_of p.change; keys = nodes_of p.pub_keys; key_set = p.pub_key_set; params = p.params }

abbrev pub plan_held : PlanOf → JoinPlan
plan_held p = record { era = p.era; change = state_held p.change; pub_keys = map_held p.keys; pub_key_set = p.key_set; params = p.params }

-- row 1: the buffer is shorter than the room that is lent for a plan
abbrev pub row1 : ℕ → List ℕ → Bool
row1 room l = ltb (length l) room

-- what a buffer holds after writing a plan in an edition, and what is answered: how many bytes
unfoldable pub plan_written : Edition → ℕ → List ℕ → PlanOf → List ℕ
plan_written e room l p = cond (row1 room l) l (sets l 0 (plan_bytes e p))

unfoldable pub plan_said : Edition → ℕ → List ℕ → PlanOf → Outcome ℕ
plan_said e room l p = cond (row1 room l) (refused 1) (done (length (plan_bytes e p)))

-- 02, CR 5: a plan that is read in edition a and written in b, with the room of b. Row 1 before a byte is read; then what refuses the plan as it is read
unfoldable pub plan_converted : Edition → Edition → ℕ → Sizes → List ℕ → List ℕ → List ℕ
plan_converted a b room z s l = cond (row1 room l) l (by_plan (whole (read_plan a z s) s))
  where
    by_plan : Read PlanOf → List ℕ
    by_plan (value p c) = plan_written b room l p
    by_plan (refuse n) = l

unfoldable pub conversion_said : Edition → Edition → ℕ → Sizes → List ℕ → List ℕ → Outcome ℕ
conversion_said a b room z s l = cond (row1 room l) (refused 1) (by_plan (whole (read_plan a z s) s))
  where
    by_plan : Read PlanOf → Outcome ℕ
    by_plan (value p c) = plan_said b room l p
    by_plan (refuse n) = refused n

-- 02, CR 5: the two calls, each with the room of the edition that it writes: old to new, and new to old
abbrev pub to_variable_left : Sizes → List ℕ → List ℕ → List ℕ
to_variable_left z = plan_converted fixed variable z.variable_plan z

abbrev pub to_variable_said : Sizes → List ℕ → List ℕ → Outcome ℕ
to_variable_said z = conversion_said fixed variable z.variable_plan z

abbrev pub to_fixed_left : Sizes → List ℕ → List ℕ → List ℕ
to_fixed_left z = plan_converted variable fixed z.plan z

abbrev pub to_fixed_said : Sizes → List ℕ → List ℕ → Outcome ℕ
to_fixed_said z = conversion_said variable fixed z.plan z
