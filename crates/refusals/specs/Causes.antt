-- 01, rows 2 and 3 of each entry by their cause, and 16 of a conversion: what is wrong with a call's inputs, in the order in which they are looked at.
use Rattle.std.specs.Prelude.{ℕ, ◌≡◌, List}
use Rattle.bincode.specs.Numbers.{fixed, variable}
use Rattle.bincode.specs.Sizes.{Sizes}
use Rattle.bincode.specs.Causes.{Cause, key_zero, cause_number, Wrong, Unknown, Short, Garbled, Case, Whole, Number}
use Rattle.pub_key_map.specs.PubKeyMap.{map_bytes, MapOk}
use Rattle.pub_key_map.specs.MapCauses.{map_wrong}
use Rattle.params.specs.Params.{params_bytes, ParamsOk}
use Rattle.params.specs.ParamsCauses.{params_wrong}
use Rattle.change.specs.Change.{change_bytes, ChangeOk}
use Rattle.change.specs.ChangeCauses.{change_wrong}
use Rattle.join_plan.specs.JoinPlan.{plan_bytes, PlanOk}
use Rattle.join_plan.specs.PlanCauses.{plan_wrong}
use Rattle.message.specs.Message.{MessageContent, key_gen, signed_vote, content_bytes, ContentOk}
use Rattle.message.specs.ContentCauses.{key_gen_wrong, content_wrong}

-- the causes that an input has
abbrev pub Causing : Type 1
Causing = Cause → Type 0

-- one with the number n
abbrev pub By : ℕ → Causing → Type 0
By n W = (c : Cause) × W c × (cause_number c ≡ n)

abbrev pub NoCause : Causing
NoCause c = ⊥

-- an input, and the next one where nothing is wrong with the first
pub data Then (first next : Causing) (c : Cause) : Type 0 where
  in_first : first c → Then first next c
  in_next : ((d : Cause) → first d → ⊥) → next c → Then first next c

-- key 0, as own key or to be added
abbrev pub KeyWrong : ℕ → Causing
KeyWrong key c = (key ≡ 0) × (c ≡ key_zero)

-- bytes that are one value as a whole
module _ (s : List ℕ) where
  abbrev pub ParamsWrong : Causing
  ParamsWrong = Whole s (params_bytes fixed) ParamsOk (params_wrong fixed Short s)

  module _ (z : Sizes) where
    abbrev pub MapWrong : Causing
    MapWrong = Whole s (map_bytes fixed) (MapOk z) (map_wrong fixed Short s z)

    abbrev pub ChangeWrong : Causing
    ChangeWrong = Whole s (change_bytes fixed) (ChangeOk z) (change_wrong fixed Short s z)

    abbrev pub PlanWrong : Causing
    PlanWrong = Whole s (plan_bytes fixed) (PlanOk z) (plan_wrong fixed Short s z)

    -- a plan of the new edition, where row 16 has its causes (02, CR 5)
    abbrev pub NewPlanWrong : Causing
    NewPlanWrong = Whole s (plan_bytes variable) (PlanOk z) (plan_wrong variable Garbled s z)

    abbrev pub MessageWrong : Causing
    MessageWrong = Whole s content_bytes (ContentOk z) (content_wrong z s)

    -- a due item handed back is a message about key generation: tag 1, any other is unknown
    abbrev pub DueItemOk : MessageContent → Type 0
    DueItemOk (key_gen era m sig) = ContentOk z (key_gen era m sig)
    DueItemOk (signed_vote v) = ⊥

    abbrev pub due_item_wrong : Wrong
    due_item_wrong =
        Number fixed Short s 4 λ tag.
        Case tag 1 (key_gen_wrong z s)
        Unknown

    abbrev pub DueItemWrong : Causing
    DueItemWrong = Whole s content_bytes DueItemOk due_item_wrong

-- starting: map, parameters, then own key
abbrev pub StartWrong : Sizes → ℕ → List ℕ → List ℕ → Causing
StartWrong z key map params = Then (MapWrong map z) (Then (ParamsWrong params) (KeyWrong key))

-- joining: the plan, then the own key
abbrev pub JoinWrong : Sizes → ℕ → List ℕ → Causing
JoinWrong z key plan = Then (PlanWrong plan z) (KeyWrong key)
