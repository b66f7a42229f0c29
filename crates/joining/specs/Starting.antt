-- 01, "When the engine says no": what starting and joining are refused for, in order.
use Rattle.std.specs.Prelude.{ℕ, List, [], ◌∷◌, Bool, true, false, not, cond, ◌||◌, ltb, eqb}
use Rattle.bincode.specs.Read.{Read, value, refuse, whole}
use Rattle.bincode.specs.Outcome.{Outcome, done, refused}
use Rattle.bincode.specs.Numbers.{fixed}
use Rattle.bincode.specs.Sizes.{Sizes}
use Rattle.pub_key_map.specs.declared.Node.{Node}
use Rattle.pub_key_map.specs.declared.PubKeyMap.{PubKeyMap}
use Rattle.pub_key_map.specs.PubKeyMap.{nodes_of, same_nodes, read_map}
use Rattle.network_info.specs.NetworkInfo.{is_member}
use Rattle.honey_badger.specs.EncryptionSchedule.{same_schedule}
use Rattle.params.specs.declared.Params.{Params}
use Rattle.params.specs.Params.{read_params}
use Rattle.change.specs.Change.{node_change, encryption_schedule, ChangeStateOf, none, in_progress, complete}
use Rattle.join_plan.specs.JoinPlan.{PlanOf, read_plan}

-- reading goes first: its refusal is the call's
module _ {A B : Type 0} where
  abbrev pub reading : Read A → (A → Outcome B) → Outcome B
  reading (value a c) f = f a
  reading (refuse n) f = refused n

abbrev pub is_empty : List Node → Bool
is_empty [] = true
is_empty (n ∷ ns) = false

-- row 2: key 0 as own key
abbrev pub key_row2 : ℕ → Bool
key_row2 key = eqb key 0

-- row 1 of joining: fewer places lent for due items
abbrev pub join_row1 : Sizes → ℕ → Bool
join_row1 z places = ltb places z.due

-- row 8 of joining: the plan's map, or its in-progress map, is empty
abbrev pub empty_progress : ChangeStateOf → Bool
empty_progress (in_progress (node_change ns)) = is_empty ns
empty_progress (in_progress (encryption_schedule x)) = false
empty_progress none = false
empty_progress (complete c) = false

unfoldable pub join_row8 : PlanOf → Bool
join_row8 p = is_empty p.keys || empty_progress p.change

-- row 9: own id already in the plan's map
unfoldable pub join_row9 : ℕ → PlanOf → Bool
join_row9 id p = is_member p.keys id

-- row 10: a `Complete` change differs from the plan
abbrev pub differs : PlanOf → ChangeStateOf → Bool
differs p (complete (node_change ns)) = not (same_nodes ns p.keys)
differs p (complete (encryption_schedule x)) = not (same_schedule x p.params.encryption_schedule)
differs p (in_progress c) = false
differs p none = false

unfoldable pub join_row10 : PlanOf → Bool
join_row10 p = differs p p.change

-- joining: 1; 2 and 3 (the plan, then the own key); 8; 9; 10
unfoldable pub join_plan : ℕ → ℕ → PlanOf → Outcome PlanOf
join_plan id key p =
    cond (key_row2 key) (refused 2)
    (cond (join_row8 p) (refused 8)
    (cond (join_row9 id p) (refused 9)
    (cond (join_row10 p) (refused 10)
    (done p))))

unfoldable pub join_checked : Sizes → ℕ → ℕ → ℕ → List ℕ → Outcome PlanOf
join_checked z places id key s =
    cond (join_row1 z places) (refused 1) (reading (whole (read_plan fixed z s) s) (join_plan id key))

-- starting: 2 and 3 (map, parameters, then own key), 8
pub record StartOf : Type 0 where
  pub keys : List Node
  pub params : Params

unfoldable pub start_map : ℕ → List Node → Params → Outcome StartOf
start_map key ns p =
    cond (key_row2 key) (refused 2)
    (cond (is_empty ns) (refused 8)
    (done (record { keys = ns; params = p })))

unfoldable pub start_checked : Sizes → ℕ → List ℕ → List ℕ → Outcome StartOf
start_checked z key map params =
    reading (whole (read_map fixed z map) map) λ ns.
    reading (whole (read_params fixed params) params) λ p.
    start_map key ns p

-- the map and the parameters of a start as code holds them
abbrev pub start_of : PubKeyMap × Params → StartOf
start_of x = record { keys = nodes_of x.0; params = x.1 }
