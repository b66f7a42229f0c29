-- 01: the report is epoch, era of the batch, change, map and parameters; 02, CR 7: and the voters who carried the change. And the join plan that a report gives.
use Rattle.std.specs.Prelude.{ℕ, ◌+◌, List, [], Bool, true, false, cond, eqb}
use Rattle.lists.specs.Lists.{Found, found, nothing}
use Rattle.bincode.specs.Numbers.{fixed}
use Rattle.bincode.specs.Sizes.{Sizes}
use Rattle.bincode.specs.Outcome.{Outcome, done, refused}
use Rattle.pub_key_map.specs.declared.Node.{Node}
use Rattle.pub_key_map.specs.declared.PubKeyMap.{PubKeyMap}
use Rattle.pub_key_map.specs.PubKeyMap.{nodes_of}
use Rattle.voters.specs.Voters.{ids_of, no_voters}
use Rattle.params.specs.declared.Params.{Params}
use Rattle.change.specs.declared.ChangeState.{ChangeState}
use Rattle.change.specs.Change.{ChangeStateOf, none, in_progress, complete, state_of}
use Rattle.join_plan.specs.JoinPlan.{PlanOf, row1, plan_written, plan_said}
use Rattle.batch.specs.declared.Batch.{Batch}
use Rattle.batch.specs.declared.Ruling.{Ruling}

-- 02, CR 7: what a batch decides, as the report tells it: the change, and the list of voters who carried it
pub record RulingOf : Type 0 where
  pub change : ChangeStateOf
  pub voters : List ℕ

-- "Where the report comes of a ready key generation or is `None`, the list is empty"
abbrev pub unvoted : ChangeStateOf → RulingOf
unvoted c = record { change = c; voters = [] }

pub record BatchOf : Type 0 where
  pub epoch : ℕ
  pub era : ℕ
  pub change : ChangeStateOf
  pub keys : List Node
  pub params : Params
  pub voters : List ℕ

-- the report of a batch with this epoch and era, and the map and parameters after it
abbrev pub batch_with : ℕ → ℕ → RulingOf → List Node → Params → BatchOf
batch_with epoch era r ns p = record { epoch = epoch; era = era; change = r.change; keys = ns; params = p; voters = r.voters }

-- as code holds them
abbrev pub ruling_of : Ruling → RulingOf
ruling_of r = record { change = state_of r.change; voters = ids_of r.voters }

abbrev pub unvoted_held : ChangeState → Ruling
unvoted_held c = record { change = c; voters = no_voters }

abbrev pub batch_held : ℕ → ℕ → Ruling → PubKeyMap → Params → Batch
batch_held epoch era r m p = record { epoch = epoch; era = era; change = r.change; pub_keys = m; params = p; voters = r.voters }

abbrev pub batch_of : Batch → BatchOf
batch_of b = record { epoch = b.epoch; era = b.era; change = state_of b.change; keys = nodes_of b.pub_keys; params = b.params; voters = ids_of b.voters }

-- something changed, so there is a plan
abbrev pub changed : ChangeStateOf → Bool
changed none = false
changed (in_progress c) = true
changed (complete c) = true

-- the plan of a report: the next epoch begins the joiner's era
abbrev pub plan_of_batch : BatchOf → ℕ → PlanOf
plan_of_batch b set = record { era = b.epoch + 1; change = b.change; keys = b.keys; key_set = set; params = b.params }

-- no epoch follows the last (row 5; no engine reports it)
abbrev pub no_next : BatchOf → Bool
no_next b = eqb b.epoch 18446744073709551615

-- the buffer after the call: row 1, no plan, row 5, the plan
unfoldable pub plan_left : Sizes → List ℕ → BatchOf → ℕ → List ℕ
plan_left z l b set =
    cond (row1 z.plan l) l (cond (changed b.change) (cond (no_next b) l (plan_written fixed z.plan l (plan_of_batch b set))) l)

-- and the answer, in the same order: how many bytes, or that there is no plan
abbrev pub found_bytes : Outcome ℕ → Outcome (Found ℕ)
found_bytes (done n) = done (found n)
found_bytes (refused n) = refused n

unfoldable pub plan_answered : Sizes → List ℕ → BatchOf → ℕ → Outcome (Found ℕ)
plan_answered z l b set =
    cond (row1 z.plan l) (refused 1)
    (cond (changed b.change) (cond (no_next b) (refused 5) (found_bytes (plan_said fixed z.plan l (plan_of_batch b set)))) (done nothing))
