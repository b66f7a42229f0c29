-- The state of a node: what it holds, how it starts, and what a new era does to it.
use Rattle.std.specs.Prelude.{ℕ, ◌≡◌, List, [], ◌∷◌, length, Bool, true, false, cond, ◌||◌, Some, None}
use Rattle.std.specs.declared.option.Option.{Option}
use Rattle.std.specs.declared.result.Result.{Result}
use Rattle.lists.specs.Lists.{Found, found, nothing, option_as_found}
use Rattle.bincode.specs.Answer.{outcome_as_said}
use Rattle.bincode.specs.declared.Refusal.{Refusal}
use Rattle.bincode.specs.Outcome.{Outcome, done, refused}
use Rattle.bincode.specs.Sizes.{Sizes}
use Rattle.pub_key_map.specs.declared.Node.{Node}
use Rattle.pub_key_map.specs.declared.PubKeyMap.{PubKeyMap}
use Rattle.network_info.specs.NetworkInfo.{is_member, key_of}
use Rattle.params.specs.declared.Params.{Params}
use Rattle.change.specs.declared.Change.TheVariants.{NodeChange, EncryptionSchedule}
use Rattle.change.specs.declared.ChangeState.{ChangeState}
use Rattle.change.specs.declared.ChangeState.TheVariants as progress
use Rattle.change.specs.Change.{node_change, encryption_schedule, ChangeStateOf, none, in_progress, complete}
use Rattle.vote_counter.specs.VoteCounter.{CounterOf, new_counter, counter_of, new_held, is_key}
use Rattle.key_gen_state.specs.KeyGenState as running
use Rattle.key_gen_message.specs.KeyGenMessage.{SignedKeyGenMsgOf}
use Rattle.message_store.specs.MessageStore.{from_era, store_of, no_store}
use Rattle.due.specs.declared.DueKind.TheVariants.{Part}
use Rattle.due.specs.declared.DueItem.{DueItem}
use Rattle.filled.specs.Numbers.{DueIn, part_in, due_places}
use Rattle.join_plan.specs.JoinPlan.{PlanOf}
use Rattle.joining.specs.Starting.{StartOf, start_checked, join_checked}
use Rattle.dynamic_honey_badger.specs.declared.DynamicHoneyBadger.{DynamicHoneyBadger}
use Rattle.dynamic_honey_badger.specs.declared.ReportStamp.{ReportStamp}
use Rattle.dynamic_honey_badger.specs.declared.JoinStarted.{JoinStarted}

-- 02, CR 1: epoch and era of a report, as the report has them
pub record Stamp : Type 0 where
  pub epoch : ℕ
  pub era : ℕ

-- own id and key, map, era, pending and committed votes are the counter's; then parameters, key generation or none, the message store, and the stamp of the last
-- report or none
pub record StateOf : Type 0 where
  pub counter : CounterOf
  pub params : Params
  pub key_gen : Found running.KeyGenStateOf
  pub store : List SignedKeyGenMsgOf
  pub last : Found Stamp

abbrev pub era_of : StateOf → ℕ
era_of s = s.counter.era

abbrev pub nodes_in : StateOf → List Node
nodes_in s = s.counter.nodes

abbrev pub with_counter : StateOf → CounterOf → StateOf
with_counter s c = record { counter = c; params = s.params; key_gen = s.key_gen; store = s.store; last = s.last }

abbrev pub with_key_gen : StateOf → Found running.KeyGenStateOf → StateOf
with_key_gen s g = record { counter = s.counter; params = s.params; key_gen = g; store = s.store; last = s.last }

abbrev pub with_store : StateOf → List SignedKeyGenMsgOf → StateOf
with_store s ms = record { counter = s.counter; params = s.params; key_gen = s.key_gen; store = ms; last = s.last }

abbrev pub with_params : StateOf → Params → StateOf
with_params s p = record { counter = s.counter; params = p; key_gen = s.key_gen; store = s.store; last = s.last }

abbrev pub with_last : StateOf → Found Stamp → StateOf
with_last s l = record { counter = s.counter; params = s.params; key_gen = s.key_gen; store = s.store; last = l }

-- a validator: own id in the current map
abbrev pub is_validator : StateOf → Bool
is_validator s = is_member (nodes_in s) s.counter.our_id

-- the candidate map, or none
abbrev pub candidate_nodes : Found running.KeyGenStateOf → Found (List Node)
candidate_nodes (found g) = found g.key_gen.nodes
candidate_nodes nothing = nothing

-- a key message's signature is under its signer's current or candidate key
abbrev pub is_candidate_key : Found (List Node) → ℕ → ℕ → Bool
is_candidate_key (found ns) id sig = is_key sig (key_of ns id)
is_candidate_key nothing id sig = is_key sig nothing

unfoldable pub valid_under : List Node → Found (List Node) → ℕ → ℕ → Bool
valid_under ns candidate id sig = is_key sig (key_of ns id) || is_candidate_key candidate id sig

abbrev pub valid_signature : StateOf → ℕ → ℕ → Bool
valid_signature s id sig = valid_under (nodes_in s) (candidate_nodes s.key_gen) id sig

-- 01: a new era empties pending and committed votes and drops stored messages of lower eras
unfoldable pub new_era : ℕ → List Node → StateOf → StateOf
new_era era ns s =
    record {
      counter = new_counter s.counter.our_id s.counter.our_key ns era;
      params = s.params;
      key_gen = s.key_gen;
      store = from_era era s.store;
      last = s.last;
    }

-- a fresh key generation for a map: no parts, nobody counted
abbrev pub fresh_key_gen : Sizes → ℕ → List Node → running.KeyGenStateOf
fresh_key_gen z id ns = running.fresh_state z (record { our_id = id; nodes = ns; parts = [] })

unfoldable pub key_gen_for : Sizes → List Node → StateOf → StateOf
key_gen_for z ns s = with_key_gen s (found (fresh_key_gen z s.counter.our_id ns))

-- a part is due for a fresh key generation, where the candidate map holds this node
abbrev pub part_due : List Node → ℕ → ℕ → List DueItem
part_due ns id era = cond (is_member ns id) (record { kind = Part; era = era } ∷ []) []

-- `new`: no votes, no key generation, nothing stored, nothing reported
abbrev pub opened : ℕ → ℕ → ℕ → List Node → Params → StateOf
opened id key era ns p = record { counter = new_counter id key ns era; params = p; key_gen = nothing; store = []; last = nothing }

abbrev pub started_from : ℕ → ℕ → ℕ → Outcome StartOf → Outcome StateOf
started_from id key era (done x) = done (opened id key era x.keys x.params)
started_from id key era (refused n) = refused n

unfoldable pub started : Sizes → ℕ → ℕ → ℕ → List ℕ → List ℕ → Outcome StateOf
started z id key era map params = started_from id key era (start_checked z key map params)

-- joining: the plan's era, map and parameters; a fresh key generation where a map is in progress, with its due list
pub record Joined : Type 0 where
  pub state : StateOf
  pub due : List DueItem

abbrev pub in_progress_map : ChangeStateOf → Bool
in_progress_map (in_progress (node_change ns)) = true
in_progress_map (in_progress (encryption_schedule x)) = false
in_progress_map none = false
in_progress_map (complete c) = false

abbrev pub joined_by : Sizes → ℕ → ℕ → ChangeStateOf → StateOf → Joined
joined_by z id era (in_progress (node_change ns)) s = record { state = key_gen_for z ns s; due = part_due ns id era }
joined_by z id era (in_progress (encryption_schedule x)) s = record { state = s; due = [] }
joined_by z id era none s = record { state = s; due = [] }
joined_by z id era (complete c) s = record { state = s; due = [] }

unfoldable pub joined_with : Sizes → ℕ → ℕ → PlanOf → Joined
joined_with z id key p = joined_by z id p.era p.change (opened id key p.era p.keys p.params)

abbrev pub joined_from : Sizes → ℕ → ℕ → Outcome PlanOf → Outcome Joined
joined_from z id key (done p) = done (joined_with z id key p)
joined_from z id key (refused n) = refused n

unfoldable pub joined : Sizes → ℕ → ℕ → ℕ → List ℕ → Outcome Joined
joined z places id key plan = joined_from z id key (join_checked z places id key plan)

-- as a call answers it: the due items go into the lent lists, and their number stands beside the state
pub record JoinAnswer : Type 0 where
  pub state : StateOf
  pub due : ℕ

abbrev pub numbered : Joined → JoinAnswer
numbered j = record { state = j.state; due = length j.due }

abbrev pub join_answer : Outcome Joined → Outcome JoinAnswer
join_answer (done j) = done (numbered j)
join_answer (refused n) = refused n

-- what goes into the lists; a refused joining writes nothing
abbrev pub join_due : Outcome Joined → List DueItem
join_due (done j) = j.due
join_due (refused n) = []

-- as code holds it
abbrev pub stamp_of : ReportStamp → Stamp
stamp_of r = record { epoch = r.epoch; era = r.era }

abbrev pub stamp_held : Option ReportStamp → Found Stamp
stamp_held r = option_as_found stamp_of r

abbrev pub state_of : DynamicHoneyBadger → StateOf
state_of d =
    record {
      counter = counter_of d.vote_counter;
      params = d.params;
      key_gen = running.state_of d.key_gen_state;
      store = store_of d.store;
      last = stamp_held d.last;
    }

abbrev pub started_of : Result DynamicHoneyBadger Refusal → Outcome StateOf
started_of r = outcome_as_said state_of r

abbrev pub join_answer_of : JoinStarted → JoinAnswer
join_answer_of r = record { state = state_of r.state; due = r.due }

abbrev pub joined_of : Result JoinStarted Refusal → Outcome JoinAnswer
joined_of r = outcome_as_said join_answer_of r

-- a state that joins, and the part that is due where there is one
abbrev pub joining : StateOf → Option ℕ → Joined
joining s part = record { state = s; due = part_in part }

-- the struct of a state that is opened
abbrev pub opened_held : ℕ → ℕ → ℕ → PubKeyMap → Params → DynamicHoneyBadger
opened_held id key era m p = record { params = p; vote_counter = new_held id key m era; key_gen_state = None; store = no_store; last = None }

-- a joining with lent lists of due items: what it answers, and what the lists hold at the end; a refused one writes nothing
abbrev pub JoinedLent : Sizes → ℕ → ℕ → List ℕ → Result JoinStarted Refusal → List ℕ → List ℕ → List ℕ → List ℕ → List ℕ → List ℕ → Type 0
JoinedLent z id key plan r kinds kinds' indices indices' eras eras' =
    (joined_of r ≡ join_answer (joined z (due_places kinds indices eras) id key plan))
    × DueIn (join_due (joined z (due_places kinds indices eras) id key plan)) kinds kinds' indices indices' eras eras'

-- the map that a plan has in progress
abbrev pub map_in_progress : ChangeState → Option PubKeyMap
map_in_progress (progress.InProgress (NodeChange m)) = Some m
map_in_progress (progress.InProgress (EncryptionSchedule x)) = None
map_in_progress progress.None = None
map_in_progress (progress.Complete c) = None
