-- 01, "When the engine says no": for each entry point its rows in the order that 01 fixes. A row is a number and whether its condition holds of the call's inputs
-- and of the state before it.
use Rattle.std.specs.Prelude.{ℕ, ◌+◌, List, [], ◌∷◌, Bool, true, false, not, cond, ◌&&◌, ltb, eqb}
use Rattle.lists.specs.Lists.{Found, found, nothing, map_found, lookup}
use Rattle.bincode.specs.Read.{Read, value, refuse, whole}
use Rattle.bincode.specs.Outcome.{Outcome, done, refused}
use Rattle.bincode.specs.Numbers.{Edition, fixed}
use Rattle.bincode.specs.Sizes.{Sizes}
use Rattle.pub_key_map.specs.PubKeyMap.{read_map}
use Rattle.honey_badger.specs.declared.EncryptionSchedule.{EncryptionSchedule}
use Rattle.honey_badger.specs.EncryptionSchedule.{row14}
use Rattle.params.specs.Params.{read_params}
use Rattle.change.specs.Change.{read_change}
use Rattle.signed_votes.specs.SignedVotes.{voter_of, num_of}
use Rattle.join_plan.specs.JoinPlan.{row1, read_plan}
use Rattle.batch.specs.Batch.{BatchOf, changed, no_next}
use Rattle.joining.specs.Starting.{is_empty, key_row2, join_row1, join_row8, join_row9, join_row10}
use Rattle.message.specs.Message.{MessageContent, key_gen, signed_vote, read_message}
use Rattle.message_store.specs.MessageStore.{row12}
use Rattle.node_change.specs.NodeChange.{row13}
use Rattle.internal_contrib.specs.InternalContrib.{ContribOf, read_batch}
use Rattle.dynamic_honey_badger.specs.Asked.{row5}
use Rattle.key_gen.specs.KeyGen.{node_count}
use Rattle.key_gen_state.specs.KeyGenState.{KeyGenStateOf, count_messages}
use Rattle.dynamic_honey_badger.specs.State.{StateOf, era_of, nodes_in, is_validator, valid_signature}
use Rattle.dynamic_honey_badger.specs.Received.{MessageEffect, quiet, fault, refusal, read_due_item}
use Rattle.process_output.specs.Refusals.{batch_row1, batch_row4, batch_row15, batch_row7}
use Rattle.process_output.specs.Process.{BatchCall}

pub record Row : Type 0 where
  pub number : ℕ
  pub holds : Bool

abbrev pub row : ℕ → Bool → Row
row n b = record { number = n; holds = b }

-- the number of the first row that holds
unfoldable pub first_row : List Row → Found ℕ
first_row [] = nothing
first_row (r ∷ rs) = cond r.holds (found r.number) (first_row rs)

-- the refusal that an answer gives
module _ {A : Type 0} where
  abbrev pub refusal_of : Outcome A → Found ℕ
  refusal_of (done a) = nothing
  refusal_of (refused n) = found n

  abbrev pub refusal_of_read : Read A → Found ℕ
  refusal_of_read (value a c) = nothing
  refusal_of_read (refuse n) = found n

  -- reading ends with this number
  abbrev pub reads_to : ℕ → Read A → Bool
  reads_to n (value a c) = false
  reads_to n (refuse k) = eqb k n

  -- a row about what was read; where reading refuses, an earlier row holds
  abbrev pub of_read : (A → Bool) → Read A → Bool
  of_read p (value a c) = p a
  of_read p (refuse n) = false

-- starting: 2 and 3 (map, parameters, then own key), 8
unfoldable pub start_rows : Sizes → ℕ → List ℕ → List ℕ → List Row
start_rows z key map params =
    row 2 (reads_to 2 (whole (read_map fixed z map) map))
    ∷ row 3 (reads_to 3 (whole (read_map fixed z map) map))
    ∷ row 2 (reads_to 2 (whole (read_params fixed params) params))
    ∷ row 3 (reads_to 3 (whole (read_params fixed params) params))
    ∷ row 2 (key_row2 key)
    ∷ row 8 (of_read is_empty (whole (read_map fixed z map) map))
    ∷ []

-- joining: 1; 2 and 3 (the plan, then the own key); 8; 9; 10
unfoldable pub join_rows : Sizes → ℕ → ℕ → ℕ → List ℕ → List Row
join_rows z places id key plan =
    row 1 (join_row1 z places)
    ∷ row 2 (reads_to 2 (whole (read_plan fixed z plan) plan))
    ∷ row 3 (reads_to 3 (whole (read_plan fixed z plan) plan))
    ∷ row 2 (key_row2 key)
    ∷ row 8 (of_read join_row8 (whole (read_plan fixed z plan) plan))
    ∷ row 9 (of_read (join_row9 id) (whole (read_plan fixed z plan) plan))
    ∷ row 10 (of_read join_row10 (whole (read_plan fixed z plan) plan))
    ∷ []

-- row 11: a validator whose own pending vote number is 2^64-1
abbrev pub is_last : Found ℕ → Bool
is_last (found n) = eqb n 18446744073709551615
is_last nothing = false

unfoldable pub row11 : StateOf → Bool
row11 s = is_validator s && is_last (map_found num_of (lookup voter_of s.counter.pending s.counter.our_id))

-- own votes: 2 and 3; a non-validator's then does nothing; 13; 11
unfoldable pub vote_rows : Sizes → StateOf → List ℕ → List Row
vote_rows z s change =
    row 2 (reads_to 2 (whole (read_change fixed z change) change))
    ∷ row 3 (reads_to 3 (whole (read_change fixed z change) change))
    ∷ row 11 (row11 s)
    ∷ []

unfoldable pub add_rows : Sizes → StateOf → ℕ → ℕ → List Row
add_rows z s id key =
    row 2 (eqb key 0)
    ∷ row 13 (is_validator s && row13 z (nodes_in s) id)
    ∷ row 11 (row11 s)
    ∷ []

unfoldable pub remove_rows : StateOf → List Row
remove_rows s = row 11 (row11 s) ∷ []

-- received messages and due items handed back: 2 and 3; the checks named for them; 12. A message comes to the store where its era and signature are right, key
-- generation runs, and its sender has not sent too many.
abbrev pub comes_to_store : Sizes → StateOf → ℕ → Found KeyGenStateOf → Bool
comes_to_store z s sender (found g) = not (ltb (node_count g.key_gen + 1) (count_messages z (nodes_in s) g sender).count)
comes_to_store z s sender nothing = false

abbrev pub message_row12 : Sizes → StateOf → ℕ → MessageContent → Bool
message_row12 z s sender (key_gen era m sig) =
    eqb era (era_of s) && (valid_signature s sender sig && (comes_to_store z s sender s.key_gen && row12 z s.store))
message_row12 z s sender (signed_vote v) = false

unfoldable pub message_rows : Sizes → StateOf → ℕ → List ℕ → List Row
message_rows z s sender bytes =
    row 2 (reads_to 2 (whole (read_message z bytes) bytes))
    ∷ row 3 (reads_to 3 (whole (read_message z bytes) bytes))
    ∷ row 12 (of_read (message_row12 z s sender) (whole (read_message z bytes) bytes))
    ∷ []

-- a due item comes to the store where its era is the current one and this is a validator
abbrev pub due_row12 : Sizes → StateOf → MessageContent → Bool
due_row12 z s (key_gen era m sig) = eqb era (era_of s) && (is_validator s && row12 z s.store)
due_row12 z s (signed_vote v) = false

unfoldable pub due_rows : Sizes → StateOf → List ℕ → List Row
due_rows z s bytes =
    row 2 (reads_to 2 (whole (read_due_item z bytes) bytes))
    ∷ row 3 (reads_to 3 (whole (read_due_item z bytes) bytes))
    ∷ row 12 (of_read (due_row12 z s) (whole (read_due_item z bytes) bytes))
    ∷ []

-- the refusal that a message's effect is
abbrev pub refusal_in : MessageEffect → Found ℕ
refusal_in quiet = nothing
refusal_in (fault k) = nothing
refusal_in (refusal n) = found n

-- a batch: 1; reading, 2 and 3; 4; 15 (02, CR 1); 5; 6, which keeps its number and has no condition (02, CR 2); 7
unfoldable pub batch_rows : Sizes → StateOf → BatchCall → List Row
batch_rows z s b =
    row 1 (batch_row1 z b.fault_places b.due_places)
    ∷ row 2 (reads_to 2 (read_batch z b.bytes))
    ∷ row 3 (reads_to 3 (read_batch z b.bytes))
    ∷ row 4 (of_read (λ (cs : List ContribOf). batch_row4 cs b.verdicts) (read_batch z b.bytes))
    ∷ row 15 (batch_row15 (era_of s) b.era)
    ∷ row 5 (row5 (era_of s + b.inner))
    ∷ row 6 false
    ∷ row 7 (of_read (batch_row7 z s b.verdicts) (read_batch z b.bytes))
    ∷ []

-- `join_plan`: 1, also where nothing changed; then 5, where there is a plan and no epoch follows the report's
unfoldable pub plan_rows : Sizes → List ℕ → BatchOf → List Row
plan_rows z buffer b = row 1 (row1 z.plan buffer) ∷ row 5 (changed b.change && no_next b) ∷ []

-- reading a plan: 2 and 3 of its bytes; writing one: 1
unfoldable pub plan_read_rows : Sizes → List ℕ → List Row
plan_read_rows z bytes = row 2 (reads_to 2 (whole (read_plan fixed z bytes) bytes)) ∷ row 3 (reads_to 3 (whole (read_plan fixed z bytes) bytes)) ∷ []

unfoldable pub plan_written_rows : Sizes → List ℕ → List Row
plan_written_rows z buffer = row 1 (row1 z.plan buffer) ∷ []

-- conversion: 1 before a byte is read; 2, 3 and, of the new edition, 16 as they are met (02, CR 5). The plan is read in edition e; the room is the other's
unfoldable pub convert_rows : Edition → ℕ → Sizes → List ℕ → List ℕ → List Row
convert_rows e room z plan buffer =
    row 1 (row1 room buffer)
    ∷ row 2 (reads_to 2 (whole (read_plan e z plan) plan))
    ∷ row 3 (reads_to 3 (whole (read_plan e z plan) plan))
    ∷ row 16 (reads_to 16 (whole (read_plan e z plan) plan))
    ∷ []

-- `next_epoch`: 5
unfoldable pub next_rows : StateOf → ℕ → List Row
next_rows s inner = row 5 (row5 (era_of s + inner)) ∷ []

-- the schedule call: 14
unfoldable pub schedule_rows : EncryptionSchedule → List Row
schedule_rows x = row 14 (row14 x) ∷ []

-- the companion of the look-up: 2 and 3 of the whole batch
unfoldable pub lookup_rows : Sizes → List ℕ → List Row
lookup_rows z bytes = row 2 (reads_to 2 (read_batch z bytes)) ∷ row 3 (reads_to 3 (read_batch z bytes)) ∷ []

-- the companion says no, or refuses
abbrev pub SaysNo : Outcome Bool → Type 0
SaysNo (done true) = ⊥
SaysNo (done false) = Unit {0}
SaysNo (refused n) = Unit {0}
