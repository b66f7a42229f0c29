-- 02, CR 2: "Row 6 keeps its number but loses its condition, and it is shown that no call returns it": what is shown, a line for each entry, for every input, every
-- state and every record of sizes.
use Rattle.std.specs.Prelude.{ℕ, ◌≡◌, List, []}
use Rattle.lists.specs.Lists.{found}
use Rattle.bincode.specs.Read.{refuse, whole}
use Rattle.bincode.specs.Numbers.{fixed}
use Rattle.bincode.specs.Sizes.{Sizes}
use Rattle.honey_badger.specs.declared.EncryptionSchedule.{EncryptionSchedule}
use Rattle.honey_badger.specs.EncryptionSchedule.{use_on_epoch}
use Rattle.join_plan.specs.JoinPlan.{PlanOf, read_plan, plan_said, to_variable_said, to_fixed_said}
use Rattle.batch.specs.Batch.{BatchOf, plan_answered}
use Rattle.internal_contrib.specs.InternalContrib.{read_batch}
use Rattle.internal_contrib.specs.Places.{user_of, contributed}
use Rattle.dynamic_honey_badger.specs.Asked.{next_epoch}
use Rattle.dynamic_honey_badger.specs.State.{StateOf, started, joined}
use Rattle.dynamic_honey_badger.specs.OwnVotes.{vote_for_bytes, vote_to_add, vote_to_remove}
use Rattle.dynamic_honey_badger.specs.Received.{received, returned}
use Rattle.process_output.specs.Process.{BatchCall, processed}
use Rattle.reference.specs.Reference.{RefState}
use Rattle.reference.specs.Step.{SharedBatch, ref_step}
use Rattle.refusals.specs.Table.{refusal_of, refusal_of_read, refusal_in}

-- no call returns the number
pub record NoCallReturns (number : ℕ) : Type 0 where
  -- the batch call
  pub batch : (z : Sizes) (s : StateOf) (b : BatchCall) → refusal_of (processed z s b).answer ≡ found number → ⊥
  -- `new`, joining
  pub new : (z : Sizes) (id key era : ℕ) (map params : List ℕ) → refusal_of (started z id key era map params) ≡ found number → ⊥
  pub joining : (z : Sizes) (places id key : ℕ) (plan : List ℕ) → refusal_of (joined z places id key plan) ≡ found number → ⊥
  -- `vote_for`, `vote_to_add`, `vote_to_remove`
  pub own_vote : (z : Sizes) (s : StateOf) (change : List ℕ) → refusal_of (vote_for_bytes z s change).answer ≡ found number → ⊥
  pub own_vote_to_add : (z : Sizes) (s : StateOf) (id key : ℕ) → refusal_of (vote_to_add z s id key).answer ≡ found number → ⊥
  pub own_vote_to_remove : (z : Sizes) (s : StateOf) (id : ℕ) → refusal_of (vote_to_remove z s id).answer ≡ found number → ⊥
  -- a received message, a due item handed back
  pub message : (z : Sizes) (s : StateOf) (sender : ℕ) (bytes : List ℕ) → refusal_in (received z s sender bytes).effect ≡ found number → ⊥
  pub due_item : (z : Sizes) (s : StateOf) (bytes : List ℕ) → refusal_in (returned z s bytes).effect ≡ found number → ⊥
  -- `join_plan`; reading a plan, writing one
  pub join_plan : (z : Sizes) (buffer : List ℕ) (b : BatchOf) (set : ℕ) → refusal_of (plan_answered z buffer b set) ≡ found number → ⊥
  pub plan_read : (z : Sizes) (bytes : List ℕ) → refusal_of_read (whole (read_plan fixed z bytes) bytes) ≡ found number → ⊥
  pub plan_written : (z : Sizes) (buffer : List ℕ) (p : PlanOf) → refusal_of (plan_said fixed z.plan buffer p) ≡ found number → ⊥
  -- 02, CR 5: `to_fixed`, `to_variable`, each with the room of the edition that it writes
  pub to_fixed : (z : Sizes) (plan buffer : List ℕ) → refusal_of (to_fixed_said z plan buffer) ≡ found number → ⊥
  pub to_variable : (z : Sizes) (plan buffer : List ℕ) → refusal_of (to_variable_said z plan buffer) ≡ found number → ⊥
  -- `next_epoch`, the schedule call
  pub next_epoch : (s : StateOf) (inner : ℕ) → refusal_of (next_epoch s inner) ≡ found number → ⊥
  pub schedule : (x : EncryptionSchedule) (epoch : ℕ) → refusal_of (use_on_epoch x epoch) ≡ found number → ⊥
  -- the companion of the look-up of user bytes; the look-up itself shows bytes for every input, none where reading refuses
  pub has_contribution : (z : Sizes) (bytes : List ℕ) (id : ℕ) → refusal_of (contributed (read_batch z bytes) id) ≡ found number → ⊥
  pub user_bytes : (z : Sizes) (bytes : List ℕ) (id n : ℕ) → read_batch z bytes ≡ refuse n → (n ≡ number → ⊥) × (user_of (read_batch z bytes) id ≡ [])
  -- (`should_propose` and `last_report` answer a truth value, and a stamp or none: there is no number in them.) And the reference state does not answer a shared batch with it
  pub reference : (z : Sizes) (s : RefState) (b : SharedBatch) → refusal_of (ref_step z s b).answer ≡ found number → ⊥

-- the row that has no condition any more
abbrev pub six : ℕ
six = 6

abbrev pub NeverSix : Type 0
NeverSix = NoCallReturns six
