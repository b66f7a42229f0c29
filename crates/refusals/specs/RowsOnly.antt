-- 01, "When the engine says no": a refused call answers with a row's number. So the refusals of the code, which have names for the rows alone, say all that the definitions say.
use Rattle.std.specs.Prelude.{ℕ, ◌≡◌, List}
use Rattle.bincode.specs.Read.{Read, refuse, whole}
use Rattle.bincode.specs.Numbers.{Edition, fixed, variable}
use Rattle.bincode.specs.Rows.{row_number}
use Rattle.bincode.specs.Rows as rows
use Rattle.bincode.specs.Sizes.{Sizes}
use Rattle.pub_key_map.specs.PubKeyMap.{read_node, read_map}
use Rattle.sync_key_gen.specs.SyncKeyGen.{read_handles, read_part, read_ack}
use Rattle.honey_badger.specs.EncryptionSchedule.{read_schedule}
use Rattle.params.specs.Params.{read_strategy, read_params}
use Rattle.change.specs.Change.{read_change, read_state}
use Rattle.key_gen_message.specs.KeyGenMessage.{read_key_gen_message, read_signed_key_gen_msg}
use Rattle.votes.specs.Votes.{read_vote, read_signed_vote}
use Rattle.join_plan.specs.JoinPlan.{read_plan}
use Rattle.message.specs.Message.{read_message}
use Rattle.internal_contrib.specs.InternalContrib.{read_contrib}
use Rattle.internal_contrib.specs.declared.Budget.{Budget}
use Rattle.refusals.specs.NeverSix.{NoCallReturns}

-- no call returns a number that is no row's
abbrev pub OnlyRows : Type 0
OnlyRows = (n : ℕ) → (row_number (rows.row n) ≡ n → ⊥) → NoCallReturns n

-- and no reader refuses with one, wherever it begins in whatever list
module _ {A : Type 0} where
  abbrev pub ReadsRows : (ℕ → Read A) → Type 0
  ReadsRows rd = (at n : ℕ) → rd at ≡ refuse n → row_number (rows.row n) ≡ n

-- the readers that each edition has (02, CR 5)
pub record EditionRows (e : Edition) (z : Sizes) (s : List ℕ) : Type 0 where
  pub number : (w : ℕ) → ReadsRows (e.read w s)
  pub node : (low : ℕ) → ReadsRows (read_node e s low)
  pub map : ReadsRows (read_map e z s)
  pub schedule : ReadsRows (read_schedule e s)
  pub strategy : ReadsRows (read_strategy e s)
  pub params : ReadsRows (read_params e s)
  pub change : ReadsRows (read_change e z s)
  pub change_state : ReadsRows (read_state e z s)
  pub plan : ReadsRows (read_plan e z s)

pub record ReadersRows (z : Sizes) (s : List ℕ) : Type 1 where
  pub old : EditionRows fixed z s
  pub new : EditionRows variable z s
  -- what is read in the old edition alone
  pub handles : ReadsRows (read_handles z s)
  pub part : ReadsRows (read_part z s)
  pub ack : ReadsRows (read_ack z s)
  pub key_gen_message : ReadsRows (read_key_gen_message z s)
  pub signed_key_gen_msg : ReadsRows (read_signed_key_gen_msg z s)
  pub vote : ReadsRows (read_vote z s)
  pub signed_vote : ReadsRows (read_signed_vote z s)
  pub message : ReadsRows (read_message z s)
  pub contrib : (b : Budget) → ReadsRows (read_contrib z s b)
  -- of a whole input likewise
  pub whole_input : {A : Type 0} (rd : ℕ → Read A) → ReadsRows rd → (n : ℕ) → whole rd s ≡ refuse n → row_number (rows.row n) ≡ n
