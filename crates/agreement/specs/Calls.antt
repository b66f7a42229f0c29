-- A node's whole list of calls: what the host passes, what each call leaves, and which batches of it are shared.
use Rattle.std.specs.Prelude.{ℕ, List, [], ◌∷◌, map}
use Rattle.lists.specs.Lists.{Found, found, nothing}
use Rattle.bincode.specs.Outcome.{Outcome, done, refused}
use Rattle.bincode.specs.Sizes.{Sizes}
use Rattle.dynamic_honey_badger.specs.State.{StateOf, Stamp, started, joined, Joined}
use Rattle.dynamic_honey_badger.specs.OwnVotes.{vote_for_bytes, vote_to_add, vote_to_remove}
use Rattle.dynamic_honey_badger.specs.Received.{received, returned}
use Rattle.process_output.specs.Process.{BatchCall, ReportOf, processed}
use Rattle.reference.specs.Step.{SharedBatch, RefReport, unless_passed}
use Rattle.agreement.specs.Shared.{is_passed, shared_answer}

-- each call as its contract cites it
pub data Call : Type 0 where
  -- era and inner epoch, batch bytes, verdict bytes, both lent lengths
  batch_call : BatchCall → Call
  -- own votes: a change as bytes; an id with its key; an id
  vote_call : List ℕ → Call
  add_call : ℕ → ℕ → Call
  remove_call : ℕ → Call
  -- a received message: its sender, its bytes
  message_call : ℕ → List ℕ → Call
  -- a due item handed back
  due_call : List ℕ → Call

-- the state that a call leaves, refused or not
abbrev pub after : Sizes → StateOf → Call → StateOf
after z s (batch_call b) = (processed z s b).state
after z s (vote_call bytes) = (vote_for_bytes z s bytes).state
after z s (add_call id key) = (vote_to_add z s id key).state
after z s (remove_call id) = (vote_to_remove z s id).state
after z s (message_call sender bytes) = (received z s sender bytes).state
after z s (due_call bytes) = (returned z s bytes).state

unfoldable pub run : Sizes → StateOf → List Call → StateOf
run z s [] = s
run z s (c ∷ cs) = run z (after z s c) cs

-- the shared batches of a list: those that are not passed over, each with its era and inner epoch
abbrev pub as_shared : BatchCall → SharedBatch
as_shared b = record { era = b.era; inner = b.inner; bytes = b.bytes }

unfoldable pub shared_batches : Sizes → StateOf → List Call → List SharedBatch
shared_batches z s [] = []
shared_batches z s (batch_call b ∷ cs) =
    unless_passed (is_passed s b (processed z s b).answer) (as_shared b) (shared_batches z (processed z s b).state cs)
shared_batches z s (vote_call bytes ∷ cs) = shared_batches z (after z s (vote_call bytes)) cs
shared_batches z s (add_call id key ∷ cs) = shared_batches z (after z s (add_call id key)) cs
shared_batches z s (remove_call id ∷ cs) = shared_batches z (after z s (remove_call id)) cs
shared_batches z s (message_call sender bytes ∷ cs) = shared_batches z (after z s (message_call sender bytes)) cs
shared_batches z s (due_call bytes ∷ cs) = shared_batches z (after z s (due_call bytes)) cs

-- and what they are answered with, less what is the node's own
unfoldable pub answers : Sizes → StateOf → List Call → List (Outcome RefReport)
answers z s [] = []
answers z s (batch_call b ∷ cs) =
    unless_passed (is_passed s b (processed z s b).answer) (shared_answer (processed z s b).answer) (answers z (processed z s b).state cs)
answers z s (vote_call bytes ∷ cs) = answers z (after z s (vote_call bytes)) cs
answers z s (add_call id key ∷ cs) = answers z (after z s (add_call id key)) cs
answers z s (remove_call id ∷ cs) = answers z (after z s (remove_call id)) cs
answers z s (message_call sender bytes ∷ cs) = answers z (after z s (message_call sender bytes)) cs
answers z s (due_call bytes ∷ cs) = answers z (after z s (due_call bytes)) cs

-- the batch calls of a list, and their batches, whatever became of them
unfoldable pub batch_calls : List Call → List BatchCall
batch_calls [] = []
batch_calls (batch_call b ∷ cs) = b ∷ batch_calls cs
batch_calls (vote_call bytes ∷ cs) = batch_calls cs
batch_calls (add_call id key ∷ cs) = batch_calls cs
batch_calls (remove_call id ∷ cs) = batch_calls cs
batch_calls (message_call sender bytes ∷ cs) = batch_calls cs
batch_calls (due_call bytes ∷ cs) = batch_calls cs

abbrev pub given_batches : List Call → List SharedBatch
given_batches cs = map as_shared (batch_calls cs)

-- the reports that the batch calls of a list returned, in order, and the stamp that the last of them has
module _ {A : Type 0} where
  abbrev pub report_then : Outcome A → List A → List A
  report_then (done r) rs = r ∷ rs
  report_then (refused n) rs = rs

unfoldable pub reports : Sizes → StateOf → List Call → List ReportOf
reports z s [] = []
reports z s (batch_call b ∷ cs) = report_then (processed z s b).answer (reports z (processed z s b).state cs)
reports z s (vote_call bytes ∷ cs) = reports z (after z s (vote_call bytes)) cs
reports z s (add_call id key ∷ cs) = reports z (after z s (add_call id key)) cs
reports z s (remove_call id ∷ cs) = reports z (after z s (remove_call id)) cs
reports z s (message_call sender bytes ∷ cs) = reports z (after z s (message_call sender bytes)) cs
reports z s (due_call bytes ∷ cs) = reports z (after z s (due_call bytes)) cs

abbrev pub stamp_of : ReportOf → Stamp
stamp_of r = record { epoch = r.batch.epoch; era = r.batch.era }

unfoldable pub last_stamp : List ReportOf → Found Stamp
last_stamp [] = nothing
last_stamp (r ∷ []) = found (stamp_of r)
last_stamp (r ∷ (q ∷ rs)) = last_stamp (q ∷ rs)

-- how a node starts: `new`, or joining
pub data Start : Type 0 where
  new_start : ℕ → ℕ → ℕ → List ℕ → List ℕ → Start
  join_start : ℕ → ℕ → ℕ → List ℕ → Start

abbrev pub joined_state : Outcome Joined → Outcome StateOf
joined_state (done j) = done j.state
joined_state (refused n) = refused n

abbrev pub start_state : Sizes → Start → Outcome StateOf
start_state z (new_start id key era map params) = started z id key era map params
start_state z (join_start places id key plan) = joined_state (joined z places id key plan)
