-- A batch under document 01's order of checks on a vote (number, era, signature), kept here as definitions; and which faults of the present order (02, CR 6: era,
-- signature, number) it has not: those of a vote whose number is old and whose era or signature is wrong. A list of Booleans, one for each fault in order, marks them.
use Rattle.std.specs.Prelude.{ℕ, ◌+◌, List, [], ◌∷◌, ◌++◌, Bool, false, cond}
use Rattle.bincode.specs.Items.{foldl}
use Rattle.bincode.specs.Outcome.{Outcome, done, refused}
use Rattle.bincode.specs.Read.{Read, value, refuse}
use Rattle.bincode.specs.Sizes.{Sizes}
use Rattle.votes.specs.Votes.{SignedVoteOf}
use Rattle.vote_counter.specs.VoteCounter.{VoteEffect, stored, nothing_new, fault, obsolete, committed_effect}
use Rattle.vote_counter.specs.NumberFirst.{added_number_first}
use Rattle.key_gen_message.specs.KeyGenMessage.{SignedKeyGenMsgOf}
use Rattle.internal_contrib.specs.InternalContrib.{ContribOf, read_batch}
use Rattle.dynamic_honey_badger.specs.Asked.{row5}
use Rattle.dynamic_honey_badger.specs.State.{StateOf, era_of, nodes_in}
use Rattle.steps.specs.Steps.{WorkOf, voted_as, committed_vote, Told, quiet, owed, blamed_proposer, blamed_signer, message_done, first_verdict, committed_message, committed_contrib, begun}
use Rattle.decision.specs.Decision.{empty_wins}
use Rattle.process_output.specs.Refusals.{batch_row1, batch_row4, batch_row15}
use Rattle.process_output.specs.Process.{BatchCall, ReportOf, ProcessedOf, denied, finished}

-- what is left of a list without its marked elements
module _ {A : Type 0} where
  abbrev pub unmarked : List Bool → List A → List A
  unmarked [] xs = xs
  unmarked (m ∷ ms) [] = []
  unmarked (m ∷ ms) (x ∷ xs) = cond m (unmarked ms xs) (x ∷ unmarked ms xs)

-- the marks of the faults that arise as the elements of a list are gone through
module _ {A : Type 0} (next : WorkOf → A → WorkOf) (marks : WorkOf → A → List Bool) where
  abbrev pub all_marks : WorkOf → List A → List Bool
  all_marks w [] = []
  all_marks w (x ∷ xs) = marks w x ++ all_marks (next w x) xs

-- a vote's fault is marked where its number is old; a key message's never is
abbrev pub marked_if : Bool → VoteEffect → List Bool
marked_if old stored = []
marked_if old nothing_new = []
marked_if old (fault k) = old ∷ []

unfoldable pub vote_marks : WorkOf → SignedVoteOf → List Bool
vote_marks w v = marked_if (obsolete w.state.counter.committed v) (committed_effect w.state.counter v)

abbrev pub never_marked : Told → List Bool
never_marked quiet = []
never_marked (owed i) = []
never_marked (blamed_proposer k) = false ∷ []
never_marked (blamed_signer k) = false ∷ []

unfoldable pub message_marks : WorkOf → SignedKeyGenMsgOf → List Bool
message_marks w m = never_marked (message_done (era_of w.state) (nodes_in w.state) w.state.key_gen m (first_verdict w.verdicts)).told

module _ (z : Sizes) where
  -- 01, steps 2 to 5, with a vote's number looked at first; key messages as ever
  unfoldable pub vote_number_first : ℕ → WorkOf → SignedVoteOf → WorkOf
  vote_number_first proposer w v = voted_as z proposer w (added_number_first z w.state.counter v)

  unfoldable pub contrib_number_first : WorkOf → ContribOf → WorkOf
  contrib_number_first w c = foldl (committed_message z c.id) (foldl (vote_number_first c.id) w c.votes) c.messages

  unfoldable pub committed_number_first : StateOf → List ℕ → List ContribOf → WorkOf
  committed_number_first s verdicts cs = foldl contrib_number_first (begun s verdicts) cs

  -- votes before key messages, contributions in their order
  unfoldable pub contrib_marks : WorkOf → ContribOf → List Bool
  contrib_marks w c =
      all_marks (committed_vote z c.id) vote_marks w c.votes
      ++ all_marks (committed_message z c.id) message_marks (foldl (committed_vote z c.id) w c.votes) c.messages

  unfoldable pub batch_marks : StateOf → List ℕ → List ContribOf → List Bool
  batch_marks s verdicts cs = all_marks (committed_contrib z) contrib_marks (begun s verdicts) cs

-- the batch call in that order: the same rows, and a report of what those steps leave
module _ (z : Sizes) (s : StateOf) (b : BatchCall) where
  unfoldable pub contribs_number_first : List ContribOf → ProcessedOf
  contribs_number_first cs =
      cond (batch_row4 cs b.verdicts) (denied s 4)
      (cond (batch_row15 (era_of s) b.era) (denied s 15)
      (cond (row5 (era_of s + b.inner)) (denied s 5)
      (cond (empty_wins (committed_number_first z s b.verdicts cs).state) (denied s 7)
      (finished z s (era_of s + b.inner) (committed_number_first z s b.verdicts cs)))))

  abbrev pub read_number_first : Read (List ContribOf) → ProcessedOf
  read_number_first (value cs c) = contribs_number_first cs
  read_number_first (refuse n) = denied s n

  unfoldable pub processed_number_first : ProcessedOf
  processed_number_first = cond (batch_row1 z b.fault_places b.due_places) (denied s 1) (read_number_first (read_batch z b.bytes))

  -- the marks of a batch that was read
  abbrev pub marks_read : Read (List ContribOf) → List Bool
  marks_read (value cs c) = batch_marks z s b.verdicts cs
  marks_read (refuse n) = []

  unfoldable pub call_marks : List Bool
  call_marks = marks_read (read_batch z b.bytes)

-- an answer with its marked faults struck out
abbrev pub struck : List Bool → Outcome ReportOf → Outcome ReportOf
struck ms (done r) = done (record { batch = r.batch; faults = unmarked ms r.faults; due = r.due; recipe = r.recipe })
struck ms (refused n) = refused n
