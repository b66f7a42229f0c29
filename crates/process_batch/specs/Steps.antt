-- A batch call, step by step: all rows but 7, steps 2 to 5, row 7 with steps 6 to 8, and the whole; each tied to the batch step's own definition.
use Rattle.std.specs.Prelude.{ℕ, ◌+◌, ◌≤◌, ◌≡◌, List, true, false, length, Ok, Err}
use Rattle.std.specs.declared.option.Option.{Option}
use Rattle.std.specs.declared.result.Result.{Result}
use Rattle.util.specs.MaxFaulty.{max_faulty}
use Rattle.bincode.specs.Outcome.{Outcome, done, refused}
use Rattle.bincode.specs.Rows.{row_number}
use Rattle.bincode.specs.Sizes.{base}
use Rattle.bincode.specs.declared.Refusal.{Refusal}
use Rattle.bincode.specs.declared.Refusal.TheVariants.{EmptyMapWins}
use Rattle.pub_key_map.specs.declared.Node.{Node}
use Rattle.pub_key_map.specs.PubKeyMap.{nodes_of}
use Rattle.fault_log.specs.FaultLog.{faults_of}
use Rattle.filled.specs.Numbers.{owed}
use Rattle.key_gen_state.specs.declared.KeyGenState.{KeyGenState}
use Rattle.key_gen_state.specs.KeyGenState as running
use Rattle.vote_counter.specs.declared.VoteCounter.{VoteCounter}
use Rattle.vote_counter.specs.VoteCounter.{counter_of, with_committed}
use Rattle.internal_contrib.specs.declared.BatchIndex.{BatchIndex}
use Rattle.internal_contrib.specs.InternalContrib.{ContribOf, read_batch}
use Rattle.internal_contrib.specs.Index.{contribs_in, placed_in, EachKept}
use Rattle.dynamic_honey_badger.specs.declared.DynamicHoneyBadger.{DynamicHoneyBadger}
use Rattle.dynamic_honey_badger.specs.State.{StateOf, state_of}
use Rattle.steps.specs.Steps.{WorkOf, committed}
use Rattle.commit.specs.declared.Arisen.{Arisen}
use Rattle.commit.specs.declared.Committed.{Committed}
use Rattle.commit.specs.declared.tally.Tally.{Tally}
use Rattle.commit.specs.Arisen.{acks_of}
use Rattle.commit.specs.Batch.{Holds}
use Rattle.commit.specs.Tally.{entries_of, any_fresh, begun_with, VotesHeld}
use Rattle.decision.specs.declared.Decision.{Decision}
use Rattle.decision.specs.declared.Parts.{Parts}
use Rattle.decision.specs.Decision.{decide, decided_of, empty_wins}
use Rattle.process_output.specs.Opening.{opened}
use Rattle.process_output.specs.Process.{BatchCall, processed, denied}
use Rattle.process_batch.specs.declared.BatchTime.{BatchTime}
use Rattle.process_batch.specs.declared.Told.{Told}
use Rattle.process_batch.specs.Answer.{Summary, summed, held_summary}
use Rattle.process_batch.specs.Lent.{faults_in, due_in}

-- when a batch is, in an era: the era that may begin is the epoch behind it
pub record IsAt (t : BatchTime) (era : ℕ) : Type 0 where
  pub by_era : t.era ≡ era
  pub by_next : t.next_era ≡ t.epoch + 1

-- all rows but 7, of a call in an era
abbrev pub BegunAs : Result (BatchTime × BatchIndex) Refusal → ℕ → BatchCall → Type 0
BegunAs (Ok (t, index)) era b = (opened base era b ≡ done t.epoch) × (contribs_in index ≡ placed_in (read_batch base b.bytes)) × IsAt t era
BegunAs (Err n) era b = opened base era b ≡ refused (row_number n)

-- steps 2 to 5 of the contributions that an index notes, from every state with this counter and this key generation
abbrev pub CommittedAs : List ℕ → List ℕ → VoteCounter → Option KeyGenState → BatchIndex → Committed → Arisen → Type 0
CommittedAs bytes verdicts c k index d r =
    (st : StateOf) (cs : List ContribOf) → st.counter ≡ counter_of c → st.key_gen ≡ running.state_of k → EachKept base bytes (contribs_in index) cs
    → Holds bytes c.era (nodes_of c.pub_keys) verdicts (begun_with (counter_of c)) (committed base st verdicts cs) d r

-- what a batch brings up is no more than a report has places for
abbrev pub FewArisen : Arisen → Type 0
FewArisen r = (length (faults_of r.faults) ≤ base.faults) × (length (acks_of r) ≤ base.due)

-- nothing is decided: no vote of the batch stayed, key generation is not ready, and at most f votes stand
pub record Quiet (c : Committed) (ns : List Node) : Type 0 where
  pub none_stayed : any_fresh (entries_of c.tally) ≡ false
  pub not_ready : running.ready_state (running.state_of c.state) ≡ false
  pub few : length (entries_of c.tally) ≤ max_faulty (length ns)

-- the work that the loop over contributions may have held, where these parts come to steps 6 to 8; their votes are those before the batch
pub record WorkBy (bytes : List ℕ) (p : Parts) (t : Tally) (w : WorkOf) : Type 0 where
  pub votes : VotesHeld bytes (begun_with (counter_of p.vote_counter)) w p.vote_counter.era (nodes_of p.vote_counter.pub_keys) t
  pub by_counter : w.state.counter ≡ with_committed (counter_of p.vote_counter) w.state.counter.committed w.state.counter.board
  pub by_params : w.state.params ≡ p.params
  pub by_key_gen : w.state.key_gen ≡ running.state_of p.key_gen_state

-- row 7 refuses every such work; or a decision, with the parts that it left, is that of every such work
abbrev pub Voids : List ℕ → Parts → Tally → Type 0
Voids bytes p t = (w : WorkOf) → WorkBy bytes p t w → empty_wins w.state ≡ true

abbrev pub Decides : List ℕ → Parts → Tally → ℕ → Parts → Decision → Type 0
Decides bytes p t era p' d = (w : WorkOf) → WorkBy bytes p t w → (empty_wins w.state ≡ false) × (decided_of era w.state.store w.state.last p' d ≡ decide base era w.state)

abbrev pub SettledAs : List ℕ → Parts → Tally → ℕ → Parts → Result Decision Refusal → Type 0
SettledAs bytes p t era p' (Ok d) = Decides bytes p t era p' d
SettledAs bytes p t era p' (Err n) = (n ≡ EmptyMapWins) × Voids bytes p t

-- the whole on a state s: its end, what is told, and what the call's own lists hold; a refusal leaves the very state
abbrev pub StepsDone : DynamicHoneyBadger → BatchCall → Result Told Refusal → DynamicHoneyBadger → Arisen → Type 0
StepsDone s b (Ok t) s' r =
    let x = processed base (state_of s) b in
    (state_of s' ≡ x.state) × (◌≡◌ {A = Outcome Summary} (done (held_summary t.report)) (summed x.answer)) × (faults_of r.faults ≡ faults_in x.answer)
    × (owed s.vote_counter.era (acks_of r) t.part ≡ due_in x.answer) × (t.report.faults ≤ base.faults)
StepsDone s b (Err n) s' r = (processed base (state_of s) b ≡ denied (state_of s) (row_number n)) × (s' ≡ s)
