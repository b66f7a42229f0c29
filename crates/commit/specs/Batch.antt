-- Steps 2 to 5 over the bytes of a batch: what the loop over contributions holds of the work.
use Rattle.std.specs.Prelude.{ℕ, ◌≤◌, ◌≡◌, List, map, length, drop}
use Rattle.bincode.specs.Sizes.{base}
use Rattle.pub_key_map.specs.declared.Node.{Node}
use Rattle.lists.specs.Lists.{Found}
use Rattle.fault_log.specs.FaultLog.{faults_of}
use Rattle.key_gen_state.specs.KeyGenState.{KeyGenStateOf}
use Rattle.key_gen_state.specs.KeyGenState as running
use Rattle.internal_contrib.specs.declared.BatchIndex.{BatchIndex}
use Rattle.internal_contrib.specs.InternalContrib.{ContribOf}
use Rattle.internal_contrib.specs.Index.{contribs_in, EachKept}
use Rattle.dynamic_honey_badger.specs.State.{StateOf, era_of, nodes_in}
use Rattle.steps.specs.Steps.{WorkOf, committed}
use Rattle.due.specs.Due.{ack_item}
use Rattle.commit.specs.declared.Arisen.{Arisen}
use Rattle.commit.specs.declared.Committed.{Committed}
use Rattle.commit.specs.declared.tally.Tally.{Tally}
use Rattle.commit.specs.Arisen.{acks_of}
use Rattle.commit.specs.Handled.{MessagesHeld}
use Rattle.commit.specs.Tally.{Begun, begun_with, VotesHeld, entries_of, kept_entry}

-- what is held of the work w, of a batch with bytes s that began with committed votes and board `start`
pub record Holds (s : List ℕ) (era : ℕ) (ns : List Node) (verdicts : List ℕ) (start : Begun) (w : WorkOf) (d : Committed) (r : Arisen) : Type 0 where
  pub faults : faults_of r.faults ≡ w.faults
  pub due : map (ack_item era) (acks_of r) ≡ w.due
  pub votes : VotesHeld s start w era ns d.tally
  pub messages : MessagesHeld w era ns (running.state_of d.state) (drop d.judged verdicts)

-- the contributions that an index notes were committed, from a state with this era, map and key generation, whose committed votes the tally holds, whatever else
-- the state holds
abbrev pub BatchCommitted : List ℕ → ℕ → List Node → List ℕ → Tally → Found KeyGenStateOf → BatchIndex → Committed → Arisen → Type 0
BatchCommitted s era ns verdicts t g index d r =
    (st : StateOf) (cs : List ContribOf) → era_of st ≡ era → nodes_in st ≡ ns → st.key_gen ≡ g
    → entries_of t ≡ map kept_entry st.counter.committed → length (entries_of t) ≤ base.nodes → EachKept base s (contribs_in index) cs
    → Holds s era ns verdicts (begun_with st.counter) (committed base st verdicts cs) d r
