-- The key messages of a contribution: what the loop holds before and after, as the definitions of crates/steps see it.
use Rattle.std.specs.Prelude.{ℕ, ◌+◌, ◌≤◌, ◌≡◌, List, map, length, drop}
use Rattle.std.specs.declared.option.Option.{Option}
use Rattle.lists.specs.Lists.{Found}
use Rattle.bincode.specs.Read.{value}
use Rattle.bincode.specs.Items.{foldl, many}
use Rattle.bincode.specs.Sizes.{base}
use Rattle.pub_key_map.specs.declared.Node.{Node}
use Rattle.fault_log.specs.FaultLog.{faults_of}
use Rattle.key_gen_state.specs.declared.KeyGenState.{KeyGenState}
use Rattle.key_gen_state.specs.KeyGenState.{KeyGenStateOf, state_of}
use Rattle.key_gen_message.specs.KeyGenMessage.{SignedKeyGenMsgOf, read_signed_key_gen_msg}
use Rattle.internal_contrib.specs.declared.Contrib.{Contrib}
use Rattle.dynamic_honey_badger.specs.State.{era_of, nodes_in}
use Rattle.steps.specs.Steps.{WorkOf, committed_message}
use Rattle.due.specs.Due.{ack_item}
use Rattle.commit.specs.declared.Arisen.{Arisen}
use Rattle.commit.specs.declared.Terms.{Terms}
use Rattle.commit.specs.Arisen.{acks_of}
use Rattle.commit.specs.Terms.{nodes_by}

-- what key messages need and change: era, map, key generation, and the verdicts to come
pub record MessagesHeld (w : WorkOf) (era : ℕ) (ns : List Node) (g : Found KeyGenStateOf) (verdicts : List ℕ) : Type 0 where
  pub by_era : era_of w.state ≡ era
  pub by_map : nodes_in w.state ≡ ns
  pub by_key_gen : w.state.key_gen ≡ g
  pub by_verdicts : w.verdicts ≡ verdicts

-- what the loop holds at a moment of the work w, where so many verdicts are used; due items are all acks of the era
pub record HeldAt (t : Terms) (w : WorkOf) (state : Option KeyGenState) (judged : ℕ) (r : Arisen) : Type 0 where
  pub faults : faults_of r.faults ≡ w.faults
  pub due : map (ack_item t.era) (acks_of r) ≡ w.due
  pub messages : MessagesHeld w t.era (nodes_by t) (state_of state) (drop judged t.verdicts.now)

-- the messages of a contribution, which stand within the bytes, were committed: whatever work was held before, what committing makes of it is held after
abbrev pub MessagesCommitted : Terms → Contrib → Option KeyGenState → ℕ → Arisen → Option KeyGenState → ℕ → Arisen → Type 0
MessagesCommitted t k state judged r state' judged' r' =
    k.messages.at ≤ length t.bytes.now
    → (ms : List SignedKeyGenMsgOf) (c : ℕ) → many (read_signed_key_gen_msg base t.bytes.now) k.messages.count (k.messages.at + 8) ≡ value ms c
    → (w : WorkOf) → HeldAt t w state judged r → HeldAt t (foldl (committed_message base k.id) w ms) state' judged' r'
