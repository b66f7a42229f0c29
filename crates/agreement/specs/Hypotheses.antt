-- What demand 3 asks before it claims: full-length buffers and well-formed verdicts, a batch as a plan may be of, and calls made of bytes.
use Rattle.std.specs.Prelude.{ℕ, ◌+◌, ◌≤◌, ◌≡◌, List, Bool, false, length, eqb}
use Rattle.lists.specs.Lists.{Found, found, nothing}
use Rattle.bincode.specs.Read.{value}
use Rattle.bincode.specs.Sizes.{Sizes}
use Rattle.bincode.specs.Stands.{Bytes, All}
use Rattle.pub_key_map.specs.declared.Node.{Node}
use Rattle.pub_key_map.specs.PubKeyMap.{same_nodes}
use Rattle.batch.specs.Batch.{BatchOf}
use Rattle.internal_contrib.specs.InternalContrib.{ContribOf, read_batch}
use Rattle.internal_contrib.specs.Places.{message_count}
use Rattle.process_output.specs.Process.{BatchCall}
use Rattle.agreement.specs.Calls.{Call, batch_calls, Start, new_start, join_start}

-- a batch call lends full-length buffers, and its verdicts are well formed: one for each key message of the batch, none over 3
pub record FullBatch (z : Sizes) (b : BatchCall) : Type 0 where
  pub faults_lent : z.faults ≤ b.fault_places
  pub due_lent : z.due ≤ b.due_places
  pub verdicts_formed : (cs : List ContribOf) (c : ℕ) → read_batch z b.bytes ≡ value cs c
      → (length b.verdicts ≡ message_count cs) × All (λ (v : ℕ). v ≤ 3) b.verdicts

-- so do all batch calls of a list; nothing is asked of the other calls
abbrev pub Full : Sizes → List Call → Type 0
Full z cs = All (FullBatch z) (batch_calls cs)

-- A proper plan is of a batch that began a new era: the era after it is the one behind its epoch. The report alone does not say so, since a winner equal to the
-- candidate map is reported too and restarts nothing.
unfoldable pub began_era : BatchOf → ℕ → Bool
began_era b era = eqb era (b.epoch + 1)

-- And the batch left no older key generation. One that ran before the batch still runs after it exactly where the candidate map is still the same: a map that wins
-- over another is another, and the candidate map that wins again restarts nothing.
unfoldable pub left_older : Found (List Node) → Found (List Node) → Bool
left_older (found before) (found after) = same_nodes before after
left_older (found before) nothing = false
left_older nothing after = false

-- the batches of a list consist of bytes, as every batch that a host can lend
abbrev pub OfBytes : List Call → Type 0
OfBytes cs = All (λ (b : BatchCall). Bytes b.bytes) (batch_calls cs)

-- and so do the bytes that a node starts with
abbrev pub StartBytes : Start → Type 0
StartBytes (new_start id key era map params) = Bytes map × Bytes params
StartBytes (join_start places id key plan) = Bytes plan
