-- The votes of a contribution over entries: what the loop holds before and after, as the definitions of crates/steps see it.
use Rattle.std.specs.Prelude.{ℕ, ◌+◌, ◌≤◌, ◌≡◌, List, Bool, false, cond, eqb, length}
use Rattle.std.specs.declared.option.Option.{Option}
use Rattle.bincode.specs.Read.{value}
use Rattle.bincode.specs.Items.{foldl, many}
use Rattle.bincode.specs.Sizes.{base}
use Rattle.pub_key_map.specs.declared.Node.{Node}
use Rattle.network_info.specs.NetworkInfo.{key_of}
use Rattle.fault_log.specs.declared.FaultKind.{FaultKind}
use Rattle.fault_log.specs.declared.FaultLog.{FaultLog}
use Rattle.fault_log.specs.FaultLog.{faults_of}
use Rattle.votes.specs.declared.VoteHead.{VoteHead}
use Rattle.votes.specs.VoteHead.{head_of}
use Rattle.votes.specs.Votes.{SignedVoteOf, read_signed_vote}
use Rattle.vote_counter.specs.VoteCounter.{is_key}
use Rattle.internal_contrib.specs.declared.Contrib.{Contrib}
use Rattle.steps.specs.Steps.{WorkOf, committed_vote}
use Rattle.commit.specs.declared.Terms.{Terms}
use Rattle.commit.specs.declared.tally.Tally.{Tally}
use Rattle.commit.specs.Arisen.{blamed_in}
use Rattle.commit.specs.Tally.{Begun, VotesHeld}
use Rattle.commit.specs.Terms.{nodes_by}

-- a vote's era is the current one, and its signature is under its voter's current key
unfoldable pub good_head : ℕ → List Node → VoteHead → Bool
good_head era ns h = cond (eqb h.era era) (is_key h.sig (key_of ns h.voter)) false

-- what the loop holds at a moment of the work w, of a batch that began with committed votes and board `start`
pub record HeldAt (t : Terms) (start : Begun) (w : WorkOf) (tally : Tally) (log : FaultLog) : Type 0 where
  pub faults : faults_of log ≡ w.faults
  pub votes : VotesHeld t.bytes.now start w t.era (nodes_by t) tally

-- a vote with a head, which stands at a place, was committed: whatever work's votes were held before, what committing makes of it has its votes held after, and
-- its faults are one more, where there is one
abbrev pub VoteCommitted : Terms → ℕ → VoteHead → Tally → Tally → Option FaultKind → Type 0
VoteCommitted t place h tally tally' fault =
    (v : SignedVoteOf) (c : ℕ) → read_signed_vote base t.bytes.now place ≡ value v c → h ≡ head_of v
    → (w : WorkOf) (start : Begun) (proposer : ℕ) → VotesHeld t.bytes.now start w t.era (nodes_by t) tally
    → VotesHeld t.bytes.now start (committed_vote base proposer w v) t.era (nodes_by t) tally'
    × (blamed_in base proposer fault w.faults ≡ (committed_vote base proposer w v).faults)

-- the votes of a contribution, which stand within the bytes, were committed: whatever work was held before, what committing makes of it is held after
abbrev pub VotesCommitted : Terms → Contrib → Tally → FaultLog → Tally → FaultLog → Type 0
VotesCommitted t k tally log tally' log' =
    k.votes.at ≤ length t.bytes.now → (vs : List SignedVoteOf) (c : ℕ) → many (read_signed_vote base t.bytes.now) k.votes.count (k.votes.at + 8) ≡ value vs c
    → (w : WorkOf) (start : Begun) → HeldAt t start w tally log → HeldAt t start (foldl (committed_vote base k.id) w vs) tally' log'
