-- What holds of every state that is reached from an accepted start by any list of calls.
use Rattle.std.specs.Prelude.{ℕ, ◌+◌, ◌^◌, ◌≤◌, ◌<◌, ◌≡◌, List, [], true, length}
use Rattle.lists.specs.Lists.{Found, found, nothing, lookup}
use Rattle.bincode.specs.Sizes.{Sizes}
use Rattle.bincode.specs.Stands.{Bytes, Each, All}
use Rattle.pub_key_map.specs.declared.Node.{Node}
use Rattle.pub_key_map.specs.PubKeyMap.{MapOk}
use Rattle.network_info.specs.NetworkInfo.{is_member}
use Rattle.params.specs.Params.{ParamsOk}
use Rattle.votes.specs.Votes.{SignedVoteOf, SignedVoteOk}
use Rattle.board.specs.Board.{worked_out}
use Rattle.key_gen.specs.KeyGen.{ProposalOf}
use Rattle.key_gen_state.specs.KeyGenState.{KeyGenStateOf}
use Rattle.key_gen_message.specs.KeyGenMessage.{SignedKeyGenMsgOf, SignedOk}
use Rattle.dynamic_honey_badger.specs.State.{StateOf, Stamp, era_of, nodes_in}
use Rattle.agreement.specs.Calls.{Call, batch_call, vote_call, add_call, remove_call, message_call, due_call, Start, new_start, join_start}

-- a map: within its limit, ascending, without key 0, and not empty
pub record MapFormed (z : Sizes) (ns : List Node) : Type 0 where
  pub map_ok : MapOk z ns
  pub some : ns ≡ [] → ⊥

-- votes: by ascending voter, each voter in the map, each vote of the kind that bytes are read as
pub record VotesFormed (z : Sizes) (ns : List Node) (vs : List SignedVoteOf) : Type 0 where
  pub ascend : Each (λ (low : ℕ) (v : SignedVoteOf). v.voter + 1) (λ low v. low ≤ v.voter) 0 vs
  pub voters : All (λ (v : SignedVoteOf). is_member ns v.voter ≡ true) vs
  pub votes_ok : All (SignedVoteOk z) vs

-- a part: its commitment is a u64; its proposer and its acknowledgers are indices of the candidate map; acknowledgers ascend, and so do those whose value was
-- good, each of whom has acknowledged
pub record PartFormed (n : ℕ) (q : ProposalOf) : Type 0 where
  pub proposer_below : q.proposer < n
  pub commit_fits : q.commit < 256 ^ 8
  pub acks_ascend : Each (λ (low : ℕ) (j : ℕ). j + 1) (λ low j. low ≤ j) 0 q.acks
  pub acks_below : All (λ (j : ℕ). j < n) q.acks
  pub good_ascend : Each (λ (low : ℕ) (j : ℕ). j + 1) (λ low j. low ≤ j) 0 q.good
  pub good_acked : All (λ (j : ℕ). lookup (λ x. x) q.acks j ≡ found j) q.good
  pub good_below : All (λ (j : ℕ). j < n) q.good

-- key generation of the node with this id: its map is one, parts are by ascending proposer, the counts have as many places as two maps, and none is over n+2
pub record KeyGenFormed (z : Sizes) (id : ℕ) (g : KeyGenStateOf) : Type 0 where
  pub own_id : g.key_gen.our_id ≡ id
  pub nodes_formed : MapFormed z g.key_gen.nodes
  pub parts_ascend : Each (λ (low : ℕ) (q : ProposalOf). q.proposer + 1) (λ low q. low ≤ q.proposer) 0 g.key_gen.parts
  pub parts_formed : All (PartFormed (length g.key_gen.nodes)) g.key_gen.parts
  pub counts_places : length g.counts ≡ z.nodes + z.nodes
  pub counts_within : All (λ (c : ℕ). c ≤ length g.key_gen.nodes + 2) g.counts

abbrev pub RunningFormed : Sizes → ℕ → Found KeyGenStateOf → Type 0
RunningFormed z id (found g) = KeyGenFormed z id g
RunningFormed z id nothing = Unit {0}

abbrev pub StampFits : Found Stamp → Type 0
StampFits (found l) = (l.epoch < 256 ^ 8) × (l.era < 256 ^ 8)
StampFits nothing = Unit {0}

pub record Formed (z : Sizes) (s : StateOf) : Type 0 where
  pub our_id_fits : s.counter.our_id < 256 ^ 4
  pub our_key_fits : s.counter.our_key < 256 ^ 8
  pub era_fits : era_of s < 256 ^ 8
  pub nodes_formed : MapFormed z (nodes_in s)
  pub params_ok : ParamsOk s.params
  pub pending_formed : VotesFormed z (nodes_in s) s.counter.pending
  pub committed_formed : VotesFormed z (nodes_in s) s.counter.committed
  -- 02, CR 3: the board is the one worked out from the committed votes
  pub board_worked : s.counter.board ≡ worked_out s.counter.committed
  pub key_gen_formed : RunningFormed z s.counter.our_id s.key_gen
  -- stored messages are of the current era, of the kind that bytes are read as, and within the store's limit
  pub store_era : All (λ (m : SignedKeyGenMsgOf). m.era ≡ era_of s) s.store
  pub store_ok : All (SignedOk z) s.store
  pub store_within : length s.store ≤ z.store
  -- epoch and era of the last report are u64
  pub last_fits : StampFits s.last

-- calls as a host can make them: bytes are bytes, ids are u32, other numbers u64
abbrev pub CallFits : Call → Type 0
CallFits (batch_call b) = (b.era < 256 ^ 8) × (b.inner < 256 ^ 8) × Bytes b.bytes × Bytes b.verdicts
CallFits (vote_call bytes) = Bytes bytes
CallFits (add_call id key) = (id < 256 ^ 4) × (key < 256 ^ 8)
CallFits (remove_call id) = id < 256 ^ 4
CallFits (message_call sender bytes) = (sender < 256 ^ 4) × Bytes bytes
CallFits (due_call bytes) = Bytes bytes

abbrev pub StartFits : Start → Type 0
StartFits (new_start id key era map params) = (id < 256 ^ 4) × (key < 256 ^ 8) × (era < 256 ^ 8) × Bytes map × Bytes params
StartFits (join_start places id key plan) = (id < 256 ^ 4) × (key < 256 ^ 8) × Bytes plan
