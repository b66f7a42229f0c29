-- The vote counter: pending and committed votes of one era, and who wins (01, steps 3 and 7, and "Own votes").
use Rattle.std.specs.Prelude.{ℕ, ◌+◌, List, [], map, Bool, true, false, cond, length, leb, eqb}
use Rattle.lists.specs.Lists.{Found, found, nothing, map_found, lookup, insert_within, takes_place, filter}
use Rattle.util.specs.MaxFaulty.{max_faulty}
use Rattle.bincode.specs.Sizes.{Sizes}
use Rattle.bincode.specs.Outcome.{Outcome, done, refused}
use Rattle.pub_key_map.specs.declared.Node.{Node}
use Rattle.pub_key_map.specs.declared.PubKeyMap.{PubKeyMap}
use Rattle.pub_key_map.specs.PubKeyMap.{nodes_of}
use Rattle.network_info.specs.NetworkInfo.{key_of}
use Rattle.change.specs.Change.{ChangeOf, same_change}
use Rattle.votes.specs.Votes.{SignedVoteOf}
use Rattle.signed_votes.specs.SignedVotes.{voter_of, num_of, votes_of, no_votes}
use Rattle.winner.specs.Winner.{winner, winner_place}
use Rattle.winner.specs.Support.{supporters}
use Rattle.board.specs.declared.BoardRow.{BoardRow}
use Rattle.board.specs.Board.{rows_of, no_board, cast_of, worked_out, StandingOf, standing_at}
use Rattle.fault_log.specs.declared.FaultKind.{FaultKind}
use Rattle.fault_log.specs.declared.FaultKind.TheVariants.{InvalidVoteSignature, InvalidCommittedVote}
use Rattle.vote_counter.specs.declared.VoteCounter.{VoteCounter}

-- own id and key, the current map, the era, both kinds of votes by ascending voter, and the board of the committed ones (02, CR 3)
pub record CounterOf : Type 0 where
  pub our_id : ℕ
  pub our_key : ℕ
  pub nodes : List Node
  pub era : ℕ
  pub pending : List SignedVoteOf
  pub committed : List SignedVoteOf
  pub board : List BoardRow

abbrev pub new_counter : ℕ → ℕ → List Node → ℕ → CounterOf
new_counter id key ns era = record { our_id = id; our_key = key; nodes = ns; era = era; pending = []; committed = []; board = [] }

abbrev pub with_pending : CounterOf → List SignedVoteOf → CounterOf
with_pending c vs = record { our_id = c.our_id; our_key = c.our_key; nodes = c.nodes; era = c.era; pending = vs; committed = c.committed; board = c.board }

-- committed votes and the board beside them
abbrev pub with_committed : CounterOf → List SignedVoteOf → List BoardRow → CounterOf
with_committed c vs rs = record { our_id = c.our_id; our_key = c.our_key; nodes = c.nodes; era = c.era; pending = c.pending; committed = vs; board = rs }

-- a vote numbered at or below the voter's stored one is obsolete
abbrev pub at_or_below : ℕ → Found ℕ → Bool
at_or_below num (found old) = leb num old
at_or_below num nothing = false

unfoldable pub obsolete : List SignedVoteOf → SignedVoteOf → Bool
obsolete vs v = at_or_below (num_of v) (map_found num_of (lookup voter_of vs (voter_of v)))

-- a vote's signature is under its voter's current key
abbrev pub is_key : ℕ → Found ℕ → Bool
is_key sig (found key) = eqb key sig
is_key sig nothing = false

unfoldable pub valid_vote : List Node → SignedVoteOf → Bool
valid_vote ns v = is_key v.sig (key_of ns (voter_of v))

-- what one vote does: it is stored, it changes nothing, or it is a fault
pub data VoteEffect : Type 0 where
  stored : VoteEffect
  nothing_new : VoteEffect
  fault : FaultKind → VoteEffect

-- step 3, as 02, CR 6 orders it: era, then signature, then number; the votes are those committed before
unfoldable pub vote_effect : ℕ → List Node → List SignedVoteOf → SignedVoteOf → VoteEffect
vote_effect era ns vs v =
    cond (eqb v.vote.era era)
    (cond (valid_vote ns v) (cond (obsolete vs v) nothing_new stored) (fault InvalidCommittedVote))
    (fault InvalidCommittedVote)

abbrev pub committed_effect : CounterOf → SignedVoteOf → VoteEffect
committed_effect c v = vote_effect c.era c.nodes c.committed v

-- a received vote: of another era or obsolete it is nothing, before its signature is looked at
unfoldable pub pending_effect : CounterOf → SignedVoteOf → VoteEffect
pending_effect c v =
    cond (eqb v.vote.era c.era)
    (cond (obsolete c.pending v) nothing_new (cond (valid_vote c.nodes v) stored (fault InvalidVoteSignature)))
    nothing_new

pub record Added : Type 0 where
  pub counter : CounterOf
  pub effect : VoteEffect

abbrev pub after_pending : Sizes → CounterOf → SignedVoteOf → VoteEffect → Added
after_pending z c v stored = record { counter = with_pending c (insert_within voter_of z.nodes v c.pending); effect = stored }
after_pending z c v nothing_new = record { counter = c; effect = nothing_new }
after_pending z c v (fault k) = record { counter = c; effect = fault k }

-- what a committed vote leaves of the committed votes, and whether it took a place among them (a full array has none for another voter)
pub record CommittedOf : Type 0 where
  pub votes : List SignedVoteOf
  pub taken : Bool
  pub effect : VoteEffect

abbrev pub committed_by : Sizes → List SignedVoteOf → SignedVoteOf → VoteEffect → CommittedOf
committed_by z vs v stored = record { votes = insert_within voter_of z.nodes v vs; taken = takes_place voter_of z.nodes (voter_of v) vs; effect = stored }
committed_by z vs v nothing_new = record { votes = vs; taken = false; effect = nothing_new }
committed_by z vs v (fault k) = record { votes = vs; taken = false; effect = fault k }

unfoldable pub commit_vote : Sizes → ℕ → List Node → List SignedVoteOf → SignedVoteOf → CommittedOf
commit_vote z era ns vs v = committed_by z vs v (vote_effect era ns vs v)

-- 02, CR 3: the board changes with the committed votes: where one took a place it is worked out from all of them, else it stays
abbrev pub board_after : Bool → List SignedVoteOf → List BoardRow → List BoardRow
board_after taken vs rs = cond taken (worked_out vs) rs

abbrev pub added_to : CounterOf → CommittedOf → Added
added_to c r = record { counter = with_committed c r.votes (board_after r.taken r.votes c.board); effect = r.effect }

abbrev pub after_committed : Sizes → CounterOf → SignedVoteOf → VoteEffect → Added
after_committed z c v e = added_to c (committed_by z c.committed v e)

unfoldable pub add_pending : Sizes → CounterOf → SignedVoteOf → Added
add_pending z c v = after_pending z c v (pending_effect c v)

unfoldable pub add_committed : Sizes → CounterOf → SignedVoteOf → Added
add_committed z c v = after_committed z c v (committed_effect c v)

-- the own vote's number follows the own pending one; row 11 where that is 2^64-1
abbrev pub next_num : Found ℕ → Outcome ℕ
next_num nothing = done 0
next_num (found n) = cond (eqb n 18446744073709551615) (refused 11) (done (n + 1))

abbrev pub own_vote : CounterOf → ChangeOf → ℕ → SignedVoteOf
own_vote c change num = record { vote = record { change = change; era = c.era; num = num }; voter = c.our_id; sig = c.our_key }

pub record Signed : Type 0 where
  pub counter : CounterOf
  pub answer : Outcome SignedVoteOf

abbrev pub signed_with : Sizes → CounterOf → ChangeOf → Outcome ℕ → Signed
signed_with z c change (done num) =
    record { counter = with_pending c (insert_within voter_of z.nodes (own_vote c change num) c.pending); answer = done (own_vote c change num) }
signed_with z c change (refused n) = record { counter = c; answer = refused n }

unfoldable pub sign_vote_for : Sizes → CounterOf → ChangeOf → Signed
sign_vote_for z c change = signed_with z c change (next_num (map_found num_of (lookup voter_of c.pending c.our_id)))

-- the pending votes that are newer than their voter's committed vote, by ascending voter
abbrev pub newer : CounterOf → SignedVoteOf → Bool
newer c v = cond (obsolete c.committed v) false true

unfoldable pub pending_votes : CounterOf → List SignedVoteOf
pending_votes c = filter (newer c) c.pending

-- step 7: the winner among the committed votes, f of the current map (02, CR 8)
unfoldable pub compute_winner : CounterOf → Found ChangeOf
compute_winner c = winner same_change (max_faulty (length c.nodes)) (map cast_of c.committed)

-- the place of the first vote for it: its lowest voter's, since votes stand by ascending voter
unfoldable pub winner_at : CounterOf → Found ℕ
winner_at c = winner_place same_change (max_faulty (length c.nodes)) (map cast_of c.committed)

-- 02, CR 7: "all voters then supporting it": those whose stored vote is for a change, of earlier batches of the era too, in the order of the votes, so by ascending id
unfoldable pub supporters_of : List SignedVoteOf → ChangeOf → List ℕ
supporters_of vs x = supporters same_change x (map cast_of vs)

-- a change that has won, and the voters who carried it
pub record CarriedOf : Type 0 where
  pub change : ChangeOf
  pub voters : List ℕ

abbrev pub carried_by : CounterOf → ChangeOf → CarriedOf
carried_by c x = record { change = x; voters = supporters_of c.committed x }

-- the winner's answer, nothing where nobody wins
unfoldable pub carried : CounterOf → Found CarriedOf
carried c = map_found (carried_by c) (compute_winner c)

-- 02, CR 3: the board by place, 0 first: the rows that the counter holds, each with the change that its voter's committed vote is for
unfoldable pub board_row : CounterOf → ℕ → Found StandingOf
board_row c n = standing_at n c.board c.committed

-- what any value of the struct stands for
abbrev pub counter_of : VoteCounter → CounterOf
counter_of c =
    record {
      our_id = c.our_id;
      our_key = c.secret_key;
      nodes = nodes_of c.pub_keys;
      era = c.era;
      pending = votes_of c.pending;
      committed = votes_of c.committed;
      board = rows_of c.board;
    }

-- the struct that an era begins with
abbrev pub new_held : ℕ → ℕ → PubKeyMap → ℕ → VoteCounter
new_held id key m era = record { our_id = id; secret_key = key; pub_keys = m; era = era; pending = no_votes; committed = no_votes; board = no_board }
