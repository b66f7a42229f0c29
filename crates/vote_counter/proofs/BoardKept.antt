-- 02, CR 3: "In a counter begun empty and changed by its own calls only, after each vote or new era the board equals one worked out from all committed votes stored,
-- and its counts add up to their number."
-- Assumes nothing.
use Prim.Native.Nat.{ℕ}
use mathlib.Core.Path.{◌≡◌, refl, sym, ap, ◌∙◌}
use mathlib.Core.List.{List, [], ◌∷◌, map}
use mathlib.Core.Bool.{Bool, true, false}
use native.Mathlib.Omega.{arith}
use Rattle.lists.specs.Lists.{map_found, lookup, insert_within, takes_place}
use Rattle.lists.proofs.SortedLaws.{within_left}
use Rattle.bincode.specs.Sizes.{Sizes}
use Rattle.bincode.specs.Outcome.{Outcome, done, refused}
use Rattle.bincode.specs.Stands.{All}
use Rattle.pub_key_map.specs.declared.Node.{Node}
use Rattle.network_info.specs.NetworkInfo.{key_of, is_member}
use Rattle.fault_log.specs.declared.FaultKind.TheVariants.{InvalidCommittedVote}
use Rattle.change.specs.Change.{ChangeOf}
use Rattle.votes.specs.Votes.{SignedVoteOf}
use Rattle.signed_votes.specs.SignedVotes.{voter_of, num_of}
use Rattle.signed_votes.proofs.VotesLaws.{AscendsFrom, within_ascends, all_within}
use Rattle.winner.specs.Board.{sum, board, first_choices, in_order}
use Rattle.board.specs.declared.BoardRow.{BoardRow}
use Rattle.board.specs.Board.{count_in, worked_out, standing_at}
use Rattle.board.proofs.HandedLaws.{worked_sum, worked_is, worked_handed}
use Rattle.vote_counter.specs.VoteCounter.{CounterOf, new_counter, is_key, valid_vote, VoteEffect, stored, nothing_new, fault, vote_effect, committed_by, Added, added_to, add_committed, pending_effect, after_pending, add_pending, next_num, signed_with, sign_vote_for, board_after, board_row}
use Rattle.vote_counter.proofs.MemberLaws.{signer_member}
use Rattle.vote_counter.proofs.PageLaws.{invalid_unsigned, committed_signature}
use Rattle.vote_counter.specs.Calls.{CounterCall, sign_call, pending_call, committed_call, era_call, after_call, after_calls, InStep}

-- what each call keeps: the board is the one worked out, voters ascend, and each is in the map
pub record Kept (c : CounterOf) : Type 0 where
  pub by_board : c.board ≡ worked_out c.committed
  pub ascend : AscendsFrom voter_of 0 c.committed
  pub members : All (λ (v : SignedVoteOf). is_member c.nodes (voter_of v) ≡ true) c.committed

-- no votes, no rows
pub worked_none : worked_out [] ≡ []
unfolding worked_out board first_choices in_order
worked_none = refl

pub new_kept : (id key : ℕ) (ns : List Node) (era : ℕ) → Kept (new_counter id key ns era)
new_kept id key ns era = record { by_board = sym worked_none; ascend = tt; members = tt }

-- votes put in place of others, and the board that goes with them
pub board_kept : (taken : Bool) (vs us : List SignedVoteOf) (rs : List BoardRow) → (taken ≡ false → us ≡ vs) → rs ≡ worked_out vs → board_after taken us rs ≡ worked_out us
board_kept true vs us rs same e = refl
board_kept false vs us rs same e = e ∙ ap worked_out (sym (same refl))

-- whose vote is stored is in the map: a voter without the key that signed is a fault
pub stored_member : (z : Sizes) (c : CounterOf) (v : SignedVoteOf) → vote_effect c.era c.nodes c.committed v ≡ stored → is_member c.nodes (voter_of v) ≡ true
unfolding add_committed valid_vote
stored_member z c v e = go (is_key v.sig (key_of c.nodes v.voter)) refl
  where
    told : (add_committed z c v).effect ≡ stored
    told = ap (λ (x : VoteEffect). (added_to c (committed_by z c.committed v x)).effect) e

    go : (b : Bool) → is_key v.sig (key_of c.nodes v.voter) ≡ b → is_member c.nodes v.voter ≡ true
    go true q = signer_member c.nodes v.voter v.sig q
    go false q =
        let f = committed_signature z c v (invalid_unsigned c.nodes v q) in
        absurd (let n : fault InvalidCommittedVote ≡ stored = sym (ap (λ (r : Added). r.effect) f) ∙ told in let w : ◌≡◌ {A = ℕ} 0 1 = cc in let y : ⊥ = omega arith in y)

module _ (z : Sizes) (c : CounterOf) (k : Kept c) where
  pub committed_kept : (v : SignedVoteOf) → Kept (add_committed z c v).counter
  unfolding add_committed
  committed_kept v = go (vote_effect c.era c.nodes c.committed v) refl
    where
      go : (x : VoteEffect) → vote_effect c.era c.nodes c.committed v ≡ x → Kept (added_to c (committed_by z c.committed v x)).counter
      go stored e =
          record {
            by_board = board_kept (takes_place voter_of z.nodes (voter_of v) c.committed) c.committed (insert_within voter_of z.nodes v c.committed) c.board
                (within_left voter_of z.nodes v c.committed) k.by_board;
            ascend = within_ascends voter_of z.nodes v c.committed k.ascend;
            members = all_within (λ (x : SignedVoteOf). is_member c.nodes (voter_of x) ≡ true) voter_of v (stored_member z c v e) z.nodes c.committed k.members;
          }
      go nothing_new e = record { by_board = k.by_board; ascend = k.ascend; members = k.members }
      go (fault f) e = record { by_board = k.by_board; ascend = k.ascend; members = k.members }

  pending_kept : (v : SignedVoteOf) → Kept (add_pending z c v).counter
  unfolding add_pending
  pending_kept v = go (pending_effect c v)
    where
      go : (e : VoteEffect) → Kept (after_pending z c v e).counter
      go stored = record { by_board = k.by_board; ascend = k.ascend; members = k.members }
      go nothing_new = record { by_board = k.by_board; ascend = k.ascend; members = k.members }
      go (fault f) = record { by_board = k.by_board; ascend = k.ascend; members = k.members }

  sign_kept : (x : ChangeOf) → Kept (sign_vote_for z c x).counter
  unfolding sign_vote_for
  sign_kept x = go (next_num (map_found num_of (lookup voter_of c.pending c.our_id)))
    where
      go : (n : Outcome ℕ) → Kept (signed_with z c x n).counter
      go (done n) = record { by_board = k.by_board; ascend = k.ascend; members = k.members }
      go (refused n) = record { by_board = k.by_board; ascend = k.ascend; members = k.members }

call_kept : (z : Sizes) (c : CounterOf) (x : CounterCall) → Kept c → Kept (after_call z c x)
call_kept z c (sign_call x) k = sign_kept z c k x
call_kept z c (pending_call v) k = pending_kept z c k v
call_kept z c (committed_call v) k = committed_kept z c k v
call_kept z c (era_call ns era) k = new_kept c.our_id c.our_key ns era

pub calls_kept : (z : Sizes) (c : CounterOf) (xs : List CounterCall) → Kept c → Kept (after_calls z c xs)
calls_kept z c [] k = k
calls_kept z c (x ∷ xs) k = calls_kept z (after_call z c x) xs (call_kept z c x k)

-- what is kept is what is asked
pub kept_in_step : (c : CounterOf) → Kept c → InStep c
unfolding board_row
kept_in_step c k =
    record {
      board_worked_out = k.by_board;
      adds_up = ap (λ (rs : List BoardRow). sum (map count_in rs)) k.by_board ∙ worked_sum c.committed;
      as_asked = worked_is c.committed k.ascend;
      handed_out = λ n. ap (λ (rs : List BoardRow). standing_at n rs c.committed) k.by_board ∙ worked_handed c.committed k.ascend n;
    }

-- for every id, key, map and era, and every list of calls: so after each of them
pub board_in_step : (z : Sizes) (id key : ℕ) (ns : List Node) (era : ℕ) (xs : List CounterCall) → InStep (after_calls z (new_counter id key ns era) xs)
board_in_step z id key ns era xs = kept_in_step _ (calls_kept z (new_counter id key ns era) xs (new_kept id key ns era))
