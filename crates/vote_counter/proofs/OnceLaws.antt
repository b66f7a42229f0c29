-- The board worked out once behind several votes is the one worked out vote by vote.
-- Assumes nothing.
use mathlib.Core.Path.{◌≡◌, refl, sym, ap, ◌∙◌}
use mathlib.Core.List.{List, [], ◌∷◌}
use mathlib.Core.Bool.{Bool, true, false, ◌||◌}
use Rattle.lists.specs.Lists.{insert_within, takes_place}
use Rattle.lists.proofs.SortedLaws.{within_left}
use Rattle.bincode.specs.Items.{foldl}
use Rattle.bincode.specs.Sizes.{Sizes}
use Rattle.votes.specs.Votes.{SignedVoteOf}
use Rattle.signed_votes.specs.SignedVotes.{voter_of}
use Rattle.board.specs.Board.{worked_out}
use Rattle.vote_counter.specs.VoteCounter.{CounterOf, with_committed, VoteEffect, stored, nothing_new, fault, committed_by, vote_effect, CommittedOf, commit_vote, board_after, added_to, add_committed}

module _ (z : Sizes) (c : CounterOf) where
  -- a counter with these committed votes, whose board was worked out from them if any took a place
  abbrev pub after : List SignedVoteOf → Bool → CounterOf
  after vs taken = with_committed c vs (board_after taken vs c.board)

  -- one vote more
  pub next_vote : (vs : List SignedVoteOf) (taken : Bool) (v : SignedVoteOf)
      → (add_committed z (after vs taken) v).counter ≡ after (commit_vote z c.era c.nodes vs v).votes (taken || (commit_vote z c.era c.nodes vs v).taken)
  unfolding add_committed commit_vote
  next_vote vs taken v = go (vote_effect c.era c.nodes vs v)
    where
      kept : (b t : Bool) → takes_place voter_of z.nodes (voter_of v) vs ≡ b
          → with_committed c (insert_within voter_of z.nodes v vs) (board_after b (insert_within voter_of z.nodes v vs) (board_after t vs c.board))
          ≡ after (insert_within voter_of z.nodes v vs) (t || b)
      kept true true e = refl
      kept true false e = refl
      kept false true e = ap (λ (us : List SignedVoteOf). with_committed c (insert_within voter_of z.nodes v vs) (worked_out us)) (sym (within_left voter_of z.nodes v vs e))
      kept false false e = refl

      stays : (t : Bool) → after vs t ≡ after vs (t || false)
      stays true = refl
      stays false = refl

      go : (e : VoteEffect) → (added_to (after vs taken) (committed_by z vs v e)).counter ≡ after (committed_by z vs v e).votes (taken || (committed_by z vs v e).taken)
      go stored = kept (takes_place voter_of z.nodes (voter_of v) vs) taken refl
      go nothing_new = stays taken
      go (fault k) = stays taken

  -- votes one after the other, without their boards: what is left of them, and whether any took a place
  abbrev pub commit_next : CommittedOf → SignedVoteOf → CommittedOf
  commit_next r v = let q = commit_vote z c.era c.nodes r.votes v in record { votes = q.votes; taken = r.taken || q.taken; effect = q.effect }

  several : (vs : List SignedVoteOf) (r : CommittedOf)
      → foldl (λ (d : CounterOf) (v : SignedVoteOf). (add_committed z d v).counter) (after r.votes r.taken) vs ≡ after (foldl commit_next r vs).votes (foldl commit_next r vs).taken
  several [] r = refl
  several (v ∷ vs) r =
      ap (λ (d : CounterOf). foldl (λ (d : CounterOf) (v : SignedVoteOf). (add_committed z d v).counter) d vs) (next_vote r.votes r.taken v) ∙ several vs (commit_next r v)

  -- all votes of a list: vote by vote, or the board once behind them, worked out if one took a place
  pub once_behind : (vs : List SignedVoteOf) → let r = foldl commit_next (record { votes = c.committed; taken = false; effect = nothing_new }) vs in
      foldl (λ (d : CounterOf) (v : SignedVoteOf). (add_committed z d v).counter) c vs ≡ with_committed c r.votes (board_after r.taken r.votes c.board)
  once_behind vs = several vs (record { votes = c.committed; taken = false; effect = nothing_new })
