-- 02, CR 7: what is said of a winner's answer, in a counter as in CR 3.
use Rattle.std.specs.Prelude.{ℕ, ◌+◌, ◌≤◌, ◌<◌, ◌≡◌, true, length}
use Rattle.lists.specs.Lists.{found, lookup}
use Rattle.util.specs.MaxFaulty.{max_faulty}
use Rattle.bincode.specs.Stands.{Each}
use Rattle.network_info.specs.NetworkInfo.{is_member}
use Rattle.votes.specs.Votes.{SignedVoteOf}
use Rattle.signed_votes.specs.SignedVotes.{voter_of}
use Rattle.winner.specs.BoardTerms.{Among}
use Rattle.vote_counter.specs.VoteCounter.{CounterOf, CarriedOf, compute_winner}

-- who stands behind a winner
pub record Carries (c : CounterOf) (w : CarriedOf) : Type 0 where
  pub is_winner : compute_winner c ≡ found w.change
  -- "its length is greater than f, at most n", of the current map
  pub over_f : max_faulty (length c.nodes) < length w.voters
  pub within_n : length w.voters ≤ length c.nodes
  -- "the ascending list"
  pub ascend : Each (λ (low : ℕ) (id : ℕ). id + 1) (λ low id. low ≤ id) 0 w.voters
  -- "each listed voter's stored vote is for that change"
  pub listed : (id : ℕ) → Among id w.voters → (v : SignedVoteOf) × (lookup voter_of c.committed id ≡ found v) × (v.vote.change ≡ w.change)
  -- "all voters then supporting it": each voter whose stored vote is for it is listed
  pub all_listed : (id : ℕ) (v : SignedVoteOf) → lookup voter_of c.committed id ≡ found v → v.vote.change ≡ w.change → Among id w.voters
  -- each is in the current map
  pub members : (id : ℕ) → Among id w.voters → is_member c.nodes id ≡ true
