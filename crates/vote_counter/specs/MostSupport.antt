-- 02, CR 8: what is said of who wins, in a counter as in CR 3.
use Rattle.std.specs.Prelude.{ℕ, ◌<◌, ◌≡◌, ◌↔◌, map, length, get_or}
use Rattle.lists.specs.Lists.{found, nothing}
use Rattle.util.specs.MaxFaulty.{max_faulty}
use Rattle.change.specs.Change.{ChangeOf, same_change}
use Rattle.votes.specs.Votes.{no_signed}
use Rattle.signed_votes.specs.SignedVotes.{voter_of}
use Rattle.winner.specs.Support.{support}
use Rattle.winner.specs.FirstPast.{first_past}
use Rattle.winner.specs.BoardTerms.{Lowest}
use Rattle.winner.specs.WinnerTerms.{Wins, first_over, ListOf}
use Rattle.board.specs.Board.{cast_of, board_of}
use Rattle.vote_counter.specs.VoteCounter.{CounterOf, CarriedOf, compute_winner, winner_at, supporters_of, carried, board_row}
use Rattle.vote_counter.specs.Answers.{choice_at}

pub record MostSupport (c : CounterOf) : Type 0 where
  -- "Organisers expect most voters to win, and among equals the one supported by the lowest voter id": of all changes with more than f voters
  pub by_most : (x : ChangeOf) → (compute_winner c ≡ found x) ↔ Wins same_change (map cast_of c.committed) (max_faulty (length c.nodes)) x
  -- "Whether anybody wins is unaltered": nobody does exactly where nobody does by 01's rule
  pub nobody : (compute_winner c ≡ nothing) ↔ (first_past same_change (max_faulty (length c.nodes)) (map (λ v. v.vote.change) c.committed) ≡ nothing)
  -- where at most one change has more than f voters, it is the winner by 01's rule too
  pub alone : ((x y : ChangeOf) → max_faulty (length c.nodes) < support same_change x (map (λ v. v.vote.change) c.committed) → max_faulty (length c.nodes) < support same_change y (map (λ v. v.vote.change) c.committed) → x ≡ y)
      → compute_winner c ≡ first_past same_change (max_faulty (length c.nodes)) (map (λ v. v.vote.change) c.committed)
  -- the winner is the first row of the board that is worked out, where its count passes f
  pub first_row : compute_winner c ≡ first_over (max_faulty (length c.nodes)) (board_of c.committed)
  -- and the first that is handed out, with as many voters as are listed (CR 7)
  pub shown : (w : CarriedOf) → carried c ≡ found w → board_row c 0 ≡ found (record { change = w.change; count = length w.voters })
  -- the list is the one of the winner
  pub listed : (w : CarriedOf) → carried c ≡ found w → ListOf same_change (map cast_of c.committed) w.change w.voters
  -- the place that is told is that of the winner's lowest voter
  pub told : (i : ℕ) → winner_at c ≡ found i → Lowest (voter_of (get_or c.committed i no_signed)) (supporters_of c.committed (choice_at c.committed i))
