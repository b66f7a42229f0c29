-- With at most f committed votes nobody wins, so no winner need be looked for.
-- Assumes nothing.
use Prim.Native.Nat.{◌≤◌}
use mathlib.Core.Path.{◌≡◌, ap}
use native.Mathlib.Omega.{arith}
use mathlib.Core.List.{map}
use lib.ListN.{length, length-map}
use Rattle.lists.specs.Lists.{nothing, map_found}
use Rattle.util.specs.MaxFaulty.{max_faulty}
use Rattle.change.specs.Change.{same_change}
use Rattle.winner.specs.Winner.{winner_place}
use Rattle.winner.proofs.WinnerLaws.{few_nobody}
use Rattle.board.specs.Board.{cast_of}
use Rattle.vote_counter.specs.VoteCounter.{CounterOf, compute_winner, winner_at, carried_by, carried}

module _ (c : CounterOf) (few : length c.committed ≤ max_faulty (length c.nodes)) where
  pub few_votes : compute_winner c ≡ nothing
  unfolding compute_winner
  few_votes = few_nobody same_change (max_faulty (length c.nodes)) (map cast_of c.committed) (omega (arith, length-map c.committed cast_of))

  pub few_places : winner_at c ≡ nothing
  unfolding winner_at winner_place compute_winner
  few_places = ap (map_found _) few_votes

  pub few_carried : carried c ≡ nothing
  unfolding carried
  few_carried = ap (map_found (carried_by c)) few_votes
