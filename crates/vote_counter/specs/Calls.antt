-- 02, CR 3: lists of a counter's own calls, and what is said of the board of a counter begun empty and changed by them only.
use Rattle.std.specs.Prelude.{ℕ, ◌≡◌, List, [], ◌∷◌, map, length}
use Rattle.lists.specs.Lists.{map_found, at_place}
use Rattle.bincode.specs.Sizes.{Sizes}
use Rattle.pub_key_map.specs.declared.Node.{Node}
use Rattle.change.specs.Change.{ChangeOf, same_change}
use Rattle.votes.specs.Votes.{SignedVoteOf}
use Rattle.winner.specs.Board.{sum}
use Rattle.winner.specs.BoardTerms.{IsBoard}
use Rattle.board.specs.Board.{count_in, cast_of, board_of, worked_out, shown_row}
use Rattle.vote_counter.specs.VoteCounter.{CounterOf, new_counter, add_pending, add_committed, sign_vote_for, board_row}

-- an own vote, a received one, one of a batch, whatever comes of them; and a new era with its map
pub data CounterCall : Type 0 where
  sign_call : ChangeOf → CounterCall
  pending_call : SignedVoteOf → CounterCall
  committed_call : SignedVoteOf → CounterCall
  era_call : List Node → ℕ → CounterCall

abbrev pub after_call : Sizes → CounterOf → CounterCall → CounterOf
after_call z c (sign_call x) = (sign_vote_for z c x).counter
after_call z c (pending_call v) = (add_pending z c v).counter
after_call z c (committed_call v) = (add_committed z c v).counter
after_call z c (era_call ns era) = new_counter c.our_id c.our_key ns era

abbrev pub after_calls : Sizes → CounterOf → List CounterCall → CounterOf
after_calls z c [] = c
after_calls z c (x ∷ xs) = after_calls z (after_call z c x) xs

-- the board of a counter is in step with its committed votes
pub record InStep (c : CounterOf) : Type 0 where
  -- "the board equals one worked out from all committed votes stored"
  pub board_worked_out : c.board ≡ worked_out c.committed
  -- "and its counts add up to their number"
  pub adds_up : sum (map count_in c.board) ≡ length c.committed
  -- the one worked out is what 02 calls the board: one row for each change with its voters' count, largest first, equal counts by lowest supporting voter
  pub as_asked : IsBoard same_change (map cast_of c.committed) (board_of c.committed)
  -- and its rows are handed out by place, 0 first, none past the last
  pub handed_out : (n : ℕ) → board_row c n ≡ map_found shown_row (at_place n (board_of c.committed))
