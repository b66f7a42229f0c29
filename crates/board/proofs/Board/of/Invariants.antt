use mathlib.Core.Path.{◌≡◌}
use Prim.Native.Nat.{◌≤◌}
use lib.ListN.{length}
use Rattle.bincode.specs.Sizes.{base}
use Rattle.signed_votes.specs.SignedVotes.{votes_of}
use Rattle.winner.specs.Board.{in_order}
use Rattle.board.specs.Board.{rows_of, count_in, voter_in, worked_out}
use Rattle.board.specs.Turns.{Marked}
use Rattle.board.proofs.BoardTurns.{to_come}
use Rattle.board.proofs.Board.of.Given as goal

abbrev pub invariant-loop-i : goal.invariant-loop-i
invariant-loop-i l =
    (length (rows_of l.board) ≤ l.i) × (length l.seen ≡ base.nodes) × Marked (votes_of l.fn.votes) l.i l.seen
    × (worked_out (votes_of l.fn.votes) ≡ in_order count_in voter_in (rows_of l.board) (to_come (votes_of l.fn.votes) l.i))
