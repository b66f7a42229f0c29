use mathlib.Core.Path.{◌≡◌, refl, sym, ap, ◌∙◌, subst}
use mathlib.Core.Bool.{true, false}
use mathlib.Core.List.{List, map}
use Prim.Native.Nat.{◌≤◌, ◌<◌, ◌+◌}
use native.Mathlib.Omega.{arith}
use lib.ListN.{length, get_or, length-map, length-take}
use Rattle.bincode.specs.Sizes.{base}
use Rattle.votes.specs.declared.SignedVote.{SignedVote}
use Rattle.votes.specs.Votes.{signed_of}
use Rattle.signed_votes.specs.SignedVotes.{votes_of}
use Rattle.winner.specs.Board.{in_order}
use Rattle.winner.proofs.BoardOrder.{length_placed}
use Rattle.board.specs.declared.BoardRow.{BoardRow}
use Rattle.board.specs.Board.{rows_of, no_row, count_in, voter_in}
use Rattle.board.specs.Turns.{Marked, Begun}
use Rattle.board.proofs.BoardTurns.{marked_start, marked_again, begun_before, to_come, none_in, row_in, row_there, all_in}
use Rattle.board.proofs.Board.of.Goals as goal
use Rattle.board.proofs.Board.of.Goals.{then-not-seen-i, else-not-seen-i}

pub loop-i-init : goal.loop-i-init
loop-i-init c =
    let e = ap rows_of c.empty-board.ensures in (
      omega (arith, ap length e),
      refl,
      marked_start _ base.nodes,
      none_in _ ∙ ap (λ (rs : List BoardRow). in_order count_in voter_in rs (to_come (votes_of c.args.votes) 0)) (sym e),
    )

pub put-board-requires : goal.put-board-requires
put-board-requires c =
    let l = c.args.votes.votes in
    omega (arith, c.loop-i.invariant.0, ap length c.as_slice-votes.ensures, length-take l.count l.items)

pub loop-i-preserved : goal.loop-i-preserved
loop-i-preserved c =
    let vs = votes_of c.args.votes in
    let xs = c.as_slice-votes.result.now in
    let v = c.loop-i.invariant in
    let i = c.loop-i.i in
    let done = rows_of c.loop-i.board in
    let l : i < length vs = omega (arith, length-map xs signed_of, ap (λ (ys : List SignedVote). length (map signed_of ys)) c.as_slice-votes.ensures, c.loop-i-test.true) in
    elim c.if-not-seen-i.branch [
      | then-not-seen-i w ↦
          let e = ap rows_of w.board-is ∙ w.put-board.ensures in
          let row = w.row_of.result in
          let u = subst (λ (ys : List SignedVote). Begun (map signed_of ys) i c.loop-i.seen row w.row_of.new.seen) c.as_slice-votes.ensures w.row_of.ensures v.2 w.if-not-seen-i.true in (
            omega (arith, v.0, ap length e, length_placed count_in voter_in row done),
            ap length w.seen-is ∙ w.row_of.array_long,
            subst (Marked vs (i + 1)) (sym w.seen-is) u.1,
            v.3 ∙ row_in vs i l done row u.0 ∙ ap (λ (rs : List BoardRow). in_order count_in voter_in rs (to_come vs (i + 1))) (sym e),
          )
      | else-not-seen-i w ↦
          let e = ap rows_of w.board-is in
          let is : get_or c.loop-i.seen i false ≡ true = w.if-not-seen-i.false in (
            omega (arith, v.0, ap length e),
            ap length w.seen-is ∙ v.1,
            subst (Marked vs (i + 1)) (sym w.seen-is) (marked_again vs i c.loop-i.seen l is v.2),
            v.3 ∙ row_there vs i l done no_row (begun_before vs i c.loop-i.seen l v.2 is no_row) ∙ ap (λ (rs : List BoardRow). in_order count_in voter_in rs (to_come vs (i + 1))) (sym e),
          )
    ]

pub returns : goal.returns
returns c =
    let vs = votes_of c.args.votes in
    let xs = c.as_slice-votes.result.now in
    let end : length vs ≤ c.loop-i.i = omega (arith, length-map xs signed_of, ap (λ (ys : List SignedVote). length (map signed_of ys)) c.as_slice-votes.ensures, c.loop-i-test.false) in
    sym (c.loop-i.invariant.3 ∙ all_in vs c.loop-i.i end (rows_of c.loop-i.board))
