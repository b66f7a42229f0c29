use Rattle.std.proofs.Common.{rules}
use mathlib.Core.Path.{◌≡◌, sym, ap, subst, ◌∙◌}
use mathlib.Core.List.{List, map}
use native.Mathlib.Omega.{arith}
use Prim.Native.Nat.{◌+◌, ◌<◌}
use lib.ListN.{length, length-map}
use Rattle.votes.specs.declared.SignedVote.{SignedVote}
use Rattle.votes.specs.Votes.{signed_of}
use Rattle.signed_votes.specs.SignedVotes.{votes_of}
use Rattle.vote_counter.specs.VoteCounter.{winner_at}
use Rattle.vote_counter.proofs.CarriedTurns.{cast_is}
use Rattle.vote_counter.proofs.WinnerTurns.{Counting, counting_start, counting_yes, counting_no, counting_end, best_start, best_again, best_over, best_stays, best_told, best_end}
use Rattle.vote_counter.proofs.VoteCounter.winning_place.Goals as goal
use Rattle.vote_counter.proofs.VoteCounter.winning_place.Goals.{then-is_for+else-j-i, else-is_for, then-is_before, else-is_before}

pub voters-init : goal.voters-init
voters-init c = best_start c.as_slice-committed.result.now c.num_faulty-f.result

pub loop-j-init : goal.loop-j-init
loop-j-init c = counting_start c.as_slice-committed.result.now _ _ c.voters.i

pub voters-preserved-then-j-i : goal.voters-preserved-then-j-i
voters-preserved-then-j-i c =
    best_again c.as_slice-committed.result.now _ c.voters.i c.voters-test.true _ _ _ c.voters.invariant c.loop-j.j c.if-j-i.true _ (sym c.is_for.ensures ∙ c.if-is_for.true)

pub overflow_add-row : goal.overflow_add-row
overflow_add-row c =
    let h : c.loop-j.row.count + 1 < 18446744073709551616 = omega (arith, c.loop-j.invariant.2, c.loop-j-test.true, c.as_slice-committed.type_inv.0) in
    search rules

pub loop-j-preserved : goal.loop-j-preserved
loop-j-preserved c =
    let xs = c.as_slice-committed.result.now in
    let l = c.loop-j in
    elim c.if-is_for.branch [
      | then-is_for+else-j-i w ↦
          subst (Counting xs _ _ c.voters.i (l.j + 1)) (sym w.row-is)
          (counting_yes xs _ _ c.voters.i l.j c.loop-j-test.true _ l.row l.invariant w.if-j-i.false (sym c.is_for.ensures ∙ w.if-is_for.true) w.min.result w.min.ensures)
      | else-is_for w ↦
          subst (Counting xs _ _ c.voters.i (l.j + 1)) (sym w.row-is)
          (counting_no xs _ _ c.voters.i l.j c.loop-j-test.true _ l.row l.invariant (sym c.is_for.ensures ∙ w.if-is_for.false))
    ]

pub voters-preserved : goal.voters-preserved
voters-preserved c =
    let xs = c.as_slice-committed.result.now in
    let f = c.num_faulty-f.result in
    let i = c.voters.i in
    let row = counting_end xs _ _ i c.voters-test.true (cast_is xs i c.voters-test.true _) c.loop-j.j (omega (arith, c.loop-j-test.false)) c.loop-j.row c.loop-j.invariant in
    elim c.if-is_before.branch [
      | then-is_before w ↦
          best_told xs f (i + 1) _ _ _ _ w.won-is w.best-is (best_over xs f i c.voters-test.true _ _ _ c.voters.invariant c.loop-j.row row (sym c.is_before.ensures ∙ w.if-is_before.true))
      | else-is_before w ↦
          best_told xs f (i + 1) _ _ _ _ w.won-is w.best-is (best_stays xs f i c.voters-test.true _ _ _ c.voters.invariant c.loop-j.row row (sym c.is_before.ensures ∙ w.if-is_before.false))
    ]

pub returns : goal.returns
unfolding winner_at
returns c =
    let xs = c.as_slice-committed.result.now in
    let e = best_end xs _ c.voters.i c.voters-test.false c.voters.won c.voters.best c.voters.invariant in
    let m : length (votes_of c.args.self.now.committed) ≡ length xs = ap (λ (ys : List SignedVote). length (map signed_of ys)) (sym c.as_slice-committed.ensures) ∙ length-map xs signed_of in
    (rw (c.num_faulty-f.ensures, c.as_slice-committed.ensures) at e.0, λ i w. omega (arith, e.1 i w, m))
