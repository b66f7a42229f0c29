use mathlib.Core.Path.{sym, ap, ◌∙◌}
use mathlib.Core.List.{List, map}
use native.Mathlib.Omega.{arith}
use Prim.Native.Nat.{◌≤◌}
use lib.ListN.{length, length-take}
use Rattle.bincode.specs.Sizes.{base}
use Rattle.voters.specs.Voters.{ids_of}
use Rattle.change.specs.Change.{change_of, same_change}
use Rattle.votes.specs.declared.SignedVote.{SignedVote}
use Rattle.votes.specs.Votes.{signed_of}
use Rattle.winner.specs.Support.{supporters}
use Rattle.board.specs.Board.{cast_of}
use Rattle.vote_counter.specs.VoteCounter.{supporters_of}
use Rattle.vote_counter.proofs.CarriedTurns.{listed_start, listed_yes, listed_no, listed_end}
use Rattle.vote_counter.proofs.supporters_of.Goals as goal
use Rattle.vote_counter.proofs.supporters_of.Goals.{then-is_for, else-is_for}

pub loop-x-init : goal.loop-x-init
loop-x-init c = rw c.empty-voters.ensures (listed_start (change_of c.args.change) c.as_slice-x-items.result.now)

pub loop-x-preserved : goal.loop-x-preserved
loop-x-preserved c =
    let xs = c.as_slice-x-items.result.now in
    let few : length xs ≤ base.nodes = omega (arith, ap length c.as_slice-x-items.ensures, length-take c.args.votes.votes.count c.args.votes.votes.items) in
    let h = c.loop-x.invariant in
    elim c.if-is_for.branch [
      | then-is_for w ↦
          rw (ap ids_of w.voters-is, w.add.ensures)
          (listed_yes (change_of c.args.change) xs c.loop-x.x-index c.loop-x-test.true _ (ids_of c.loop-x.voters) h few (sym c.is_for.ensures ∙ w.if-is_for.true))
      | else-is_for w ↦
          rw (ap ids_of w.voters-is)
          (listed_no (change_of c.args.change) xs c.loop-x.x-index c.loop-x-test.true _ (ids_of c.loop-x.voters) h (sym c.is_for.ensures ∙ w.if-is_for.false))
    ]

pub returns : goal.returns
unfolding supporters_of
returns c =
    listed_end (change_of c.args.change) c.as_slice-x-items.result.now c.loop-x.x-index c.loop-x-test.false (ids_of c.loop-x.voters) c.loop-x.invariant
    ∙ ap (λ (xs : List SignedVote). supporters same_change (change_of c.args.change) (map cast_of (map signed_of xs))) c.as_slice-x-items.ensures
