use Prim.Native.Nat.{◌≤◌}
use mathlib.Core.Path.{ap, ◌∙◌}
use mathlib.Core.List.{map}
use native.Mathlib.Omega.{arith}
use lib.ListN.{length, take, length-take, length-map}
use Rattle.bincode.specs.Sizes.{base}
use Rattle.votes.specs.Votes.{signed_of}
use Rattle.signed_votes.specs.SignedVotes.{held, votes_of}
use Rattle.commit.specs.Tally.{entries_of, kept_entry}
use Rattle.commit.proofs.TurnLaws.{blank, kept_of, kept_next, kept_done}
use Rattle.commit.proofs.tally.Tally.of.Goals as goal

pub loop-x-init : goal.loop-x-init
loop-x-init c = ap entries_of c.empty-t.ensures

pub loop-x-preserved : goal.loop-x-preserved
loop-x-preserved c =
    let vs = c.args.votes.votes in
    let l = c.loop-x in
    let xs = c.as_slice-x-items.result.now in
    let k : length xs ≤ base.nodes = omega (arith, ap length c.as_slice-x-items.ensures, length-take vs.count vs.items) in
    c.push.ensures.0 ∙ kept_next base.nodes l.x-index xs blank _ l.invariant c.loop-x-test.true (omega (arith, k, c.loop-x-test.true))

pub returns : goal.returns
returns c =
    let vs = c.args.votes.votes in
    let l = c.loop-x in
    let e = c.as_slice-x-items.ensures in
    let d = kept_done l.x-index c.args.votes (entries_of l.t) (l.invariant ∙ ap (λ ys. map kept_of (take l.x-index ys)) e) (omega (arith, ap length e, c.loop-x-test.false)) in
    (d, omega (arith, ap length d, length-map (votes_of c.args.votes) kept_entry, length-map (held c.args.votes) signed_of, length-take vs.count vs.items))
