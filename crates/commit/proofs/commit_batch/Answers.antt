use mathlib.Core.Path.{refl, ap}
use native.Mathlib.Omega.{arith}
use lib.ListN.{length, get_or}
use Rattle.internal_contrib.specs.Index.{no_contrib, contribs_in}
use Rattle.commit.specs.declared.Committed.{Committed}
use Rattle.commit.proofs.BatchLaws.{contrib_next, batch_starts, batch_turn, batch_ends}
use Rattle.commit.proofs.commit_batch.Goals as goal

pub loop-c-init : goal.loop-c-init
loop-c-init c =
    let a = c.args in
    ((λ z. refl), batch_starts a.terms.now a.tally a.state a.index _ c.clear.ensures c.clear-2.ensures)

pub loop-c-preserved : goal.loop-c-preserved
loop-c-preserved c =
    let a = c.args in
    let l = c.loop-c in
    let one = c.commit_votes in
    let two = c.commit_messages-judged in
    let ks = c.as_slice-contribs.result.now in
    let d : Committed = record { tally = l.done; state = l.key_gen; judged = l.judged } in
    let d' : Committed = record { tally = one.new.tally; state = two.new.state; judged = two.result } in
    let b = c.loop-c-test.true in (
      (λ z. absurd (let y : ⊥ = omega (arith, b, ap length c.as_slice-contribs.ensures, ap length z) in y)),
      batch_turn a.terms.now a.tally a.state a.index l.c-index d l.arisen l.invariant.1 one.ensures.bytes (get_or ks l.c-index no_contrib)
          (contrib_next ks (contribs_in a.index) c.as_slice-contribs.ensures l.c-index b) d' two.new.arisen one.new.faults one.ensures.committed two.ensures,
    )

pub returns : goal.returns
returns c =
    let a = c.args in
    let l = c.loop-c in
    let d : Committed = record { tally = l.done; state = l.key_gen; judged = l.judged } in (
      batch_ends a.terms.now a.tally a.state a.index l.c-index d l.arisen l.invariant.1 (omega (arith, ap length c.as_slice-contribs.ensures, c.loop-c-test.false)),
      l.invariant.0,
    )
