use Rattle.filled.proofs.FillLaws.{fill_start, fill_turn, fill_end}
use Rattle.filled.proofs.put_each.Goals as goal

pub loop-n-init : goal.loop-n-init
loop-n-init g c = λ h d. fill_start h c.args.items.now c.args.list.now

pub loop-n-preserved : goal.loop-n-preserved
loop-n-preserved g c = λ h d.
    let x = c.index-items-n in
    fill_turn h c.args.items.now c.args.list.now c.loop-n.n c.loop-n.list _ x.result c.f.result (c.loop-n.invariant h d) c.loop-n-test.true x.is (d _ _ c.f.ensures) c.put.ensures

pub returns : goal.returns
returns g c = λ h d. fill_end h c.args.items.now c.args.list.now c.loop-n.n c.loop-n.list (c.loop-n.invariant h d) c.loop-n-test.false
