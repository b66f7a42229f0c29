use native.Mathlib.Omega.{arith}
use mathlib.Core.Path.{refl, sym, ◌∙◌}
use lib.ListN.{length-map}
use Rattle.lists.proofs.KeptLaws.{keep_start, keep_yes, keep_no, keep_held}
use Rattle.array_list.specs.ArrayList.{items_in}
use Rattle.array_list.proofs.ArrayList.retain.Goals as goal
use Rattle.array_list.proofs.ArrayList.retain.Goals.{then-keep, else-keep}

pub loop-i-init : goal.loop-i-init
loop-i-init g c =
    let l = c.args.self.now in
    (omega arith, c.len-n.ensures.1, λ p d. keep_start (λ x. x) p l.items l.count g.row.N c.len-n.result (omega arith) (c.len-n.ensures.0 ∙ sym (length-map (items_in l) (λ x. x))) c.len-n.ensures.1)

pub loop-i-preserved : goal.loop-i-preserved
loop-i-preserved g c =
    let l = c.args.self.now in
    let s = c.loop-i.self in
    let kept = c.loop-i.kept in
    let i = c.loop-i.i in
    let v = c.loop-i.invariant in
    let z = c.index-self-i.result in
    elim c.if-keep.branch [
      | then-keep w ↦ (
        omega (arith, v.0, w.kept-is),
        v.1,
        λ p d.
            let e = d _ _ (record { shown = _; shows = refl; says = record { met = c.keep.ensures } }) in
            rw (w.self-is, w.kept-is) (keep_yes (λ x. x) p l.items l.count g.row.N c.len-n.result s.items kept i z (v.2 p d) c.loop-i-test.true (sym e ∙ w.if-keep.true)),
      )
      | else-keep w ↦ (
        omega (arith, v.0, w.kept-is),
        v.1,
        λ p d.
            let e = d _ _ (record { shown = _; shows = refl; says = record { met = c.keep.ensures } }) in
            rw (w.self-is, w.kept-is) (keep_no (λ x. x) p l.items l.count g.row.N c.len-n.result s.items kept i z (v.2 p d) c.loop-i-test.true (sym e ∙ w.if-keep.false)),
      )
    ]

pub returns : goal.returns
returns g c = λ p d.
    let l = c.args.self.now in
    keep_held (λ x. x) p l.items l.count g.row.N c.len-n.result c.loop-i.self.items c.loop-i.kept c.loop-i.i (c.loop-i.invariant.2 p d) c.loop-i-test.false
