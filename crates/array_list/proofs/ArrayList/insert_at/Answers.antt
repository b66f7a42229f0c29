use native.Mathlib.Omega.{arith}
use mathlib.Core.Path.{◌≡◌, sym, ap, ◌∙◌}
use Prim.Native.Nat.{ℕ, ◌+◌}
use mathlib.Core.List.{List}
use lib.ListN.{take, set}
use Rattle.lists.proofs.ListLaws.{take_live}
use Rattle.lists.proofs.ShiftLaws.{moved_up}
use Rattle.array_list.proofs.PushLaws.{put_within, put_full, put_past}
use Rattle.array_list.specs.ArrayList.{items_in}
use Rattle.array_list.proofs.ArrayList.insert_at.Goals as goal
use Rattle.array_list.proofs.ArrayList.insert_at.Goals.{else-n-via-then-n+else-at-n, else-n-via-else-n}

pub returns-then-at-n : goal.returns-then-at-n
returns-then-at-n g c =
    let l = c.args.self.now in
    let at = c.args.at in
    let x = c.args.x in
    let n = c.len-n.result in
    let live : take n l.items ≡ items_in l = ap (λ (i : ℕ). take i l.items) c.len-n.ensures.0 ∙ take_live l.count l.items in
    let p = moved_up l.items at n x x (omega (arith, c.if-at-n.true)) (omega (arith, c.if-n.true)) in
    let w = put_within g.row.N at x (items_in l) (omega (arith, c.if-n.true, c.len-n.ensures.0)) (omega (arith, c.if-at-n.true, c.len-n.ensures.0)) in
    ap (λ (xs : List g.row.T.Denot). take (n + 1) (set xs at x)) c.copy_within.ensures.after ∙ rw (← live) p ∙ sym w

pub returns-else-n : goal.returns-else-n
returns-else-n g c =
    let xs = items_in c.args.self.now in
    elim c.else-n.branch [
      | else-n-via-then-n+else-at-n w ↦ sym (put_past g.row.N c.args.at c.args.x xs (omega (arith, w.if-n.true, c.len-n.ensures.0)) (omega (arith, w.if-at-n.false, c.len-n.ensures.0)))
      | else-n-via-else-n w ↦ sym (put_full g.row.N c.args.at c.args.x xs (omega (arith, w.if-n.false, c.len-n.ensures.0)))
    ]
