use Prim.Native.Nat.{ℕ}
use mathlib.Core.Path.{◌≡◌, refl, sym, ap, ◌∙◌}
use mathlib.Core.List.{[], ◌∷◌, ◌++◌}
use native.Mathlib.Omega.{arith}
use lib.ListN.{length, length-append}
use Rattle.lists.proofs.ListLaws.{padded_set}
use Rattle.bincode.specs.Numbers.{read_num}
use Rattle.bincode.specs.Sizes.{base}
use Rattle.bincode.specs.Items.{plain, stay}
use Rattle.bincode.specs.Answer.{answer}
use Rattle.bincode.proofs.ItemLaws.{count_read, counted_start, many_turn, many_refused, many_end}
use Rattle.bincode.proofs.AnswerLaws.{num_cut}
use Rattle.bincode.proofs.PartLaws.{part_empty, part_turn, part_done, part_filled}
use Rattle.sync_key_gen.specs.SyncKeyGen.{read_handles, handles_held}
use Rattle.sync_key_gen.proofs.HandlesDecodedFixintEncoding.read.Goals as goal

pub loop-value-init : goal.loop-value-init
unfolding read_handles
loop-value-init c =
    let r = count_read _ _ _ _ c.read_count.ensures c.in_ok-n.was in
    ([], refl, part_empty 0 c.in_ok-n.n base.rows r.1, counted_start (plain (read_num 8 _)) stay _ _ _ _ _ _ _ r.0 r.1)

pub returns-in_default : goal.returns-in_default
returns-in_default c =
    let few = (count_read _ _ _ _ c.read_count.ensures c.in_ok-n.was).1 in
    let h = part_turn {A = ℕ} 0 c.in_ok-n.n base.rows few _ c.loop-value-test.true in
    let r = num_cut 8 _ _ c.read_u64.ensures c.in_default.is in
    ap (answer handles_held) (sym (c.loop-value.invariant.3 ∙ many_refused _ _ _ _ _ _ h r))

pub loop-value-preserved : goal.loop-value-preserved
loop-value-preserved c =
    let few = (count_read _ _ _ _ c.read_count.ensures c.in_ok-n.was).1 in
    let l = c.loop-value in
    let v = l.invariant in
    let x = c.in-Ok.x in
    let h = part_turn {A = ℕ} 0 c.in_ok-n.n base.rows few _ c.loop-value-test.true in (
      v.0 ++ (x ∷ []),
      simp length-append (omega arith),
      rw v.2 (padded_set c.in_ok-n.n 0 v.0 l.value-index x v.1 h),
      v.3 ∙ many_turn _ _ _ _ _ _ _ h (sym c.in-Ok.ensures),
    )

pub returns : goal.returns
returns c =
    let few = (count_read _ _ _ _ c.read_count.ensures c.in_ok-n.was).1 in
    let v = c.loop-value.invariant in
    let h = part_done {A = ℕ} 0 c.in_ok-n.n base.rows few _ c.loop-value-test.false c.loop-value.auto.value-index-end in
    let d : length v.0 ≡ c.in_ok-n.n = sym v.1 ∙ h in
    let e = many_end _ _ _ _ _ (omega (arith, h)) in
    rw (v.3 ∙ e, c.new.ensures, v.2, part_filled 0 c.in_ok-n.n base.rows few v.0 d, d)
