use Prim.Native.Nat.{◌+◌, ◌*◌, ◌≤◌}
use lib.ListN.{length}
use mathlib.Core.Path.{refl, sym, ◌∙◌}
use native.Mathlib.Omega.{arith}
use borrow.Author.Tests.{leb-true, leb-false}
use Rattle.bincode.specs.Sizes.{base}
use Rattle.bincode.proofs.NumberLaws.{read_value}
use Rattle.bincode.proofs.ItemLaws.{count_read}
use Rattle.key_gen_message.proofs.HeadLaws.{handles_short, handles_whole}
use Rattle.key_gen_message.proofs.skip_handles.Goals as goal

pub returns-then-not-room : goal.returns-then-not-room
returns-then-not-room c =
    let r = count_read _ _ _ _ c.read_count.ensures c.in_ok-n.was in
    let v = read_value 8 _ _ _ _ r.0 in
    handles_short base _ _ _ _ r.0 r.1 (omega (arith, v.0, v.2)) (leb-false _ _ (sym c.room.ensures ∙ c.if-not-room.true))

pub returns : goal.returns
returns c =
    let r = count_read _ _ _ _ c.read_count.ensures c.in_ok-n.was in
    let fits : c.in_ok-n.c + 8 * c.in_ok-n.n ≤ length c.args.s.now = leb-true _ _ (sym c.room.ensures ∙ c.if-not-room.false) in
    handles_whole base _ _ _ _ r.0 r.1 _ refl fits
