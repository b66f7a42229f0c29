-- How long a schedule is at most, in every edition.
-- Assumes nothing.
use Prim.Native.Nat.{ℕ, ◌+◌, ◌≤◌}
use mathlib.Core.List.{append-nil}
use native.Mathlib.Omega.{arith}
use lib.Dec.{lit<}
use lib.ListN.{length, length-append}
use Rattle.bincode.specs.Numbers.{Edition}
use Rattle.bincode.proofs.LengthLaws.{Lengths}
use Rattle.honey_badger.specs.declared.EncryptionSchedule.{EncryptionSchedule}
use Rattle.honey_badger.specs.declared.EncryptionSchedule.TheVariants.{Always, Never, EveryNthEpoch, TickTock}
use Rattle.honey_badger.specs.EncryptionSchedule.{schedule_bytes, ScheduleOk}

-- a tag and at most two numbers
module _ (e : Edition) (limit tag count four eight : ℕ) (k : Lengths e limit tag count four eight) where
  pub schedule_length : (x : EncryptionSchedule) → ScheduleOk x → length (schedule_bytes e x) ≤ tag + (four + four)
  unfolding schedule_bytes
  schedule_length Always o = simp append-nil (omega (arith, k.tag_by 0 (lit< tt)))
  schedule_length Never o = simp append-nil (omega (arith, k.tag_by 1 (lit< tt)))
  schedule_length (EveryNthEpoch n) o = simp (append-nil, length-append) (omega (arith, k.tag_by 2 (lit< tt), k.four_by n o))
  schedule_length (TickTock on off) o = simp (append-nil, length-append) (omega (arith, k.tag_by 3 (lit< tt), k.four_by on o.0, k.four_by off o.1))
