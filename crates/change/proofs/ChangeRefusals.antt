-- Which numbers a change and its state refuse with, in every edition: those of their numbers, 2 and 3.
-- Assumes nothing.
use Prim.Native.Nat.{ℕ}
use mathlib.Core.List.{List}
use lib.Dec.{eqb}
use Rattle.bincode.specs.Numbers.{Edition}
use Rattle.bincode.specs.Sizes.{Sizes}
use Rattle.bincode.proofs.RefusalLaws.{Plain, Refusing, plain_choice, plain_bind}
use Rattle.pub_key_map.specs.PubKeyMap.{read_map}
use Rattle.pub_key_map.proofs.MapRefusals.{map_plain}
use Rattle.honey_badger.specs.EncryptionSchedule.{read_schedule}
use Rattle.honey_badger.proofs.ScheduleRefusals.{schedule_plain}
use Rattle.change.specs.Change.{read_change, read_state}

module _ {N : ℕ → Type 0} {e : Edition} {s : List ℕ} (k : Refusing N e s) (z : Sizes) where
  pub change_plain : (at : ℕ) → Plain N (read_change e z s at)
  unfolding read_change
  change_plain at =
      plain_bind N (e.read 4 s at) _ (k.numbers 4 at) λ tag c.
      plain_choice N (eqb tag 0) _ _ (plain_bind N (read_map e z s c) _ (map_plain k z c) λ ns d. tt)
      (plain_choice N (eqb tag 1) _ _ (plain_bind N (read_schedule e s c) _ (schedule_plain k c) λ x d. tt)
      k.two)

  pub state_plain : (at : ℕ) → Plain N (read_state e z s at)
  unfolding read_state
  state_plain at =
      plain_bind N (e.read 4 s at) _ (k.numbers 4 at) λ tag c.
      plain_choice N (eqb tag 0) _ _ tt
      (plain_choice N (eqb tag 1) _ _ (plain_bind N (read_change e z s c) _ (change_plain c) λ ch d. tt)
      (plain_choice N (eqb tag 2) _ _ (plain_bind N (read_change e z s c) _ (change_plain c) λ ch d. tt)
      k.two))
