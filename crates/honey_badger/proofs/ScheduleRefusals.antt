-- Which numbers a schedule refuses with, in every edition: those of its numbers, and 2.
-- Assumes nothing.
use Prim.Native.Nat.{ℕ}
use mathlib.Core.List.{List}
use lib.Dec.{eqb}
use Rattle.bincode.specs.Numbers.{Edition}
use Rattle.bincode.proofs.RefusalLaws.{Plain, Refusing, plain_choice, plain_bind}
use Rattle.honey_badger.specs.EncryptionSchedule.{read_schedule}

module _ {N : ℕ → Type 0} {e : Edition} {s : List ℕ} (k : Refusing N e s) where
  pub schedule_plain : (at : ℕ) → Plain N (read_schedule e s at)
  unfolding read_schedule
  schedule_plain at =
      plain_bind N (e.read 4 s at) _ (k.numbers 4 at) λ tag c.
      plain_choice N (eqb tag 0) _ _ tt
      (plain_choice N (eqb tag 1) _ _ tt
      (plain_choice N (eqb tag 2) _ _ (plain_bind N (e.read 4 s c) _ (k.numbers 4 c) λ n d. tt)
      (plain_choice N (eqb tag 3) _ _ (plain_bind N (e.read 4 s c) _ (k.numbers 4 c) λ on d. plain_bind N (e.read 4 s d) _ (k.numbers 4 d) λ off f. tt)
      k.two)))
