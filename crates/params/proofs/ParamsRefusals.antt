-- Which numbers parameters refuse with, in every edition: those of their numbers, and 2.
-- Assumes nothing.
use Prim.Native.Nat.{ℕ}
use mathlib.Core.List.{List}
use lib.Dec.{eqb}
use Rattle.bincode.specs.Numbers.{Edition}
use Rattle.bincode.proofs.RefusalLaws.{Plain, Refusing, plain_choice, plain_bind}
use Rattle.honey_badger.specs.EncryptionSchedule.{read_schedule}
use Rattle.honey_badger.proofs.ScheduleRefusals.{schedule_plain}
use Rattle.params.specs.Params.{read_strategy, read_params}

module _ {N : ℕ → Type 0} {e : Edition} {s : List ℕ} (k : Refusing N e s) where
  pub strategy_plain : (at : ℕ) → Plain N (read_strategy e s at)
  unfolding read_strategy
  strategy_plain at =
      plain_bind N (e.read 4 s at) _ (k.numbers 4 at) λ tag c.
      plain_choice N (eqb tag 0) _ _ tt
      (plain_choice N (eqb tag 1) _ _ tt
      k.two)

  pub params_plain : (at : ℕ) → Plain N (read_params e s at)
  unfolding read_params
  params_plain at =
      plain_bind N (e.read 8 s at) _ (k.numbers 8 at) λ epochs c.
      plain_bind N (read_strategy e s c) _ (strategy_plain c) λ strategy d.
      plain_bind N (read_schedule e s d) _ (schedule_plain k d) λ schedule f.
      tt
