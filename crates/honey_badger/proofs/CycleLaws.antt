-- 02, CR 4: a schedule is a period and a bound, and an epoch encrypts exactly when its remainder by the period is below the bound.
-- Assumes nothing.
use Prim.Native.Nat.{ℕ, ◌+◌, ◌%◌, ◌≤◌, ◌<◌}
use mathlib.Core.Path.{◌≡◌, refl, sym, ap, ◌∙◌, subst}
use mathlib.Core.Logic.{◌↔◌}
use mathlib.Core.Bool.{Bool, true, false, cond}
use native.Mathlib.Omega.{arith}
use native.Mathlib.Nat.{mod-lt, mod-eq_of_lt, add-mod_right}
use lib.Dec.{ltb, leb, lit<}
use borrow.Author.Tests.{lt-ltb, le-ltb, ltb-true, eqb-true, eq-eqb, leb-true, leb-false, le-leb}
use Rattle.lists.proofs.ListLaws.{false_true}
use Rattle.bincode.specs.Outcome.{done, refused}
use Rattle.honey_badger.specs.declared.EncryptionSchedule.{EncryptionSchedule}
use Rattle.honey_badger.specs.declared.EncryptionSchedule.TheVariants.{Always, Never, EveryNthEpoch, TickTock}
use Rattle.honey_badger.specs.declared.Cycle.{Cycle}
use Rattle.honey_badger.specs.EncryptionSchedule.{period, bound, cycle_of, row14, encrypts, is_below, use_on_epoch}
use Rattle.honey_badger.proofs.ScheduleLaws.{use_done}

-- of any period p and bound b
module _ (p b : ℕ) where
  -- it begins again after its period
  pub begins_again : (epoch : ℕ) → is_below p b (epoch + p) ≡ is_below p b epoch
  unfolding is_below
  begins_again epoch = ap (λ r. ltb r b) (add-mod_right epoch p)

  -- every epoch is below exactly where the bound reaches the period
  pub every_below : 0 < p → ((epoch : ℕ) → is_below p b epoch ≡ true) ↔ (p ≤ b)
  unfolding is_below
  every_below some = (λ all. go all (leb p b) refl, λ h epoch. let r = mod-lt epoch some in lt-ltb (epoch % p) b (omega arith))
    where
      go : ((epoch : ℕ) → ltb (epoch % p) b ≡ true) → (t : Bool) → leb p b ≡ t → p ≤ b
      go all true e = leb-true p b e
      go all false e =
          let r = mod-eq_of_lt (leb-false p b e) in
          let k = ltb-true (b % p) b (all b) in absurd (omega arith)

module _ (epoch : ℕ) where
  -- the theorem: an epoch encrypts exactly when its remainder by the period is below the bound. It asks nothing of the schedule, so it
  -- covers each that 14 does not refuse. The laws of epochs behind it rest on it, without a case for each schedule
  pub encrypts_exactly : (x : EncryptionSchedule) → (encrypts x epoch ≡ true) ↔ (epoch % period x < bound x)
  unfolding encrypts
  encrypts_exactly Always = (λ e. let r : epoch % 1 < 1 = mod-lt epoch (lit< tt) in omega arith, λ h. refl)
  encrypts_exactly Never = (λ e. absurd (false_true e), λ h. absurd (omega arith))
  encrypts_exactly (EveryNthEpoch n) = (λ e. let z = eqb-true (epoch % n) 0 e in omega arith, λ h. eq-eqb (epoch % n) 0 (omega arith))
  encrypts_exactly (TickTock on off) =
      (λ e. let z = leb-true (epoch % (on + off)) on e in omega arith, λ h. le-leb (epoch % (on + off)) on (omega arith))

-- the four, as document 02 has them
pub always_cycle : cycle_of Always ≡ record { period = 1; bound = 1 }
always_cycle = refl

pub never_cycle : cycle_of Never ≡ record { period = 1; bound = 0 }
never_cycle = refl

pub nth_cycle : (n : ℕ) → cycle_of (EveryNthEpoch n) ≡ record { period = n; bound = 1 }
nth_cycle n = refl

pub tick_tock_cycle : (on off : ℕ) → cycle_of (TickTock on off) ≡ record { period = on + off; bound = on + 1 }
tick_tock_cycle on off = refl

-- a test that is true exactly where r is below b is that comparison
compared : (t : Bool) (r b : ℕ) → (t ≡ true) ↔ (r < b) → t ≡ ltb r b
compared true r b k = sym (lt-ltb r b (k.0 refl))
compared false r b k =
    let n : r < b → ⊥ = λ h. false_true (k.1 h) in
    sym (le-ltb r b (omega (arith, n)))

module _ (x : EncryptionSchedule) (epoch : ℕ) where
  pub encrypts_below : encrypts x epoch ≡ is_below (period x) (bound x) epoch
  unfolding is_below
  encrypts_below = compared (encrypts x epoch) (epoch % period x) (bound x) (encrypts_exactly epoch x)

  -- so every outcome of the schedule call, a refusal too, is row 14, else the comparison
  pub use_compared : use_on_epoch x epoch ≡ cond (row14 x) (refused 14) (done (is_below (period x) (bound x) epoch))
  unfolding use_on_epoch
  use_compared = ap (λ t. cond (row14 x) (refused 14) (done t)) encrypts_below

-- and a schedule begins again after its period
pub use_again : (x : EncryptionSchedule) (epoch : ℕ) → use_on_epoch x (epoch + period x) ≡ use_on_epoch x epoch
use_again x epoch =
    use_compared x (epoch + period x)
    ∙ ap (λ t. cond (row14 x) (refused 14) (done t)) (begins_again (period x) (bound x) epoch)
    ∙ sym (use_compared x epoch)

-- it encrypts every epoch exactly where its bound reaches its period
pub every_epoch : (x : EncryptionSchedule) → 0 < period x → ((epoch : ℕ) → encrypts x epoch ≡ true) ↔ (period x ≤ bound x)
every_epoch x some =
    let all = every_below (period x) (bound x) some in
    (λ h. all.0 (λ epoch. sym (encrypts_below x epoch) ∙ h epoch), λ k epoch. encrypts_below x epoch ∙ all.1 k epoch)

-- what the code has behind the test of row 14
module _ (x : EncryptionSchedule) (epoch : ℕ) (c : Cycle) (told : c ≡ cycle_of x) where
  pub use_told : (c.period ≡ 0 → ⊥) → c.period ≤ 4294967295 → use_on_epoch x epoch ≡ done (is_below c.period c.bound epoch)
  use_told =
      subst
      (λ v. (v.period ≡ 0 → ⊥) → v.period ≤ 4294967295 → use_on_epoch x epoch ≡ done (is_below v.period v.bound epoch))
      (sym told)
      (λ some few. use_done x epoch some few ∙ ap done (encrypts_below x epoch))
