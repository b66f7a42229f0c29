-- The schedule call, schedule by schedule, in the scope document's words: which epochs each encrypts, and when row 14 refuses.
-- Assumes nothing.
use Prim.Native.Nat.{ℕ, ◌+◌, ◌%◌, ◌^◌, ◌≤◌, ◌<◌}
use mathlib.Core.Path.{◌≡◌, refl}
use mathlib.Core.Logic.{◌⊎◌, inl, inr}
use mathlib.Core.Bool.{true, false, ◌||◌}
use native.Mathlib.Omega.{arith}
use lib.Dec.{eqb, ltb}
use borrow.Author.Tests.{lt-ltb, le-ltb, le-leb, lt-leb, eq-eqb, ne_eqb}
use Rattle.bincode.specs.Outcome.{done, refused}
use Rattle.honey_badger.specs.declared.EncryptionSchedule.TheVariants.{Always, Never, EveryNthEpoch, TickTock}
use Rattle.honey_badger.specs.EncryptionSchedule.{row14, encrypts, use_on_epoch}

-- `Always` encrypts every epoch, `Never` none; neither is ever refused
pub always_encrypts : (epoch : ℕ) → use_on_epoch Always epoch ≡ done true
unfolding use_on_epoch row14 encrypts
always_encrypts epoch = refl

pub never_encrypts : (epoch : ℕ) → use_on_epoch Never epoch ≡ done false
unfolding use_on_epoch row14 encrypts
never_encrypts epoch = refl

-- row 14 of a period p: 0, or over 2^32-1
over_period : (p : ℕ) → (p ≡ 0) ⊎ (256 ^ 4 ≤ p) → eqb p 0 || ltb 4294967295 p ≡ true
over_period p (inl e) = rw (eq-eqb p 0 e)
over_period p (inr h) = rw (ne_eqb p 0 λ e. omega arith, lt-ltb 4294967295 p (omega arith))

within_period : (p : ℕ) → 0 < p → p < 256 ^ 4 → eqb p 0 || ltb 4294967295 p ≡ false
within_period p h k = rw (ne_eqb p 0 λ e. omega arith, le-ltb 4294967295 p (omega arith))

module _ (n epoch : ℕ) where
  pub nth_refused : (n ≡ 0) ⊎ (256 ^ 4 ≤ n) → use_on_epoch (EveryNthEpoch n) epoch ≡ refused 14
  unfolding use_on_epoch row14
  nth_refused h = rw (over_period n h)

  -- `EveryNthEpoch(n)`: an epoch that n divides
  module _ (some : 0 < n) (few : n < 256 ^ 4) where
    pub nth_encrypts : epoch % n ≡ 0 → use_on_epoch (EveryNthEpoch n) epoch ≡ done true
    unfolding use_on_epoch row14 encrypts
    nth_encrypts e = rw (within_period n some few, eq-eqb (epoch % n) 0 e)

    pub nth_leaves : (epoch % n ≡ 0 → ⊥) → use_on_epoch (EveryNthEpoch n) epoch ≡ done false
    unfolding use_on_epoch row14 encrypts
    nth_leaves h = rw (within_period n some few, ne_eqb (epoch % n) 0 h)

module _ (on off epoch : ℕ) where
  pub tick_tock_refused : (on + off ≡ 0) ⊎ (256 ^ 4 ≤ on + off) → use_on_epoch (TickTock on off) epoch ≡ refused 14
  unfolding use_on_epoch row14
  tick_tock_refused h = rw (over_period (on + off) h)

  -- `TickTock(on, off)` is true when epoch mod (on+off) <= on
  module _ (some : 0 < on + off) (few : on + off < 256 ^ 4) where
    pub tick_tock_encrypts : epoch % (on + off) ≤ on → use_on_epoch (TickTock on off) epoch ≡ done true
    unfolding use_on_epoch row14 encrypts
    tick_tock_encrypts h = rw (within_period (on + off) some few, le-leb (epoch % (on + off)) on h)

    pub tick_tock_leaves : on < epoch % (on + off) → use_on_epoch (TickTock on off) epoch ≡ done false
    unfolding use_on_epoch row14 encrypts
    tick_tock_leaves h = rw (within_period (on + off) some few, lt-leb (epoch % (on + off)) on h)
