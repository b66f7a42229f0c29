-- Laws of the schedule: equality, the cases of the schedule call.
-- Assumes nothing.
use Prim.Native.Nat.{ℕ, ◌≤◌, ◌<◌}
use mathlib.Core.Path.{◌≡◌, refl, sym, ap, ◌∙◌}
use mathlib.Core.Bool.{Bool, true, false, cond, ◌&&◌}
use lib.Dec.{eqb}
use borrow.Author.Tests.{lt-ltb, le-ltb, eq-eqb, ne_eqb, eqb-true}
use Rattle.lists.proofs.ListLaws.{and_both}
use Rattle.bincode.specs.Outcome.{done, refused}
use Rattle.honey_badger.specs.declared.EncryptionSchedule.{EncryptionSchedule}
use Rattle.honey_badger.specs.declared.EncryptionSchedule.TheVariants.{Always, Never, EveryNthEpoch, TickTock}
use Rattle.honey_badger.specs.contracts.EncryptionSchedulePartialEq.TheImpl.{eq-value}
use Rattle.honey_badger.specs.EncryptionSchedule.{Fields, fields_of, same_fields, same_schedule, period, row14, encrypts, use_on_epoch}

-- the schedule that has these fields
abbrev pub schedule_of : Fields → EncryptionSchedule
schedule_of f =
    cond (eqb f.tag 0) Always
    (cond (eqb f.tag 1) Never
    (cond (eqb f.tag 2) (EveryNthEpoch f.first) (TickTock f.first f.second)))

pub schedule_of_lem : (x : EncryptionSchedule) → schedule_of (fields_of x) ≡ x
schedule_of_lem Always = refl
schedule_of_lem Never = refl
schedule_of_lem (EveryNthEpoch n) = refl
schedule_of_lem (TickTock on off) = refl

-- equality of schedules is equality
fields_true : (a b : Fields) → same_fields a b ≡ true → a ≡ b
unfolding same_fields
fields_true a b e =
    let u = and_both (eqb a.tag b.tag) _ e in
    let v = and_both (eqb a.first b.first) (eqb a.second b.second) u.1 in
    let tag = eqb-true a.tag b.tag u.0 in
    let first = eqb-true a.first b.first v.0 in
    let second = eqb-true a.second b.second v.1 in
    λ i. record { tag = tag i; first = first i; second = second i }

pub schedule_true : (a b : EncryptionSchedule) → same_schedule a b ≡ true → a ≡ b
schedule_true a b e = sym (schedule_of_lem a) ∙ ap schedule_of (fields_true (fields_of a) (fields_of b) e) ∙ schedule_of_lem b

pub schedule_refl : (a : EncryptionSchedule) → same_schedule a a ≡ true
unfolding same_fields
schedule_refl a =
    let f = fields_of a in
    rw (eq-eqb f.tag f.tag refl, eq-eqb f.first f.first refl, eq-eqb f.second f.second refl)

-- the schedule call: row 14, or what the schedule says
module _ (x : EncryptionSchedule) (epoch : ℕ) where
  pub use_zero : period x ≡ 0 → use_on_epoch x epoch ≡ refused 14
  unfolding use_on_epoch row14
  use_zero h = rw (eq-eqb (period x) 0 h)

  pub use_long : (period x ≡ 0 → ⊥) → 4294967295 < period x → use_on_epoch x epoch ≡ refused 14
  unfolding use_on_epoch row14
  use_long z h = rw (ne_eqb (period x) 0 z, lt-ltb 4294967295 (period x) h)

  pub use_done : (period x ≡ 0 → ⊥) → period x ≤ 4294967295 → use_on_epoch x epoch ≡ done (encrypts x epoch)
  unfolding use_on_epoch row14
  use_done z h = rw (ne_eqb (period x) 0 z, le-ltb 4294967295 (period x) h)

also_true : (b : Bool) → b ≡ (b && true)
also_true true = refl
also_true false = refl

-- `==` of schedules is what the definitions call the same
pub schedule_eq : (x y : EncryptionSchedule) → (eq-value).it x y ≡ same_schedule x y
unfolding same_fields
schedule_eq Always Always = refl
schedule_eq Always Never = refl
schedule_eq Always (EveryNthEpoch n) = refl
schedule_eq Always (TickTock on off) = refl
schedule_eq Never Always = refl
schedule_eq Never Never = refl
schedule_eq Never (EveryNthEpoch n) = refl
schedule_eq Never (TickTock on off) = refl
schedule_eq (EveryNthEpoch m) Always = refl
schedule_eq (EveryNthEpoch m) Never = refl
schedule_eq (EveryNthEpoch m) (EveryNthEpoch n) = also_true (eqb m n)
schedule_eq (EveryNthEpoch m) (TickTock on off) = refl
schedule_eq (TickTock a b) Always = refl
schedule_eq (TickTock a b) Never = refl
schedule_eq (TickTock a b) (EveryNthEpoch n) = refl
schedule_eq (TickTock a b) (TickTock on off) = refl
