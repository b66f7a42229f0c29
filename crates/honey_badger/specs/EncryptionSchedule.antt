-- The schedule of threshold encryption: which epochs it encrypts, equality, bytes.
use Rattle.std.specs.Prelude.{ℕ, ◌+◌, ◌%◌, ◌^◌, ◌<◌, List, [], ◌∷◌, Bool, true, false, cond, ◌&&◌, ◌||◌, ltb, leb, eqb}
use Rattle.bincode.specs.Read.{Read, value, refuse, bind}
use Rattle.bincode.specs.Outcome.{Outcome, done, refused}
use Rattle.bincode.specs.Numbers.{Edition}
use Rattle.bincode.specs.Stands.{concat}
use Rattle.honey_badger.specs.declared.EncryptionSchedule.{EncryptionSchedule}
use Rattle.honey_badger.specs.declared.EncryptionSchedule.TheVariants.{Always, Never, EveryNthEpoch, TickTock}
use Rattle.honey_badger.specs.declared.Cycle.{Cycle}

-- the tag in order of declaration, and the numbers behind it, 0 where there is none
pub record Fields : Type 0 where
  pub tag : ℕ
  pub first : ℕ
  pub second : ℕ

abbrev pub fields_of : EncryptionSchedule → Fields
fields_of Always = record { tag = 0; first = 0; second = 0 }
fields_of Never = record { tag = 1; first = 0; second = 0 }
fields_of (EveryNthEpoch n) = record { tag = 2; first = n; second = 0 }
fields_of (TickTock on off) = record { tag = 3; first = on; second = off }

unfoldable pub same_fields : Fields → Fields → Bool
same_fields a b = eqb a.tag b.tag && (eqb a.first b.first && eqb a.second b.second)

abbrev pub same_schedule : EncryptionSchedule → EncryptionSchedule → Bool
same_schedule a b = same_fields (fields_of a) (fields_of b)

-- after how many epochs a schedule begins again
abbrev pub period : EncryptionSchedule → ℕ
period Always = 1
period Never = 1
period (EveryNthEpoch n) = n
period (TickTock on off) = on + off

-- 02, CR 4: what the remainders of encrypting epochs stay below; it may pass the period, as that of `TickTock(on, 0)` does
abbrev pub bound : EncryptionSchedule → ℕ
bound Always = 1
bound Never = 0
bound (EveryNthEpoch n) = 1
bound (TickTock on off) = on + 1

-- both of them
abbrev pub cycle_of : EncryptionSchedule → Cycle
cycle_of x = record { period = period x; bound = bound x }

-- row 14: period 0 or over 2^32-1
unfoldable pub row14 : EncryptionSchedule → Bool
row14 x = eqb (period x) 0 || ltb 4294967295 (period x)

-- the epochs that a schedule encrypts; `TickTock(on, off)` is true when epoch mod (on+off) <= on
unfoldable pub encrypts : EncryptionSchedule → ℕ → Bool
encrypts Always epoch = true
encrypts Never epoch = false
encrypts (EveryNthEpoch n) epoch = eqb (epoch % n) 0
encrypts (TickTock on off) epoch = leb (epoch % (on + off)) on

-- 02, CR 4: one remainder and one comparison, of any period p and bound b
unfoldable pub is_below : ℕ → ℕ → ℕ → Bool
is_below p b epoch = ltb (epoch % p) b

-- the schedule call
unfoldable pub use_on_epoch : EncryptionSchedule → ℕ → Outcome Bool
use_on_epoch x epoch = cond (row14 x) (refused 14) (done (encrypts x epoch))

-- a u32 tag and the numbers of that case; 2 for an unknown tag
unfoldable pub read_schedule : Edition → List ℕ → ℕ → Read EncryptionSchedule
read_schedule e s at =
    bind (e.read 4 s at) λ tag c.
    cond (eqb tag 0) (value Always c)
    (cond (eqb tag 1) (value Never c)
    (cond (eqb tag 2) (bind (e.read 4 s c) λ n d. value (EveryNthEpoch n) d)
    (cond (eqb tag 3) (bind (e.read 4 s c) λ on d. bind (e.read 4 s d) λ off f. value (TickTock on off) f)
    (refuse 2))))

unfoldable pub schedule_bytes : Edition → EncryptionSchedule → List ℕ
schedule_bytes e Always = concat (e.bytes 4 0 ∷ [])
schedule_bytes e Never = concat (e.bytes 4 1 ∷ [])
schedule_bytes e (EveryNthEpoch n) = concat (e.bytes 4 2 ∷ e.bytes 4 n ∷ [])
schedule_bytes e (TickTock on off) = concat (e.bytes 4 3 ∷ e.bytes 4 on ∷ e.bytes 4 off ∷ [])

-- the schedules that some bytes are read as; one of period 0 is among them (row 14 belongs to the schedule call alone)
abbrev pub ScheduleOk : EncryptionSchedule → Type 0
ScheduleOk Always = Unit {0}
ScheduleOk Never = Unit {0}
ScheduleOk (EveryNthEpoch n) = n < 256 ^ 4
ScheduleOk (TickTock on off) = (on < 256 ^ 4) × (off < 256 ^ 4)
