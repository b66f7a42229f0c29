-- Reading and writing a schedule are inverse, in every edition.
-- Assumes nothing.
use Prim.Native.Nat.{ℕ, ◌<◌}
use mathlib.Core.Path.{◌≡◌, refl, sym, ap, ◌∙◌, subst}
use mathlib.Core.List.{List, [], ◌∷◌, ◌++◌}
use native.Mathlib.Omega.{arith}
use lib.Dec.{lit<}
use Rattle.bincode.specs.Read.{value, bind}
use Rattle.bincode.specs.Numbers.{Edition}
use Rattle.bincode.specs.Stands.{concat}
use Rattle.bincode.specs.Codes.{Codes, NumberCodes}
use Rattle.bincode.proofs.CodeLaws.{four, field, ended, choose, none, restate, recode}
use Rattle.honey_badger.specs.declared.EncryptionSchedule.{EncryptionSchedule}
use Rattle.honey_badger.specs.declared.EncryptionSchedule.TheVariants.{Always, Never, EveryNthEpoch, TickTock}
use Rattle.honey_badger.specs.EncryptionSchedule.{fields_of, read_schedule, schedule_bytes, ScheduleOk}
use Rattle.honey_badger.proofs.ScheduleLaws.{schedule_of_lem}

abbrev tag_of : EncryptionSchedule → ℕ
tag_of x = (fields_of x).tag

abbrev first_of : EncryptionSchedule → ℕ
first_of x = (fields_of x).first

abbrev second_of : EncryptionSchedule → ℕ
second_of x = (fields_of x).second

-- a tag leaves one schedule for the numbers behind it
module _ (x : EncryptionSchedule) where
  is_always : tag_of x ≡ 0 → x ≡ Always
  is_always t = sym (schedule_of_lem x) ∙ rw t

  is_never : tag_of x ≡ 1 → x ≡ Never
  is_never t = sym (schedule_of_lem x) ∙ rw t

  is_every : tag_of x ≡ 2 → x ≡ EveryNthEpoch (first_of x)
  is_every t = sym (schedule_of_lem x) ∙ rw t

  is_tick : tag_of x ≡ 3 → x ≡ TickTock (first_of x) (second_of x)
  is_tick t = sym (schedule_of_lem x) ∙ rw t

tag_below : (x : EncryptionSchedule) → tag_of x < 4
tag_below Always = lit< tt
tag_below Never = lit< tt
tag_below (EveryNthEpoch n) = lit< tt
tag_below (TickTock on off) = lit< tt

-- the bytes behind the tag
abbrev behind : Edition → EncryptionSchedule → List ℕ
behind e Always = []
behind e Never = []
behind e (EveryNthEpoch n) = concat (e.bytes 4 n ∷ [])
behind e (TickTock on off) = concat (e.bytes 4 on ∷ e.bytes 4 off ∷ [])

tag_behind : (e : Edition) (x : EncryptionSchedule) → e.bytes 4 (tag_of x) ++ behind e x ≡ schedule_bytes e x
unfolding schedule_bytes
tag_behind e Always = refl
tag_behind e Never = refl
tag_behind e (EveryNthEpoch n) = refl
tag_behind e (TickTock on off) = refl

-- a schedule that may follow a tag
abbrev Follows : ℕ → EncryptionSchedule → Type 0
Follows t x = (Unit {0} × (tag_of x ≡ t)) × ScheduleOk x

module _ (e : Edition) (s : List ℕ) (num : NumberCodes e s) where
  always_codes : (t : ℕ) → t ≡ 0 → Codes s (λ c. value Always c) (behind e) (Follows t)
  always_codes t q =
      recode (λ x o. sym (ap (behind e) (is_always x (o.0.1 ∙ q))))
      (restate (λ x o. (o.0, subst ScheduleOk (sym (is_always x (o.0.1 ∙ q))) tt)) (λ x o. (o.0, tt))
      (ended {H = λ x. Unit {0} × (tag_of x ≡ t)} Always (tt, sym q) (λ x h. is_always x (h.1 ∙ q))))

  never_codes : (t : ℕ) → t ≡ 1 → Codes s (λ c. value Never c) (behind e) (Follows t)
  never_codes t q =
      recode (λ x o. sym (ap (behind e) (is_never x (o.0.1 ∙ q))))
      (restate (λ x o. (o.0, subst ScheduleOk (sym (is_never x (o.0.1 ∙ q))) tt)) (λ x o. (o.0, tt))
      (ended {H = λ x. Unit {0} × (tag_of x ≡ t)} Never (tt, sym q) (λ x h. is_never x (h.1 ∙ q))))

  every_codes : (t : ℕ) → t ≡ 2 → Codes s (λ c. bind (e.read 4 s c) λ n d. value (EveryNthEpoch n) d) (behind e) (Follows t)
  every_codes t q =
      recode (λ x o. sym (ap (behind e) (is_every x (o.0.1 ∙ q))))
      (restate
      (λ x o. (o.0, subst ScheduleOk (sym (is_every x (o.0.1 ∙ q))) o.1.0))
      (λ x o. (o.0, (subst ScheduleOk (is_every x (o.0.1 ∙ q)) o.1, tt)))
      (field {H = λ x. Unit {0} × (tag_of x ≡ t)} first_of (num 4 four) λ n.
      ended (EveryNthEpoch n) ((tt, sym q), refl) (λ x h. is_every x (h.0.1 ∙ q) ∙ ap EveryNthEpoch h.1)))

  tick_codes : (t : ℕ) → t ≡ 3
      → Codes s (λ c. bind (e.read 4 s c) λ on d. bind (e.read 4 s d) λ off f. value (TickTock on off) f) (behind e) (Follows t)
  tick_codes t q =
      recode (λ x o. sym (ap (behind e) (is_tick x (o.0.1 ∙ q))))
      (restate
      (λ x o. (o.0, subst ScheduleOk (sym (is_tick x (o.0.1 ∙ q))) (o.1.0, o.1.1.0)))
      (λ x o. let k = subst ScheduleOk (is_tick x (o.0.1 ∙ q)) o.1 in (o.0, (k.0, (k.1, tt))))
      (field {H = λ x. Unit {0} × (tag_of x ≡ t)} first_of (num 4 four) λ on.
      field second_of (num 4 four) λ off.
      ended (TickTock on off) (((tt, sym q), refl), refl) (λ x h. is_tick x (h.0.0.1 ∙ q) ∙ λ i. TickTock (h.0.1 i) (h.1 i))))

  pub schedule_codes : Codes s (read_schedule e s) (schedule_bytes e) ScheduleOk
  unfolding read_schedule
  schedule_codes =
      recode (λ x o. tag_behind e x)
      (restate (λ x o. o.1.1) (λ x o. let t = tag_below x in (tt, (omega arith, o)))
      (field {H = λ x. Unit {0}} tag_of (num 4 four) λ t.
      choose t 0 (always_codes t) λ n0.
      choose t 1 (never_codes t) λ n1.
      choose t 2 (every_codes t) λ n2.
      choose t 3 (tick_codes t) λ n3.
      none 2 (λ x o. let b = tag_below x in let i = o.0.1 in omega arith)))
