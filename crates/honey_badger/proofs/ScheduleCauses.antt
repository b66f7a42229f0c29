-- What refuses a schedule, in every edition: the causes that `schedule_wrong` names, each with its number, and nothing else.
-- Assumes nothing.
use Prim.Native.Nat.{ℕ}
use mathlib.Core.Path.{refl}
use mathlib.Core.List.{List}
use Rattle.bincode.specs.Numbers.{Edition}
use Rattle.bincode.specs.Codes.{NumberCodes}
use Rattle.bincode.specs.Causes.{NumberWrong, Causes, NumberCauses}
use Rattle.bincode.proofs.CodeLaws.{four}
use Rattle.bincode.proofs.CauseLaws.{field, last, cases, unknown, accepted}
use Rattle.honey_badger.specs.declared.EncryptionSchedule.TheVariants.{Always, Never, EveryNthEpoch, TickTock}
use Rattle.honey_badger.specs.EncryptionSchedule.{read_schedule}
use Rattle.honey_badger.specs.ScheduleCauses.{schedule_wrong}

module _ (e : Edition) (v : NumberWrong) (s : List ℕ) (codes : NumberCodes e s) (num : NumberCauses e v s) where
  pub schedule_causes : Causes s (read_schedule e s) (schedule_wrong e v s)
  unfolding read_schedule
  schedule_causes =
      field (codes 4 four) (num 4 four) λ tag.
      cases tag 0 (accepted Always)
      (cases tag 1 (accepted Never)
      (cases tag 2 (last EveryNthEpoch (num 4 four))
      (cases tag 3 (field (codes 4 four) (num 4 four) λ on. last (TickTock on) (num 4 four))
      (unknown 2 refl))))
