-- What refuses a change and its state, in every edition and for every size: the causes that `change_wrong` and `state_wrong` name, each with its number, and nothing else.
-- Assumes nothing.
use Prim.Native.Nat.{ℕ}
use mathlib.Core.Path.{refl}
use mathlib.Core.List.{List}
use Rattle.bincode.specs.Numbers.{Edition}
use Rattle.bincode.specs.Sizes.{Sizes}
use Rattle.bincode.specs.Codes.{NumberCodes}
use Rattle.bincode.specs.Causes.{NumberWrong, Causes, NumberCauses}
use Rattle.bincode.proofs.CodeLaws.{four}
use Rattle.bincode.proofs.CauseLaws.{field, last, cases, unknown, accepted}
use Rattle.pub_key_map.proofs.MapCauses.{map_causes}
use Rattle.honey_badger.proofs.ScheduleCauses.{schedule_causes}
use Rattle.change.specs.Change.{node_change, encryption_schedule, none, in_progress, complete, read_change, read_state}
use Rattle.change.specs.ChangeCauses.{change_wrong, state_wrong}

module _ (e : Edition) (v : NumberWrong) (s : List ℕ) (codes : NumberCodes e s) (num : NumberCauses e v s) (z : Sizes) where
  pub change_causes : Causes s (read_change e z s) (change_wrong e v s z)
  unfolding read_change
  change_causes =
      field (codes 4 four) (num 4 four) λ tag.
      cases tag 0 (last node_change (map_causes e v s codes num z))
      (cases tag 1 (last encryption_schedule (schedule_causes e v s codes num))
      (unknown 2 refl))

  pub state_causes : Causes s (read_state e z s) (state_wrong e v s z)
  unfolding read_state
  state_causes =
      field (codes 4 four) (num 4 four) λ tag.
      cases tag 0 (accepted none)
      (cases tag 1 (last in_progress change_causes)
      (cases tag 2 (last complete change_causes)
      (unknown 2 refl)))
