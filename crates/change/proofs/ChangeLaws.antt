-- Laws of changes and their states: equality, that the value that holds one stands for it.
-- Assumes nothing.
use mathlib.Core.Path.{◌≡◌, refl, ap}
use mathlib.Core.Bool.{true}
use Rattle.lists.proofs.ListLaws.{false_true, take_padded}
use Rattle.bincode.specs.Sizes.{base}
use Rattle.pub_key_map.specs.PubKeyMap.{no_node}
use Rattle.pub_key_map.proofs.MapLaws.{map_true, map_refl, map_eq}
use Rattle.honey_badger.proofs.ScheduleLaws.{schedule_true, schedule_refl, schedule_eq}
use Rattle.change.specs.declared.Change.{Change}
use Rattle.change.specs.declared.Change.TheVariants.{NodeChange, EncryptionSchedule as ScheduleChange}
use Rattle.change.specs.contracts.ChangePartialEq.TheImpl.{eq-value}
use Rattle.change.specs.Change.{ChangeOf, node_change, encryption_schedule, ChangeStateOf, none, in_progress, complete, change_of, change_held, state_of, state_held, same_change}

-- equality of changes is equality
pub change_true : (a b : ChangeOf) → same_change a b ≡ true → a ≡ b
unfolding same_change
change_true (node_change a) (node_change b) e = ap node_change (map_true a b e)
change_true (node_change a) (encryption_schedule y) e = absurd (false_true e)
change_true (encryption_schedule x) (node_change b) e = absurd (false_true e)
change_true (encryption_schedule x) (encryption_schedule y) e = ap encryption_schedule (schedule_true x y e)

pub change_refl : (a : ChangeOf) → same_change a a ≡ true
unfolding same_change
change_refl (node_change a) = map_refl a
change_refl (encryption_schedule x) = schedule_refl x

-- `==` of changes is what the definitions call the same
pub change_eq : (a b : Change) → (eq-value).it a b ≡ same_change (change_of a) (change_of b)
unfolding same_change
change_eq (NodeChange a) (NodeChange b) = map_eq a b
change_eq (NodeChange a) (ScheduleChange y) = refl
change_eq (ScheduleChange x) (NodeChange b) = refl
change_eq (ScheduleChange x) (ScheduleChange y) = schedule_eq x y

-- what is held is what was given
pub held_change : (c : ChangeOf) → change_of (change_held c) ≡ c
held_change (node_change ns) = ap node_change (take_padded base.nodes no_node ns)
held_change (encryption_schedule x) = refl

pub held_state : (x : ChangeStateOf) → state_of (state_held x) ≡ x
held_state none = refl
held_state (in_progress c) = ap in_progress (held_change c)
held_state (complete c) = ap complete (held_change c)
