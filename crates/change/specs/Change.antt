-- A change and its state, as the sums of 01: how code holds them, equality, bytes.
use Rattle.std.specs.Prelude.{ℕ, List, [], ◌∷◌, Bool, false, cond, eqb}
use Rattle.bincode.specs.Read.{Read, value, refuse, bind}
use Rattle.bincode.specs.Numbers.{Edition}
use Rattle.bincode.specs.Sizes.{Sizes}
use Rattle.bincode.specs.Stands.{concat}
use Rattle.pub_key_map.specs.declared.Node.{Node}
use Rattle.pub_key_map.specs.PubKeyMap.{nodes_of, map_held, same_nodes, read_map, map_bytes, MapOk}
use Rattle.honey_badger.specs.declared.EncryptionSchedule.{EncryptionSchedule}
use Rattle.honey_badger.specs.EncryptionSchedule.{same_schedule, read_schedule, schedule_bytes, ScheduleOk}
use Rattle.change.specs.declared.Change.{Change}
use Rattle.change.specs.declared.Change.TheVariants.{NodeChange, EncryptionSchedule as ScheduleChange}
use Rattle.change.specs.declared.ChangeState.{ChangeState}
use Rattle.change.specs.declared.ChangeState.TheVariants.{None, InProgress, Complete}

-- a change is another map of nodes, or a schedule
pub data ChangeOf : Type 0 where
  node_change : List Node → ChangeOf
  encryption_schedule : EncryptionSchedule → ChangeOf

pub data ChangeStateOf : Type 0 where
  none : ChangeStateOf
  in_progress : ChangeOf → ChangeStateOf
  complete : ChangeOf → ChangeStateOf

-- what any value of the enum stands for
abbrev pub change_of : Change → ChangeOf
change_of (NodeChange m) = node_change (nodes_of m)
change_of (ScheduleChange x) = encryption_schedule x

abbrev pub state_of : ChangeState → ChangeStateOf
state_of None = none
state_of (InProgress c) = in_progress (change_of c)
state_of (Complete c) = complete (change_of c)

-- the value that holds a change
abbrev pub change_held : ChangeOf → Change
change_held (node_change ns) = NodeChange (map_held ns)
change_held (encryption_schedule x) = ScheduleChange x

abbrev pub state_held : ChangeStateOf → ChangeState
state_held none = None
state_held (in_progress c) = InProgress (change_held c)
state_held (complete c) = Complete (change_held c)

-- equality: the same case with an equal map or schedule
unfoldable pub same_change : ChangeOf → ChangeOf → Bool
same_change (node_change a) (node_change b) = same_nodes a b
same_change (node_change a) (encryption_schedule y) = false
same_change (encryption_schedule x) (node_change b) = false
same_change (encryption_schedule x) (encryption_schedule y) = same_schedule x y

-- u32 tags from 0 in order of declaration; 2 for an unknown tag
unfoldable pub read_change : Edition → Sizes → List ℕ → ℕ → Read ChangeOf
read_change e z s at =
    bind (e.read 4 s at) λ tag c.
    cond (eqb tag 0) (bind (read_map e z s c) λ ns d. value (node_change ns) d)
    (cond (eqb tag 1) (bind (read_schedule e s c) λ x d. value (encryption_schedule x) d)
    (refuse 2))

unfoldable pub change_bytes : Edition → ChangeOf → List ℕ
change_bytes e (node_change ns) = concat (e.bytes 4 0 ∷ map_bytes e ns ∷ [])
change_bytes e (encryption_schedule x) = concat (e.bytes 4 1 ∷ schedule_bytes e x ∷ [])

unfoldable pub read_state : Edition → Sizes → List ℕ → ℕ → Read ChangeStateOf
read_state e z s at =
    bind (e.read 4 s at) λ tag c.
    cond (eqb tag 0) (value none c)
    (cond (eqb tag 1) (bind (read_change e z s c) λ ch d. value (in_progress ch) d)
    (cond (eqb tag 2) (bind (read_change e z s c) λ ch d. value (complete ch) d)
    (refuse 2)))

unfoldable pub state_bytes : Edition → ChangeStateOf → List ℕ
state_bytes e none = concat (e.bytes 4 0 ∷ [])
state_bytes e (in_progress c) = concat (e.bytes 4 1 ∷ change_bytes e c ∷ [])
state_bytes e (complete c) = concat (e.bytes 4 2 ∷ change_bytes e c ∷ [])

-- the values that some bytes are read as
abbrev pub ChangeOk : Sizes → ChangeOf → Type 0
ChangeOk z (node_change ns) = MapOk z ns
ChangeOk z (encryption_schedule x) = ScheduleOk x

abbrev pub StateOk : Sizes → ChangeStateOf → Type 0
StateOk z none = Unit {0}
StateOk z (in_progress c) = ChangeOk z c
StateOk z (complete c) = ChangeOk z c
