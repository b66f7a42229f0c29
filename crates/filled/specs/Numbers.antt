-- 01: faults and due items in lent lists of numbers, one list a field, each filled from its first place on.
use Rattle.std.specs.Prelude.{ℕ, ◌≡◌, List, [], ◌∷◌, ◌++◌, map, length, Some, None}
use Rattle.std.specs.declared.option.Option.{Option}
use Rattle.fault_log.specs.declared.Fault.{Fault}
use Rattle.fault_log.specs.FaultLog.{fault_number}
use Rattle.due.specs.declared.DueKind.{DueKind}
use Rattle.due.specs.declared.DueKind.TheVariants.{Part, Ack}
use Rattle.due.specs.declared.DueItem.{DueItem}
use Rattle.due.specs.Due.{due_number, ack_item}
use Rattle.filled.specs.Filled.{filled, shorter}

-- a fault as its node's id and the number of its kind
abbrev pub fault_id : Fault → ℕ
fault_id f = f.node_id

abbrev pub kind_number : Fault → ℕ
kind_number f = fault_number f.kind

-- a due item as 0 for a part and 1 for an ack, the proposer's index (0 for a part), and its era
abbrev pub due_proposer : DueKind → ℕ
due_proposer Part = 0
due_proposer (Ack i) = i

abbrev pub due_kind : DueItem → ℕ
due_kind d = due_number d.kind

abbrev pub due_index : DueItem → ℕ
due_index d = due_proposer d.kind

abbrev pub due_era : DueItem → ℕ
due_era d = d.era

-- a fault has a place where both of its lists have one
abbrev pub fault_places : List ℕ → List ℕ → ℕ
fault_places ids kinds = shorter (length ids) (length kinds)

-- what the two lists of faults hold at the end
abbrev pub FaultsIn : List Fault → List ℕ → List ℕ → List ℕ → List ℕ → Type 0
FaultsIn fs ids ids' kinds kinds' = (ids' ≡ filled (map fault_id fs) ids) × (kinds' ≡ filled (map kind_number fs) kinds)

-- and the three of due items
abbrev pub DueIn : List DueItem → List ℕ → List ℕ → List ℕ → List ℕ → List ℕ → List ℕ → Type 0
DueIn ds kinds kinds' indices indices' eras eras' =
    (kinds' ≡ filled (map due_kind ds) kinds) × (indices' ≡ filled (map due_index ds) indices) × (eras' ≡ filled (map due_era ds) eras)

-- a part where one is due, with its era
abbrev pub part_in : Option ℕ → List DueItem
part_in (Some era) = record { kind = Part; era = era } ∷ []
part_in None = []

-- acks of an era, by the indices of their proposers, and a part behind them where one is due
abbrev pub owed : ℕ → List ℕ → Option ℕ → List DueItem
owed era acks part = map (ack_item era) acks ++ part_in part

-- a due item has a place where each of its lists has one
abbrev pub due_places : List ℕ → List ℕ → List ℕ → ℕ
due_places kinds indices eras = shorter (shorter (length kinds) (length indices)) (length eras)
