-- 01: the due list, in order of arising, each item with its era.
use Rattle.std.specs.Prelude.{ℕ, List, replicate}
use Rattle.array_list.specs.ArrayList.{items_in}
use Rattle.bincode.specs.Sizes.{base}
use Rattle.due.specs.declared.DueKind.{DueKind}
use Rattle.due.specs.declared.DueKind.TheVariants.{Part, Ack}
use Rattle.due.specs.declared.DueItem.{DueItem}
use Rattle.due.specs.declared.DueList.{DueList}

-- the items of any value of the struct: those below the count, as far as the array reaches
abbrev pub due_of : DueList → List DueItem
due_of l = items_in l.items

abbrev pub no_item : DueItem
no_item = record { kind = Part; era = 0 }

abbrev pub no_due : DueList
no_due = record { items = record { count = 0; items = replicate base.due no_item } }

-- a due item's kind as a number: 0 for a part and 1 for an ack
abbrev pub due_number : DueKind → ℕ
due_number Part = 0
due_number (Ack i) = 1

-- an ack that is due in an era, for the proposer with an index
abbrev pub ack_item : ℕ → ℕ → DueItem
ack_item era i = record { kind = Ack i; era = era }
