-- Single sentences of the scope document, said of due items in lent lists: as which numbers their kinds stand there.
-- Assumes nothing.
use Prim.Native.Nat.{ℕ}
use mathlib.Core.Path.{◌≡◌, refl}
use Rattle.due.specs.declared.DueKind.TheVariants.{Part, Ack}
use Rattle.due.specs.Due.{due_number}

-- a part is 0
pub part_number : due_number Part ≡ 0
part_number = refl

-- an ack is 1, whoever the proposer is
pub ack_number : (i : ℕ) → due_number (Ack i) ≡ 1
ack_number i = refl
