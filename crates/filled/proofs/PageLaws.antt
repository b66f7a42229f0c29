-- Single sentences of the scope document, said of lent lists after a call: where each fault and each due item stands, and as which numbers.
-- Assumes nothing.
use Prim.Native.Nat.{ℕ, ◌≤◌}
use mathlib.Core.Path.{◌≡◌, ap, ◌∙◌}
use mathlib.Core.List.{List, ◌∷◌, ◌++◌, map, map-append, append_assoc}
use native.Mathlib.Omega.{arith}
use lib.ListN.{length, drop, get_or, length-map}
use lib.Seq.{get_or_at}
use Rattle.fault_log.specs.declared.FaultKind.{FaultKind}
use Rattle.fault_log.specs.declared.Fault.{Fault}
use Rattle.fault_log.specs.FaultLog.{fault_number}
use Rattle.due.specs.declared.DueKind.TheVariants.{Part, Ack}
use Rattle.due.specs.declared.DueItem.{DueItem}
use Rattle.filled.specs.Filled.{filled}
use Rattle.filled.specs.Numbers.{fault_id, kind_number, due_kind, due_index, due_era, FaultsIn, DueIn}
use Rattle.filled.proofs.FillLaws.{filled_room}

-- what f says of an element stands at the place that has as many before it
placed_at : {A : Type 0} (f : A → ℕ) (before behind : List A) (x : A) (all : List A) (old new : List ℕ) → all ≡ before ++ (x ∷ behind) → length all ≤ length old → new ≡ filled (map f all) old
    → get_or new (length before) 0 ≡ f x
placed_at f before behind x all old new a h e =
    let l : length (map f all) ≤ length old = omega (arith, length-map all f) in
    let split : map f all ≡ map f before ++ (f x ∷ map f behind) = ap (map f) a ∙ map-append f before (x ∷ behind) in
    let rest = drop (length (map f all)) old in
    let whole : new ≡ map f before ++ (f x ∷ (map f behind ++ rest)) =
    e ∙ filled_room (map f all) old l ∙ ap (λ (ys : List ℕ). ys ++ rest) split ∙ append_assoc (map f before) (f x ∷ map f behind) rest in
    ap (λ (ys : List ℕ). get_or ys (length before) 0) whole ∙ get_or_at (map f before) (f x) (map f behind ++ rest) 0 (length before) (length-map before f)

-- 01: "Faults go into a lent list of records, each a station id and a kind", in order
module _ (faults before behind : List Fault) (id : ℕ) (k : FaultKind) (stands : faults ≡ before ++ (record { node_id = id; kind = k } ∷ behind))
    (ids ids' kinds kinds' : List ℕ) (filling : FaultsIn faults ids ids' kinds kinds') where
  pub fault_id_at : length faults ≤ length ids → get_or ids' (length before) 0 ≡ id
  fault_id_at h = placed_at fault_id before behind _ faults ids ids' stands h filling.0

  pub fault_kind_at : length faults ≤ length kinds → get_or kinds' (length before) 0 ≡ fault_number k
  fault_kind_at h = placed_at kind_number before behind _ faults kinds kinds' stands h filling.1

-- the due list, "each with its era"
module _ (due before behind : List DueItem) (era : ℕ) (kinds kinds' indices indices' eras eras' : List ℕ) (filling : DueIn due kinds kinds' indices indices' eras eras') where
  -- an ack is 1, with its proposer's index
  module _ (i : ℕ) (stands : due ≡ before ++ (record { kind = Ack i; era = era } ∷ behind)) where
    pub ack_kind_at : length due ≤ length kinds → get_or kinds' (length before) 0 ≡ 1
    ack_kind_at h = placed_at due_kind before behind _ due kinds kinds' stands h filling.0

    pub ack_index_at : length due ≤ length indices → get_or indices' (length before) 0 ≡ i
    ack_index_at h = placed_at due_index before behind _ due indices indices' stands h filling.1

    pub ack_era_at : length due ≤ length eras → get_or eras' (length before) 0 ≡ era
    ack_era_at h = placed_at due_era before behind _ due eras eras' stands h filling.2

  -- a part is 0, with index 0
  module _ (stands : due ≡ before ++ (record { kind = Part; era = era } ∷ behind)) where
    pub part_kind_at : length due ≤ length kinds → get_or kinds' (length before) 0 ≡ 0
    part_kind_at h = placed_at due_kind before behind _ due kinds kinds' stands h filling.0

    pub part_index_at : length due ≤ length indices → get_or indices' (length before) 0 ≡ 0
    part_index_at h = placed_at due_index before behind _ due indices indices' stands h filling.1

    pub part_era_at : length due ≤ length eras → get_or eras' (length before) 0 ≡ era
    part_era_at h = placed_at due_era before behind _ due eras eras' stands h filling.2
