-- What a batch brings up, and what is added to it: faults, and acks that are due, by their proposers' indices.
use Rattle.std.specs.Prelude.{ℕ, List, [], ◌∷◌, ◌++◌, take, replicate, Some, None}
use Rattle.std.specs.declared.option.Option.{Option}
use Rattle.array_list.specs.ArrayList.{items_in}
use Rattle.bincode.specs.Sizes.{Sizes, base}
use Rattle.fault_log.specs.declared.FaultKind.{FaultKind}
use Rattle.fault_log.specs.declared.Fault.{Fault}
use Rattle.fault_log.specs.FaultLog.{no_faults}
use Rattle.steps.specs.Steps.{Told, quiet, owed, blamed_proposer, blamed_signer}
use Rattle.commit.specs.declared.Arisen.{Arisen}

-- the proposers' indices of any value of the struct: those below the count, as far as the array reaches
abbrev pub acks_of : Arisen → List ℕ
acks_of a = items_in a.acks

abbrev pub nothing_arisen : Arisen
nothing_arisen = record { faults = no_faults; acks = record { count = 0; items = replicate base.due 0 } }

-- one fault more, where there is one
abbrev pub blamed_in : Sizes → ℕ → Option FaultKind → List Fault → List Fault
blamed_in z id (Some k) fs = take z.faults (fs ++ (record { node_id = id; kind = k } ∷ []))
blamed_in z id None fs = fs

-- what a message's end adds to faults and acks
abbrev pub faults_told : Sizes → ℕ → ℕ → Told → List Fault → List Fault
faults_told z proposer signer quiet fs = fs
faults_told z proposer signer (owed i) fs = fs
faults_told z proposer signer (blamed_proposer k) fs = blamed_in z proposer (Some k) fs
faults_told z proposer signer (blamed_signer k) fs = blamed_in z signer (Some k) fs

abbrev pub acks_told : Sizes → Told → List ℕ → List ℕ
acks_told z quiet acks = acks
acks_told z (owed i) acks = take z.due (acks ++ (i ∷ []))
acks_told z (blamed_proposer k) acks = acks
acks_told z (blamed_signer k) acks = acks
