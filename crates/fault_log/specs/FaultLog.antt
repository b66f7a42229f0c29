-- The nineteen kinds of fault, numbered in the order in which they are declared; and a log of faults, in order of arising.
use Rattle.std.specs.Prelude.{ℕ, List, replicate}
use Rattle.array_list.specs.ArrayList.{items_in}
use Rattle.bincode.specs.Sizes.{base}
use Rattle.fault_log.specs.declared.PartFault.{PartFault}
use Rattle.fault_log.specs.declared.PartFault.TheVariants.{RowCount, MultipleParts, DecryptRow, DeserializeRow, RowCommitment}
use Rattle.fault_log.specs.declared.AckFault.{AckFault}
use Rattle.fault_log.specs.declared.AckFault.TheVariants.{ValueCount, MissingPart, DecryptValue, DeserializeValue, ValueCommitment}
use Rattle.fault_log.specs.declared.FaultKind.{FaultKind}
use Rattle.fault_log.specs.declared.FaultKind.TheVariants.{InvalidVoteSignature, InvalidCommittedVote, UnexpectedDhbMessageEra, InvalidKeyGenMessageSignature, UnexpectedKeyGenMessage, TooManyKeyGenMessages, InvalidKeyGenMessageEra, UnexpectedKeyGenPart, UnexpectedKeyGenAck, SyncKeyGenPart, SyncKeyGenAck}
use Rattle.fault_log.specs.declared.Fault.{Fault}
use Rattle.fault_log.specs.declared.FaultLog.{FaultLog}

abbrev pub part_fault_number : PartFault → ℕ
part_fault_number RowCount = 9
part_fault_number MultipleParts = 10
part_fault_number DecryptRow = 11
part_fault_number DeserializeRow = 12
part_fault_number RowCommitment = 13

abbrev pub ack_fault_number : AckFault → ℕ
ack_fault_number ValueCount = 14
ack_fault_number MissingPart = 15
ack_fault_number DecryptValue = 16
ack_fault_number DeserializeValue = 17
ack_fault_number ValueCommitment = 18

abbrev pub fault_number : FaultKind → ℕ
fault_number InvalidVoteSignature = 0
fault_number InvalidCommittedVote = 1
fault_number UnexpectedDhbMessageEra = 2
fault_number InvalidKeyGenMessageSignature = 3
fault_number UnexpectedKeyGenMessage = 4
fault_number TooManyKeyGenMessages = 5
fault_number InvalidKeyGenMessageEra = 6
fault_number UnexpectedKeyGenPart = 7
fault_number UnexpectedKeyGenAck = 8
fault_number (SyncKeyGenPart p) = part_fault_number p
fault_number (SyncKeyGenAck a) = ack_fault_number a

-- the faults of any value of the struct: those below the count, as far as the array reaches
abbrev pub faults_of : FaultLog → List Fault
faults_of l = items_in l.faults

abbrev pub no_fault : Fault
no_fault = record { node_id = 0; kind = InvalidVoteSignature }

abbrev pub no_faults : FaultLog
no_faults = record { faults = record { count = 0; items = replicate base.faults no_fault } }
