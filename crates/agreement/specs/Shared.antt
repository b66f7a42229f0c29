-- What of a node's state and answers is shared: all that the reference state keeps.
use Rattle.std.specs.Prelude.{List, [], map, Bool, true, false, not, ◌||◌, eqb}
use Rattle.lists.specs.Lists.{Found, found, nothing, map_found, filter}
use Rattle.bincode.specs.Outcome.{Outcome, done, refused}
use Rattle.fault_log.specs.declared.FaultKind.{FaultKind}
use Rattle.fault_log.specs.declared.FaultKind.TheVariants.{InvalidVoteSignature, InvalidCommittedVote, UnexpectedDhbMessageEra, InvalidKeyGenMessageSignature, UnexpectedKeyGenMessage, TooManyKeyGenMessages, InvalidKeyGenMessageEra, UnexpectedKeyGenPart, UnexpectedKeyGenAck, SyncKeyGenPart, SyncKeyGenAck}
use Rattle.fault_log.specs.declared.PartFault.{PartFault}
use Rattle.fault_log.specs.declared.PartFault.TheVariants.{RowCount, MultipleParts, DecryptRow, DeserializeRow, RowCommitment}
use Rattle.fault_log.specs.declared.AckFault.{AckFault}
use Rattle.fault_log.specs.declared.AckFault.TheVariants.{ValueCount, MissingPart, DecryptValue, DeserializeValue, ValueCommitment}
use Rattle.fault_log.specs.declared.Fault.{Fault}
use Rattle.change.specs.Change.{node_change, encryption_schedule, ChangeStateOf, none, in_progress, complete}
use Rattle.key_gen.specs.KeyGen.{ProposalOf}
use Rattle.key_gen_state.specs.KeyGenState.{KeyGenStateOf}
use Rattle.join_plan.specs.JoinPlan.{PlanOf}
use Rattle.dynamic_honey_badger.specs.State.{StateOf, era_of, nodes_in}
use Rattle.process_output.specs.Process.{BatchCall, ReportOf}
use Rattle.reference.specs.Reference.{PartRef, CandidateRef, RefState}
use Rattle.reference.specs.Step.{RefReport}

-- a node's state without what is its own: own id and key, pending votes, store, good values, counts of messages; and the stamp of its last report, of which a
-- joiner has none where its giver has one
abbrev pub part_ref : ProposalOf → PartRef
part_ref q = record { proposer = q.proposer; commit = q.commit; acks = q.acks }

abbrev pub candidate_ref : KeyGenStateOf → CandidateRef
candidate_ref g = record { nodes = g.key_gen.nodes; parts = map part_ref g.key_gen.parts }

abbrev pub ref_of : StateOf → RefState
ref_of s = record { era = era_of s; nodes = nodes_in s; params = s.params; votes = s.counter.committed; candidate = map_found candidate_ref s.key_gen }

-- the six kinds that verdicts 1 to 3 give on parts and acks
abbrev pub is_own_part : PartFault → Bool
is_own_part RowCount = false
is_own_part MultipleParts = false
is_own_part DecryptRow = true
is_own_part DeserializeRow = true
is_own_part RowCommitment = true

abbrev pub is_own_ack : AckFault → Bool
is_own_ack ValueCount = false
is_own_ack MissingPart = false
is_own_ack DecryptValue = true
is_own_ack DeserializeValue = true
is_own_ack ValueCommitment = true

abbrev pub is_own_kind : FaultKind → Bool
is_own_kind InvalidVoteSignature = false
is_own_kind InvalidCommittedVote = false
is_own_kind UnexpectedDhbMessageEra = false
is_own_kind InvalidKeyGenMessageSignature = false
is_own_kind UnexpectedKeyGenMessage = false
is_own_kind TooManyKeyGenMessages = false
is_own_kind InvalidKeyGenMessageEra = false
is_own_kind UnexpectedKeyGenPart = false
is_own_kind UnexpectedKeyGenAck = false
is_own_kind (SyncKeyGenPart p) = is_own_part p
is_own_kind (SyncKeyGenAck a) = is_own_ack a

abbrev pub is_shared : Fault → Bool
is_shared f = not (is_own_kind f.kind)

abbrev pub shared_faults : List Fault → List Fault
shared_faults = filter is_shared

-- the same refusal, or the same report with the faults in order, less the six kinds
abbrev pub shared_answer : Outcome ReportOf → Outcome RefReport
shared_answer (done r) = done (record { batch = r.batch; faults = shared_faults r.faults })
shared_answer (refused n) = refused n

-- 01: batch calls refused by 1 or 4 (short buffers, ill-formed verdicts) count as not made
abbrev pub is_own_refusal : Outcome ReportOf → Bool
is_own_refusal (done r) = false
is_own_refusal (refused n) = eqb n 1 || eqb n 4

-- 02, CR 1: and so does a batch call of another era than the engine's at that moment, whatever number it is refused by
abbrev pub is_other_era : StateOf → BatchCall → Bool
is_other_era s b = not (eqb b.era (era_of s))

abbrev pub is_passed : StateOf → BatchCall → Outcome ReportOf → Bool
is_passed s b a = is_other_era s b || is_own_refusal a

-- a joiner's reference state: era, map, parameters and candidate map of its plan, no votes, no parts
abbrev pub plan_candidate : ChangeStateOf → Found CandidateRef
plan_candidate (in_progress (node_change ns)) = found (record { nodes = ns; parts = [] })
plan_candidate (in_progress (encryption_schedule x)) = nothing
plan_candidate (complete c) = nothing
plan_candidate none = nothing

abbrev pub plan_ref : PlanOf → RefState
plan_ref p = record { era = p.era; nodes = p.keys; params = p.params; votes = []; candidate = plan_candidate p.change }
