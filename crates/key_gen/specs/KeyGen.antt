-- Key generation: parts and acks (01, step 5), completeness and readiness (01, step 6).
use Rattle.std.specs.Prelude.{ℕ, ◌*◌, List, [], Bool, true, false, not, cond, ◌&&◌, length, replicate, ltb, eqb, Some, None}
use Rattle.std.specs.declared.option.Option.{Option}
use Rattle.lists.specs.Lists.{Found, found, nothing, lookup, insert, marked, present, filter}
use Rattle.util.specs.MaxFaulty.{max_faulty}
use Rattle.bincode.specs.Sizes.{base}
use Rattle.pub_key_map.specs.declared.Node.{Node}
use Rattle.pub_key_map.specs.declared.PubKeyMap.{PubKeyMap}
use Rattle.pub_key_map.specs.PubKeyMap.{nodes_of}
use Rattle.network_info.specs.NetworkInfo.{node_index, is_member}
use Rattle.sync_key_gen.specs.SyncKeyGen.{PartOf, AckOf}
use Rattle.fault_log.specs.declared.FaultKind.{FaultKind}
use Rattle.fault_log.specs.declared.FaultKind.TheVariants.{UnexpectedKeyGenPart, UnexpectedKeyGenAck, SyncKeyGenPart, SyncKeyGenAck}
use Rattle.fault_log.specs.declared.PartFault.TheVariants.{RowCount, MultipleParts, DecryptRow, DeserializeRow, RowCommitment}
use Rattle.fault_log.specs.declared.AckFault.TheVariants.{ValueCount, MissingPart, DecryptValue, DeserializeValue, ValueCommitment}
use Rattle.key_gen.specs.declared.Proposal.{Proposal}
use Rattle.key_gen.specs.declared.KeyGen.{KeyGen}
use Rattle.key_gen.specs.declared.KeyOutcome.{KeyOutcome}
use Rattle.key_gen.specs.declared.KeyOutcome.TheVariants as outcome

-- what is recorded of a proposer: its commitment, who has acknowledged it, and whose own value was good, each by ascending index
pub record ProposalOf : Type 0 where
  pub proposer : ℕ
  pub commit : ℕ
  pub acks : List ℕ
  pub good : List ℕ

-- the own id, the candidate map, and the recorded parts by ascending proposer
pub record KeyGenOf : Type 0 where
  pub our_id : ℕ
  pub nodes : List Node
  pub parts : List ProposalOf

-- n nodes in the new map, and t
abbrev pub node_count : KeyGenOf → ℕ
node_count g = length g.nodes

abbrev pub threshold : KeyGenOf → ℕ
threshold g = max_faulty (node_count g)

-- an observer: own id not in the candidate map
abbrev pub observes : KeyGenOf → Bool
observes g = not (is_member g.nodes g.our_id)

abbrev pub with_parts : KeyGenOf → List ProposalOf → KeyGenOf
with_parts g ps = record { our_id = g.our_id; nodes = g.nodes; parts = ps }

abbrev pub by_proposer : ProposalOf → ℕ
by_proposer p = p.proposer

-- what one key message does: nothing to tell, an ack is due for a proposer's part, or a fault of the signer
pub data Effect : Type 0 where
  quiet : Effect
  ack_due : ℕ → Effect
  fault : FaultKind → Effect

pub record Handled : Type 0 where
  pub key_gen : KeyGenOf
  pub effect : Effect

abbrev pub handled : KeyGenOf → Effect → Handled
handled g e = record { key_gen = g; effect = e }

-- a verdict on the own row: 0 good, 1 decryption, 2 deserialisation, 3 commitment failure
unfoldable pub row_effect : ℕ → ℕ → Effect
row_effect i v =
    cond (eqb v 0) (ack_due i)
    (cond (eqb v 1) (fault (SyncKeyGenPart DecryptRow))
    (cond (eqb v 2) (fault (SyncKeyGenPart DeserializeRow))
    (fault (SyncKeyGenPart RowCommitment))))

-- the same on the own value
unfoldable pub value_effect : ℕ → Effect
value_effect v =
    cond (eqb v 0) quiet
    (cond (eqb v 1) (fault (SyncKeyGenAck DecryptValue))
    (cond (eqb v 2) (fault (SyncKeyGenAck DeserializeValue))
    (fault (SyncKeyGenAck ValueCommitment))))

-- a part that was not recorded yet is recorded before its verdict is looked at; an observer ignores verdicts
unfoldable pub record_part : KeyGenOf → ℕ → ℕ → ℕ → Handled
record_part g i commit v =
    handled
    (with_parts g (insert by_proposer (record { proposer = i; commit = commit; acks = []; good = [] }) g.parts))
    (cond (observes g) quiet (row_effect i v))

-- a part of the node with index i: wrong row count, then a different commitment, are faults; the same one again is nothing
unfoldable pub part_of_index : KeyGenOf → ℕ → PartOf → ℕ → Found ProposalOf → Handled
part_of_index g i p v (found q) = cond (eqb q.commit p.commit) (handled g quiet) (handled g (fault (SyncKeyGenPart MultipleParts)))
part_of_index g i p v nothing = record_part g i p.commit v

-- 02, CR 2: a signer that is not in the candidate map is at fault, before anything else of its part is looked at
abbrev pub part_by : KeyGenOf → PartOf → ℕ → Found ℕ → Handled
part_by g p v (found i) =
    cond (eqb (length p.rows) (node_count g))
    (part_of_index g i p v (lookup by_proposer g.parts i))
    (handled g (fault (SyncKeyGenPart RowCount)))
part_by g p v nothing = handled g (fault UnexpectedKeyGenPart)

unfoldable pub handle_part : KeyGenOf → ℕ → PartOf → ℕ → Handled
handle_part g id p v = part_by g p v (node_index g.nodes id)

-- an ack that is new counts before its verdict; its value is good at verdict 0, where this is no observer
unfoldable pub acked : ProposalOf → ℕ → Bool → ProposalOf
acked q j good = record { proposer = q.proposer; commit = q.commit; acks = insert (λ x. x) j q.acks; good = cond good (insert (λ x. x) j q.good) q.good }

unfoldable pub record_ack : KeyGenOf → ProposalOf → ℕ → ℕ → Handled
record_ack g q j v =
    handled
    (with_parts g (insert by_proposer (acked q j (not (observes g) && eqb v 0)) g.parts))
    (cond (observes g) quiet (value_effect v))

abbrev pub is_here : Found ℕ → Bool
is_here (found x) = true
is_here nothing = false

-- an ack of the node with index j: value count, then missing part, are faults; a repeated one is nothing
unfoldable pub ack_of_index : KeyGenOf → ℕ → ℕ → Found ProposalOf → Handled
ack_of_index g j v (found q) = cond (is_here (lookup (λ x. x) q.acks j)) (handled g quiet) (record_ack g q j v)
ack_of_index g j v nothing = handled g (fault (SyncKeyGenAck MissingPart))

-- 02, CR 2: likewise of an ack
abbrev pub ack_by : KeyGenOf → AckOf → ℕ → Found ℕ → Handled
ack_by g a v (found j) =
    cond (eqb (length a.values) (node_count g))
    (ack_of_index g j v (lookup by_proposer g.parts a.proposer))
    (handled g (fault (SyncKeyGenAck ValueCount)))
ack_by g a v nothing = handled g (fault UnexpectedKeyGenAck)

unfoldable pub handle_ack : KeyGenOf → ℕ → AckOf → ℕ → Handled
handle_ack g id a v = ack_by g a v (node_index g.nodes id)

-- step 6: a part is complete when acks > 2t; ready means complete > t and 3 x complete > 2n
unfoldable pub complete : ℕ → ProposalOf → Bool
complete t q = ltb (2 * t) (length q.acks)

unfoldable pub count_complete : KeyGenOf → ℕ
count_complete g = length (filter (complete (threshold g)) g.parts)

-- `SyncKeyGen::is_node_ready`: the node's own part is complete
abbrev pub complete_found : ℕ → Found ProposalOf → Bool
complete_found t (found q) = complete t q
complete_found t nothing = false

abbrev pub ready_by : KeyGenOf → Found ℕ → Bool
ready_by g (found i) = complete_found (threshold g) (lookup by_proposer g.parts i)
ready_by g nothing = false

unfoldable pub node_ready : KeyGenOf → ℕ → Bool
node_ready g id = ready_by g (node_index g.nodes id)

-- `SyncKeyGen::is_ready`
unfoldable pub enough : KeyGenOf → Bool
enough g = ltb (threshold g) (count_complete g)

-- `KeyGenState::is_ready`
unfoldable pub ready : KeyGenOf → Bool
ready g = enough g && ltb (2 * node_count g) (3 * count_complete g)

-- as code holds it: flags by index, and a place for the part of each proposer
abbrev pub indices : List Bool → List ℕ
indices = marked (λ b. b) (λ i b. i) 0

abbrev pub proposal_at : ℕ → Proposal → ProposalOf
proposal_at i p = record { proposer = i; commit = p.commit; acks = indices p.acks; good = indices p.good }

abbrev pub parts_of : List (Option Proposal) → List ProposalOf
parts_of = present proposal_at 0

abbrev pub key_gen_of : KeyGen → KeyGenOf
key_gen_of g = record { our_id = g.our_id; nodes = nodes_of g.pub_keys; parts = parts_of g.proposals }

-- a complete part stands at a place
abbrev pub complete_in : ℕ → Option Proposal → Bool
complete_in t (Some p) = complete t (proposal_at 0 p)
complete_in t None = false

-- a part that nobody has acknowledged
abbrev pub new_proposal : ℕ → Proposal
new_proposal commit = record { commit = commit; acks = replicate base.nodes false; good = replicate base.nodes false }

abbrev pub fresh_held : ℕ → PubKeyMap → KeyGen
fresh_held id m = record { our_id = id; pub_keys = m; proposals = replicate base.nodes None }

abbrev pub said_outcome : KeyOutcome → Effect
said_outcome outcome.Quiet = quiet
said_outcome (outcome.AckDue i) = ack_due i
said_outcome (outcome.Faulty k) = fault k
