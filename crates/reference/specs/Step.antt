-- The reference state's step: 01's steps 1 to 8 with every verdict 0, without pending votes, message store, recipe and due list.
use Rattle.std.specs.Prelude.{ℕ, ◌+◌, ◌*◌, List, [], ◌∷◌, ◌++◌, Bool, true, false, not, cond, ◌&&◌, ◌||◌, length, ltb, leb, eqb}
use Rattle.lists.specs.Lists.{Found, found, nothing, lookup, insert, insert_within, filter}
use Rattle.bincode.specs.Read.{Read, value, refuse}
use Rattle.bincode.specs.Outcome.{Outcome, done, refused}
use Rattle.bincode.specs.Sizes.{Sizes}
use Rattle.bincode.specs.Items.{foldl}
use Rattle.util.specs.MaxFaulty.{max_faulty}
use Rattle.pub_key_map.specs.declared.Node.{Node}
use Rattle.pub_key_map.specs.PubKeyMap.{same_nodes}
use Rattle.network_info.specs.NetworkInfo.{node_index, key_of}
use Rattle.honey_badger.specs.declared.EncryptionSchedule.{EncryptionSchedule}
use Rattle.params.specs.declared.Params.{Params}
use Rattle.change.specs.Change.{ChangeOf, node_change, encryption_schedule, ChangeStateOf, none, in_progress, complete}
use Rattle.votes.specs.Votes.{SignedVoteOf}
use Rattle.sync_key_gen.specs.SyncKeyGen.{PartOf}
use Rattle.key_gen_message.specs.KeyGenMessage.{KeyGenMessageOf, part, ack, SignedKeyGenMsgOf}
use Rattle.internal_contrib.specs.InternalContrib.{ContribOf, read_batch}
use Rattle.batch.specs.Batch.{RulingOf, BatchOf, batch_with}
use Rattle.fault_log.specs.declared.FaultKind.{FaultKind}
use Rattle.fault_log.specs.declared.FaultKind.TheVariants.{InvalidCommittedVote, InvalidKeyGenMessageSignature, InvalidKeyGenMessageEra, UnexpectedKeyGenPart, UnexpectedKeyGenAck, SyncKeyGenPart, SyncKeyGenAck}
use Rattle.fault_log.specs.declared.PartFault.TheVariants.{RowCount, MultipleParts}
use Rattle.fault_log.specs.declared.AckFault.TheVariants.{ValueCount, MissingPart}
use Rattle.fault_log.specs.declared.Fault.{Fault}
use Rattle.reference.specs.Reference.{PartRef, CandidateRef, RefState}
use Rattle.reference.specs.Winner.{most_support, ids_for}

-- a batch in the making: the state so far, and the faults in order of arising
pub record RefWork : Type 0 where
  pub state : RefState
  pub faults : List Fault

abbrev pub blamed : ℕ → FaultKind → RefWork → RefWork
blamed id k w = record { state = w.state; faults = w.faults ++ (record { node_id = id; kind = k } ∷ []) }

-- a key is the id's in a map
abbrev pub is_key_of : ℕ → Found ℕ → Bool
is_key_of sig (found key) = eqb key sig
is_key_of sig nothing = false

-- Step 3, in the order of 02, CR 6. A wrong era or signature is `InvalidCommittedVote` on the proposer, whatever the number. Otherwise a vote numbered at or below the
-- voter's stored one changes nothing and makes no fault. Otherwise it replaces the stored one.
abbrev pub by_voter : SignedVoteOf → ℕ
by_voter v = v.voter

abbrev pub is_old : SignedVoteOf → Found SignedVoteOf → Bool
is_old v (found old) = leb v.vote.num old.vote.num
is_old v nothing = false

abbrev pub votes_now : RefState → List SignedVoteOf → RefState
votes_now s vs = record { era = s.era; nodes = s.nodes; params = s.params; votes = vs; candidate = s.candidate }

unfoldable pub ref_vote : Sizes → ℕ → RefWork → SignedVoteOf → RefWork
ref_vote z proposer w v =
    cond (eqb v.vote.era w.state.era && is_key_of v.sig (key_of w.state.nodes v.voter))
    (cond (is_old v (lookup by_voter w.state.votes v.voter)) w
    (record { state = votes_now w.state (insert_within by_voter z.nodes v w.state.votes); faults = w.faults }))
    (blamed proposer InvalidCommittedVote w)

-- Step 5. A part: wrong row count, then a different commitment, are faults on the signer; the same one again is nothing; a new one is recorded.
abbrev pub by_index : PartRef → ℕ
by_index p = p.proposer

abbrev pub candidate_now : RefWork → CandidateRef → List PartRef → RefWork
candidate_now w g ps =
    record {
      state = record {
        era = w.state.era;
        nodes = w.state.nodes;
        params = w.state.params;
        votes = w.state.votes;
        candidate = found (record { nodes = g.nodes; parts = ps });
      };
      faults = w.faults;
    }

abbrev pub ref_part_found : ℕ → CandidateRef → RefWork → ℕ → PartOf → Found PartRef → RefWork
ref_part_found signer g w i p (found q) = cond (eqb q.commit p.commit) w (blamed signer (SyncKeyGenPart MultipleParts) w)
ref_part_found signer g w i p nothing = candidate_now w g (insert by_index (record { proposer = i; commit = p.commit; acks = [] }) g.parts)

-- an ack: value count, then missing part, are faults; a repeated one is nothing; a new one counts
abbrev pub is_in : Found ℕ → Bool
is_in (found x) = true
is_in nothing = false

abbrev pub ref_ack_found : ℕ → CandidateRef → RefWork → ℕ → Found PartRef → RefWork
ref_ack_found signer g w j (found q) =
    cond (is_in (lookup (λ x. x) q.acks j)) w
    (candidate_now w g (insert by_index (record { proposer = q.proposer; commit = q.commit; acks = insert (λ x. x) j q.acks }) g.parts))
ref_ack_found signer g w j nothing = blamed signer (SyncKeyGenAck MissingPart) w

-- without key generation, `UnexpectedKeyGenPart` or `UnexpectedKeyGenAck` faults the signer
abbrev pub unexpected : KeyGenMessageOf → FaultKind
unexpected (part p) = UnexpectedKeyGenPart
unexpected (ack a) = UnexpectedKeyGenAck

-- the signer's index in the candidate map; 02, CR 2: without one the same fault, whatever else is wrong with the message
abbrev pub ref_tracked : ℕ → CandidateRef → RefWork → KeyGenMessageOf → Found ℕ → RefWork
ref_tracked signer g w (part p) (found i) =
    cond (eqb (length p.rows) (length g.nodes))
    (ref_part_found signer g w i p (lookup by_index g.parts i))
    (blamed signer (SyncKeyGenPart RowCount) w)
ref_tracked signer g w (ack a) (found j) =
    cond (eqb (length a.values) (length g.nodes))
    (ref_ack_found signer g w j (lookup by_index g.parts a.proposer))
    (blamed signer (SyncKeyGenAck ValueCount) w)
ref_tracked signer g w (part p) nothing = blamed signer (unexpected (part p)) w
ref_tracked signer g w (ack a) nothing = blamed signer (unexpected (ack a)) w

abbrev pub ref_handled : RefWork → SignedKeyGenMsgOf → Found CandidateRef → RefWork
ref_handled w m (found g) = ref_tracked m.id g w m.message (node_index g.nodes m.id)
ref_handled w m nothing = blamed m.id (unexpected m.message) w

-- Step 4. Wrong era, then bad signature (neither current nor candidate key), fault the proposer.
abbrev pub is_candidate_key : Found CandidateRef → ℕ → ℕ → Bool
is_candidate_key (found g) id sig = is_key_of sig (key_of g.nodes id)
is_candidate_key nothing id sig = false

unfoldable pub is_signed : RefState → SignedKeyGenMsgOf → Bool
is_signed s m = is_key_of m.sig (key_of s.nodes m.id) || is_candidate_key s.candidate m.id m.sig

unfoldable pub ref_message : ℕ → RefWork → SignedKeyGenMsgOf → RefWork
ref_message proposer w m =
    cond (eqb m.era w.state.era)
    (cond (is_signed w.state m)
    (ref_handled w m w.state.candidate)
    (blamed proposer InvalidKeyGenMessageSignature w))
    (blamed proposer InvalidKeyGenMessageEra w)

-- Step 2. Per contribution, ids ascending: the votes, then the key messages.
unfoldable pub ref_contrib : Sizes → RefWork → ContribOf → RefWork
ref_contrib z w c = foldl (ref_message c.id) (foldl (ref_vote z c.id) w c.votes) c.messages

unfoldable pub ref_contribs : Sizes → RefState → List ContribOf → RefWork
ref_contribs z s cs = foldl (ref_contrib z) (record { state = s; faults = [] }) cs

-- Step 6. With n nodes in the new map and t = max_faulty(n): a part is complete when acks > 2t; ready means complete > t and 3 x complete > 2n.
abbrev pub ref_complete : ℕ → PartRef → Bool
ref_complete t p = ltb (2 * t) (length p.acks)

abbrev pub complete_count : CandidateRef → ℕ
complete_count g = length (filter (ref_complete (max_faulty (length g.nodes))) g.parts)

unfoldable pub is_ready : CandidateRef → Bool
is_ready g = ltb (max_faulty (length g.nodes)) (complete_count g) && ltb (2 * length g.nodes) (3 * complete_count g)

abbrev pub ref_ready : Found CandidateRef → Bool
ref_ready (found g) = is_ready g
ref_ready nothing = false

-- a new era has no committed votes
abbrev pub new_era_ref : ℕ → List Node → Params → Found CandidateRef → RefState
new_era_ref era ns p g = record { era = era; nodes = ns; params = p; votes = []; candidate = g }

-- the state after the batch, and what the report tells: the change, and who carried it (02, CR 7)
pub record RefDecided : Type 0 where
  pub state : RefState
  pub ruling : RulingOf

abbrev pub decided_ref : RefState → ChangeStateOf → List ℕ → RefDecided
decided_ref s c ids = record { state = s; ruling = record { change = c; voters = ids } }

-- if ready, the candidate map takes effect, key generation ends and a new era begins; report `Complete`, and nobody, whoever has voters
abbrev pub ref_completed : ℕ → RefState → Found CandidateRef → RefDecided
ref_completed era s (found g) = decided_ref (new_era_ref era g.nodes s.params nothing) (complete (node_change g.nodes)) []
ref_completed era s nothing = decided_ref s none []

-- Step 7. If some change wins: equal to the candidate map, report `InProgress` and restart nothing; another map, new era and fresh key generation, `InProgress`;
-- a schedule, put into the parameters, new era, `Complete`, key generation kept.
abbrev pub is_candidate_ref : Found CandidateRef → List Node → Bool
is_candidate_ref (found g) ns = same_nodes g.nodes ns
is_candidate_ref nothing ns = false

abbrev pub scheduled : Params → EncryptionSchedule → Params
scheduled p x = record { max_future_epochs = p.max_future_epochs; subset_handling_strategy = p.subset_handling_strategy; encryption_schedule = x }

-- 02, CR 7: listed are all voters then supporting the winning change: the votes are those that stand before the new era.
abbrev pub ref_voters : RefState → ChangeOf → List ℕ
ref_voters s c = ids_for c s.votes

abbrev pub ref_elected : ℕ → RefState → Found ChangeOf → RefDecided
ref_elected era s (found (node_change ns)) =
    cond (is_candidate_ref s.candidate ns)
    (decided_ref s (in_progress (node_change ns)) (ref_voters s (node_change ns)))
    (decided_ref (new_era_ref era s.nodes s.params (found (record { nodes = ns; parts = [] }))) (in_progress (node_change ns)) (ref_voters s (node_change ns)))
ref_elected era s (found (encryption_schedule x)) =
    decided_ref (new_era_ref era s.nodes (scheduled s.params x) s.candidate) (complete (encryption_schedule x)) (ref_voters s (encryption_schedule x))
-- Step 8. Otherwise report `None`, and nobody, even if there are votes.
ref_elected era s nothing = decided_ref s none []

-- who wins, f of the current map
abbrev pub ref_winner : RefState → Found ChangeOf
ref_winner s = most_support (max_faulty (length s.nodes)) s.votes

unfoldable pub ref_decide : ℕ → RefState → RefDecided
ref_decide era s = cond (ref_ready s.candidate) (ref_completed era s s.candidate) (ref_elected era s (ref_winner s))

-- The rows of the table for a batch, all but 1 and 4. Row 5: batch epoch over 2^64-2.
abbrev pub ref_row5 : ℕ → Bool
ref_row5 epoch = ltb 18446744073709551614 epoch

-- row 6 has no condition (02, CR 2); row 7: the winning map is empty
abbrev pub wins_empty : Found ChangeOf → Bool
wins_empty (found (node_change [])) = true
wins_empty (found (node_change (n ∷ ns))) = false
wins_empty (found (encryption_schedule x)) = false
wins_empty nothing = false

unfoldable pub ref_row7 : Sizes → RefState → List ContribOf → Bool
ref_row7 z s cs = cond (ref_ready (ref_contribs z s cs).state.candidate) false (wins_empty (ref_winner (ref_contribs z s cs).state))

-- what a shared batch is answered with: the report and its faults, or a refusal, which leaves the state as it was
pub record RefReport : Type 0 where
  pub batch : BatchOf
  pub faults : List Fault

pub record RefAnswer : Type 0 where
  pub state : RefState
  pub answer : Outcome RefReport

abbrev pub denied_ref : RefState → ℕ → RefAnswer
denied_ref s n = record { state = s; answer = refused n }

-- the report is epoch, era of the batch, change, map and parameters, and who carried the change
abbrev pub reported_ref : RefState → ℕ → List Fault → RefDecided → RefAnswer
reported_ref s epoch fs d =
    record {
      state = d.state;
      answer = done (record { batch = batch_with epoch s.era d.ruling d.state.nodes d.state.params; faults = fs });
    }

-- steps 1 to 8; step 1: batch epoch = era + inner epoch
unfoldable pub ref_steps : Sizes → RefState → ℕ → List ContribOf → RefAnswer
ref_steps z s epoch cs = reported_ref s epoch (ref_contribs z s cs).faults (ref_decide (epoch + 1) (ref_contribs z s cs).state)

unfoldable pub ref_batch : Sizes → RefState → ℕ → List ContribOf → RefAnswer
ref_batch z s inner cs =
    cond (ref_row5 (s.era + inner)) (denied_ref s 5)
    (cond (ref_row7 z s cs) (denied_ref s 7)
    (ref_steps z s (s.era + inner) cs))

abbrev pub ref_read : Sizes → RefState → ℕ → Read (List ContribOf) → RefAnswer
ref_read z s inner (value cs c) = ref_batch z s inner cs
ref_read z s inner (refuse n) = denied_ref s n

-- a shared batch: the era in which it was agreed (02, CR 1), its inner epoch there, and its bytes
pub record SharedBatch : Type 0 where
  pub era : ℕ
  pub inner : ℕ
  pub bytes : List ℕ

-- 02, CR 1: a batch of another era than its own is passed over: no answer, no change
unfoldable pub passes_over : RefState → SharedBatch → Bool
passes_over s b = not (eqb b.era s.era)

-- a batch of its own era
unfoldable pub ref_step : Sizes → RefState → SharedBatch → RefAnswer
ref_step z s b = ref_read z s b.inner (read_batch z b.bytes)

-- a list of shared batches: the state after them, and the answers, in order, to those that are not passed over
module _ {A : Type 0} where
  abbrev pub unless_passed : Bool → A → List A → List A
  unless_passed passed x xs = cond passed xs (x ∷ xs)

abbrev pub ref_after : Sizes → RefState → SharedBatch → RefState
ref_after z s b = cond (passes_over s b) s (ref_step z s b).state

unfoldable pub ref_run : Sizes → RefState → List SharedBatch → RefState
ref_run z s [] = s
ref_run z s (b ∷ bs) = ref_run z (ref_after z s b) bs

unfoldable pub ref_answers : Sizes → RefState → List SharedBatch → List (Outcome RefReport)
ref_answers z s [] = []
ref_answers z s (b ∷ bs) = unless_passed (passes_over s b) (ref_step z s b).answer (ref_answers z (ref_after z s b) bs)

-- the batches of a list less those that are passed over
unfoldable pub ref_taken : Sizes → RefState → List SharedBatch → List SharedBatch
ref_taken z s [] = []
ref_taken z s (b ∷ bs) = unless_passed (passes_over s b) b (ref_taken z (ref_after z s b) bs)
