-- 02, CR 2: "a fault on that signer .. and processing continues". A batch with the key message of a leaving node leaves the state that it leaves without that message,
-- and is answered as it is without it; the faults are the same, with the one of the message at its place.
-- Assumes nothing.
use Prim.Native.Nat.{ℕ, ◌+◌}
use mathlib.Core.Path.{◌≡◌, refl, sym, ap, ◌∙◌}
use mathlib.Core.List.{List, [], ◌∷◌, ◌++◌, append-nil, append_assoc}
use mathlib.Core.Bool.{Bool, true, false, cond, ◌&&◌}
use lib.Dec.{eqb}
use lib.ListN.{length}
use Rattle.lists.specs.Lists.{Found, found, nothing, lookup, insert, insert_within}
use Rattle.bincode.specs.Items.{foldl}
use Rattle.bincode.specs.Outcome.{Outcome, done, refused}
use Rattle.bincode.specs.Sizes.{Sizes}
use Rattle.network_info.specs.NetworkInfo.{node_index, key_of}
use Rattle.votes.specs.Votes.{SignedVoteOf}
use Rattle.sync_key_gen.specs.SyncKeyGen.{PartOf, AckOf}
use Rattle.key_gen_message.specs.KeyGenMessage.{KeyGenMessageOf, part, ack, SignedKeyGenMsgOf}
use Rattle.internal_contrib.specs.InternalContrib.{ContribOf}
use Rattle.batch.specs.Batch.{BatchOf}
use Rattle.fault_log.specs.declared.FaultKind.{FaultKind}
use Rattle.fault_log.specs.declared.FaultKind.TheVariants.{InvalidCommittedVote, InvalidKeyGenMessageSignature, InvalidKeyGenMessageEra, UnexpectedKeyGenPart, UnexpectedKeyGenAck, SyncKeyGenPart, SyncKeyGenAck}
use Rattle.fault_log.specs.declared.PartFault.TheVariants.{RowCount, MultipleParts}
use Rattle.fault_log.specs.declared.AckFault.TheVariants.{ValueCount}
use Rattle.fault_log.specs.declared.Fault.{Fault}
use Rattle.reference.specs.Reference.{PartRef, CandidateRef, RefState}
use Rattle.reference.specs.Terms.{Leaving}
use Rattle.reference.specs.Step.{RefWork, blamed, is_key_of, is_old, by_voter, votes_now, ref_vote, by_index, candidate_now, ref_part_found, is_in, ref_ack_found, unexpected, ref_tracked, ref_handled, is_signed, ref_message, ref_contrib, ref_contribs, ref_ready, RefDecided, ref_winner, ref_decide, ref_row5, wins_empty, ref_row7, RefReport, RefAnswer, denied_ref, reported_ref, ref_steps, ref_batch}
use Rattle.reference.proofs.LeavingLaws.{leaving_part, leaving_ack}

-- a work with more faults in front of its own
abbrev behind : List Fault → RefWork → RefWork
behind fs w = record { state = w.state; faults = fs ++ w.faults }

-- what is done to a work does not depend on the faults so far, and puts its own behind them
module _ (fs : List Fault) where
  blamed_behind : (id : ℕ) (k : FaultKind) (w : RefWork) → blamed id k (behind fs w) ≡ behind fs (blamed id k w)
  blamed_behind id k w = λ t. record { state = w.state; faults = append_assoc fs w.faults (record { node_id = id; kind = k } ∷ []) t }

  vote_behind : (z : Sizes) (p : ℕ) (w : RefWork) (v : SignedVoteOf) → ref_vote z p (behind fs w) v ≡ behind fs (ref_vote z p w v)
  unfolding ref_vote
  vote_behind z p w v =
      go (eqb v.vote.era w.state.era && is_key_of v.sig (key_of w.state.nodes v.voter)) (is_old v (lookup by_voter w.state.votes v.voter))
      (votes_now w.state (insert_within by_voter z.nodes v w.state.votes))
    where
      go : (a b : Bool) (s : RefState)
          → cond a (cond b (behind fs w) (record { state = s; faults = fs ++ w.faults })) (blamed p InvalidCommittedVote (behind fs w))
          ≡ behind fs (cond a (cond b w (record { state = s; faults = w.faults })) (blamed p InvalidCommittedVote w))
      go false b s = blamed_behind p InvalidCommittedVote w
      go true true s = refl
      go true false s = refl

  -- a part and an ack, by what is recorded
  module _ (w : RefWork) (signer : ℕ) (g : CandidateRef) where
    part_behind : (i : ℕ) (p : PartOf) (f : Found PartRef) → ref_part_found signer g (behind fs w) i p f ≡ behind fs (ref_part_found signer g w i p f)
    part_behind i p nothing = refl
    part_behind i p (found q) = go (eqb q.commit p.commit)
      where
        go : (b : Bool) → cond b (behind fs w) (blamed signer (SyncKeyGenPart MultipleParts) (behind fs w)) ≡ behind fs (cond b w (blamed signer (SyncKeyGenPart MultipleParts) w))
        go true = refl
        go false = blamed_behind signer (SyncKeyGenPart MultipleParts) w

    ack_behind : (j : ℕ) (f : Found PartRef) → ref_ack_found signer g (behind fs w) j f ≡ behind fs (ref_ack_found signer g w j f)
    ack_behind j nothing = blamed_behind signer _ w
    ack_behind j (found q) = go (is_in (lookup (λ x. x) q.acks j)) (insert by_index (record { proposer = q.proposer; commit = q.commit; acks = insert (λ x. x) j q.acks }) g.parts)
      where
        go : (b : Bool) (ps : List PartRef) → cond b (behind fs w) (candidate_now (behind fs w) g ps) ≡ behind fs (cond b w (candidate_now w g ps))
        go true ps = refl
        go false ps = refl

    counted_behind : (b : Bool) (k : FaultKind) (x y : RefWork) → x ≡ behind fs y → cond b x (blamed signer k (behind fs w)) ≡ behind fs (cond b y (blamed signer k w))
    counted_behind true k x y e = e
    counted_behind false k x y e = blamed_behind signer k w

    tracked_behind : (m : KeyGenMessageOf) (i : Found ℕ) → ref_tracked signer g (behind fs w) m i ≡ behind fs (ref_tracked signer g w m i)
    tracked_behind (part p) (found i) =
        counted_behind (eqb (length p.rows) (length g.nodes)) (SyncKeyGenPart RowCount) _ _ (part_behind i p (lookup by_index g.parts i))
    tracked_behind (ack a) (found j) =
        counted_behind (eqb (length a.values) (length g.nodes)) (SyncKeyGenAck ValueCount) _ _ (ack_behind j (lookup by_index g.parts a.proposer))
    tracked_behind (part p) nothing = blamed_behind signer UnexpectedKeyGenPart w
    tracked_behind (ack a) nothing = blamed_behind signer UnexpectedKeyGenAck w

  message_behind : (p : ℕ) (w : RefWork) (m : SignedKeyGenMsgOf) → ref_message p (behind fs w) m ≡ behind fs (ref_message p w m)
  unfolding ref_message
  message_behind p w m = go (eqb m.era w.state.era) (is_signed w.state m) w.state.candidate
    where
      go : (a b : Bool) (f : Found CandidateRef)
          → cond a (cond b (ref_handled (behind fs w) m f) (blamed p InvalidKeyGenMessageSignature (behind fs w))) (blamed p InvalidKeyGenMessageEra (behind fs w))
          ≡ behind fs (cond a (cond b (ref_handled w m f) (blamed p InvalidKeyGenMessageSignature w)) (blamed p InvalidKeyGenMessageEra w))
      go true true (found g) = tracked_behind w m.id g m.message (node_index g.nodes m.id)
      go true true nothing = blamed_behind m.id (unexpected m.message) w
      go true false f = blamed_behind p InvalidKeyGenMessageSignature w
      go false b f = blamed_behind p InvalidKeyGenMessageEra w

  -- a list of them
  module _ {A : Type 0} (f : RefWork → A → RefWork) (one : (w : RefWork) (x : A) → f (behind fs w) x ≡ behind fs (f w x)) where
    fold_behind : (w : RefWork) (xs : List A) → foldl f (behind fs w) xs ≡ behind fs (foldl f w xs)
    fold_behind w [] = refl
    fold_behind w (x ∷ xs) = ap (λ (y : RefWork). foldl f y xs) (one w x) ∙ fold_behind (f w x) xs

  contrib_behind : (z : Sizes) (w : RefWork) (c : ContribOf) → ref_contrib z (behind fs w) c ≡ behind fs (ref_contrib z w c)
  unfolding ref_contrib
  contrib_behind z w c =
      ap (λ (y : RefWork). foldl (ref_message c.id) y c.messages) (fold_behind (ref_vote z c.id) (vote_behind z c.id) w c.votes)
      ∙ fold_behind (ref_message c.id) (message_behind c.id) (foldl (ref_vote z c.id) w c.votes) c.messages

-- a list, and then more of it
module _ {A B : Type 0} (f : B → A → B) where
  fold_append : (b : B) (xs ys : List A) → foldl f b (xs ++ ys) ≡ foldl f (foldl f b xs) ys
  fold_append b [] ys = refl
  fold_append b (x ∷ xs) ys = fold_append (f b x) xs ys

-- what a batch is answered with, by what its votes and key messages leave; and the answer less the faults
abbrev answered : RefState → ℕ → RefWork → RefAnswer
answered s inner w =
    cond (ref_row5 (s.era + inner)) (denied_ref s 5)
    (cond (cond (ref_ready w.state.candidate) false (wins_empty (ref_winner w.state))) (denied_ref s 7)
    (reported_ref s (s.era + inner) w.faults (ref_decide (s.era + inner + 1) w.state)))

abbrev pub faultless : Outcome RefReport → Outcome BatchOf
faultless (done r) = done r.batch
faultless (refused n) = refused n

-- two batches: the same state after them and the same answers but for one fault, which the first has among those of the second; they are a report's (`report_says`)
pub record OneMoreFault (z : Sizes) (s : RefState) (inner : ℕ) (f : Fault) (with without : List ContribOf) : Type 0 where
  pub same_state : (ref_batch z s inner with).state ≡ (ref_batch z s inner without).state
  pub same_answer : faultless (ref_batch z s inner with).answer ≡ faultless (ref_batch z s inner without).answer
  pub before : List Fault
  pub after : List Fault
  pub faults_with : (ref_contribs z s with).faults ≡ before ++ (f ∷ after)
  pub faults_without : (ref_contribs z s without).faults ≡ before ++ after

-- the message m stands behind the messages ms and before the messages ns of a contribution, that one behind the contributions front and before the contributions back
module _ (z : Sizes) (s : RefState) (front back : List ContribOf) (proposer : ℕ) (user : List ℕ) (votes : List SignedVoteOf) (ms ns : List SignedKeyGenMsgOf) where
  abbrev contrib : List SignedKeyGenMsgOf → ContribOf
  contrib xs = record { id = proposer; user = user; messages = xs; votes = votes }

  abbrev pub holding : List SignedKeyGenMsgOf → List ContribOf
  holding xs = front ++ (contrib xs ∷ back)

  -- what stands before it, and what is then left to do
  abbrev pub met : RefWork
  met = ref_contribs z s (front ++ (contrib ms ∷ []))

  abbrev rest : RefWork → RefWork
  rest w = foldl (ref_contrib z) (foldl (ref_message proposer) w ns) back

  rest_behind : (fs : List Fault) (w : RefWork) → rest (behind fs w) ≡ behind fs (rest w)
  rest_behind fs w =
      ap (λ (y : RefWork). foldl (ref_contrib z) y back) (fold_behind fs (ref_message proposer) (message_behind fs proposer) w ns)
      ∙ fold_behind fs (ref_contrib z) (contrib_behind fs z) (foldl (ref_message proposer) w ns) back

  met_then : (xs : List SignedKeyGenMsgOf) → ref_contribs z s (holding (ms ++ xs)) ≡ foldl (ref_contrib z) (foldl (ref_message proposer) met xs) back
  unfolding ref_contribs ref_contrib
  met_then xs =
      let w : RefWork = foldl (ref_contrib z) (record { state = s; faults = [] }) front in
      let v : RefWork = foldl (ref_vote z proposer) w votes in
      fold_append (ref_contrib z) (record { state = s; faults = [] }) front (contrib (ms ++ xs) ∷ back)
      ∙ ap (λ (y : RefWork). foldl (ref_contrib z) y back) (fold_append (ref_message proposer) v ms xs)
      ∙ ap (λ (y : RefWork). foldl (ref_contrib z) (foldl (ref_message proposer) y xs) back) (sym (fold_append (ref_contrib z) (record { state = s; faults = [] }) front (contrib ms ∷ [])))

  -- one fault and nothing else: all the rest is as without it
  module _ (m : SignedKeyGenMsgOf) (f : Fault) (one : ref_message proposer met m ≡ record { state = met.state; faults = met.faults ++ (f ∷ []) }) (inner : ℕ) where
    abbrev clean : RefWork
    clean = rest (record { state = met.state; faults = [] })

    left_with : ref_contribs z s (holding (ms ++ (m ∷ ns))) ≡ behind (met.faults ++ (f ∷ [])) clean
    left_with =
        met_then (m ∷ ns) ∙ ap rest (one ∙ λ t. record { state = met.state; faults = sym (append-nil (met.faults ++ (f ∷ []))) t })
        ∙ rest_behind (met.faults ++ (f ∷ [])) (record { state = met.state; faults = [] })

    left_without : ref_contribs z s (holding (ms ++ ns)) ≡ behind met.faults clean
    left_without =
        met_then ns ∙ ap rest (λ t. record { state = met.state; faults = sym (append-nil met.faults) t })
        ∙ rest_behind met.faults (record { state = met.state; faults = [] })

    by_work : (cs : List ContribOf) → ref_batch z s inner cs ≡ answered s inner (ref_contribs z s cs)
    unfolding ref_batch ref_row7 ref_steps
    by_work cs = refl

    -- faults decide nothing
    same : (fs gs : List Fault) (w : RefWork)
        → ((answered s inner (behind fs w)).state ≡ (answered s inner (behind gs w)).state)
        × (faultless (answered s inner (behind fs w)).answer ≡ faultless (answered s inner (behind gs w)).answer)
    same fs gs w = go (ref_row5 (s.era + inner)) (cond (ref_ready w.state.candidate) false (wins_empty (ref_winner w.state))) (ref_decide (s.era + inner + 1) w.state)
      where
        given : Bool → Bool → RefDecided → List Fault → RefAnswer
        given a b d xs = cond a (denied_ref s 5) (cond b (denied_ref s 7) (reported_ref s (s.era + inner) xs d))

        go : (a b : Bool) (d : RefDecided)
            → ((given a b d (fs ++ w.faults)).state ≡ (given a b d (gs ++ w.faults)).state)
            × (faultless (given a b d (fs ++ w.faults)).answer ≡ faultless (given a b d (gs ++ w.faults)).answer)
        go true b d = (refl, refl)
        go false true d = (refl, refl)
        go false false d = (refl, refl)

    one_more_fault : OneMoreFault z s inner f (holding (ms ++ (m ∷ ns))) (holding (ms ++ ns))
    one_more_fault =
        let q : ref_batch z s inner (holding (ms ++ (m ∷ ns))) ≡ answered s inner (behind (met.faults ++ (f ∷ [])) clean) = by_work (holding (ms ++ (m ∷ ns))) ∙ ap (answered s inner) left_with in
        let p : ref_batch z s inner (holding (ms ++ ns)) ≡ answered s inner (behind met.faults clean) = by_work (holding (ms ++ ns)) ∙ ap (answered s inner) left_without in
        let e = same (met.faults ++ (f ∷ [])) met.faults clean in
        record {
          same_state = ap (λ (a : RefAnswer). a.state) q ∙ e.0 ∙ sym (ap (λ (a : RefAnswer). a.state) p);
          same_answer = ap (λ (a : RefAnswer). faultless a.answer) q ∙ e.1 ∙ sym (ap (λ (a : RefAnswer). faultless a.answer) p);
          before = met.faults;
          after = clean.faults;
          faults_with = ap (λ (w : RefWork). w.faults) left_with ∙ append_assoc met.faults (f ∷ []) clean.faults;
          faults_without = ap (λ (w : RefWork). w.faults) left_without;
        }

  -- a leaving node's part, and its ack
  module _ (m : SignedKeyGenMsgOf) (h : Leaving met.state m) (inner : ℕ) where
    pub leaving_part_continues : (p : PartOf) → m.message ≡ part p
        → OneMoreFault z s inner (record { node_id = m.id; kind = UnexpectedKeyGenPart }) (holding (ms ++ (m ∷ ns))) (holding (ms ++ ns))
    leaving_part_continues p e = one_more_fault m _ (leaving_part proposer met m h p e) inner

    pub leaving_ack_continues : (a : AckOf) → m.message ≡ ack a
        → OneMoreFault z s inner (record { node_id = m.id; kind = UnexpectedKeyGenAck }) (holding (ms ++ (m ∷ ns))) (holding (ms ++ ns))
    leaving_ack_continues a e = one_more_fault m _ (leaving_ack proposer met m h a e) inner
