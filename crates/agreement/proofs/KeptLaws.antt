-- What steps 2 to 5 keep of the reference state: all but the stored votes and the parts.
-- Assumes nothing.
use Prim.Native.Nat.{ℕ}
use mathlib.Core.Path.{◌≡◌, refl, sym, ap, ◌∙◌}
use mathlib.Core.List.{List, [], ◌∷◌}
use mathlib.Core.Bool.{Bool, true, false, cond, ◌&&◌}
use mathlib.Core.Logic.{inl, inr, ⊎_elim}
use native.Mathlib.Omega.{arith}
use lib.Dec.{eqb}
use lib.ListN.{length}
use Rattle.lists.specs.Lists.{Found, found, nothing, map_found, lookup, insert, insert_within}
use Rattle.bincode.specs.Sizes.{Sizes}
use Rattle.bincode.specs.Items.{foldl}
use Rattle.bincode.specs.Stands.{All}
use Rattle.pub_key_map.specs.declared.Node.{Node}
use Rattle.network_info.specs.NetworkInfo.{node_index, is_member, key_of}
use Rattle.fault_log.specs.declared.FaultKind.TheVariants.{InvalidCommittedVote, InvalidKeyGenMessageSignature, InvalidKeyGenMessageEra, SyncKeyGenPart, SyncKeyGenAck}
use Rattle.fault_log.specs.declared.PartFault.TheVariants.{RowCount, MultipleParts}
use Rattle.fault_log.specs.declared.AckFault.TheVariants.{ValueCount}
use Rattle.votes.specs.Votes.{SignedVoteOf}
use Rattle.sync_key_gen.specs.SyncKeyGen.{PartOf}
use Rattle.key_gen_message.specs.KeyGenMessage.{KeyGenMessageOf, part, ack, SignedKeyGenMsgOf}
use Rattle.internal_contrib.specs.InternalContrib.{ContribOf}
use Rattle.signed_votes.proofs.VotesLaws.{all_within}
use Rattle.reference.specs.Reference.{PartRef, CandidateRef, RefState}
use Rattle.reference.specs.Terms.{Leaving}
use Rattle.reference.specs.Step.{RefWork, blamed, is_key_of, by_voter, is_old, votes_now, ref_vote, by_index, candidate_now, ref_part_found, is_in, ref_ack_found, ref_tracked, ref_handled, is_signed, ref_message, ref_contrib, ref_contribs}

-- what holds of every value holds of each element
module _ {A : Type 0} (P : A → Type 0) where
  pub all_any : ((a : A) → P a) → (xs : List A) → All P xs
  all_any p [] = tt
  all_any p (x ∷ xs) = (p x, all_any p xs)

-- the candidate map
abbrev pub map_of : CandidateRef → List Node
map_of g = g.nodes

module _ (P : SignedVoteOf → Type 0) where
  -- era, maps and parameters are the same, and stored votes are such as P holds of, where they were
  pub record Kept (s t : RefState) : Type 0 where
    pub era : t.era ≡ s.era
    pub nodes : t.nodes ≡ s.nodes
    pub params : t.params ≡ s.params
    pub candidate : map_found map_of t.candidate ≡ map_found map_of s.candidate
    pub votes : All P s.votes → All P t.votes

  abbrev kept_same : (s : RefState) → Kept s s
  kept_same s = record { era = refl; nodes = refl; params = refl; candidate = refl; votes = λ a. a }

  abbrev kept_then : (r s t : RefState) → Kept r s → Kept s t → Kept r t
  kept_then r s t a b =
      record {
        era = b.era ∙ a.era;
        nodes = b.nodes ∙ a.nodes;
        params = b.params ∙ a.params;
        candidate = b.candidate ∙ a.candidate;
        votes = λ v. b.votes (a.votes v);
      }

  -- a fold keeps what each of its steps keeps
  module _ {A : Type 0} (Q : A → Type 0) (f : RefWork → A → RefWork) (one : (w : RefWork) (a : A) → Q a → Kept w.state (f w a).state) where
    fold_kept : (w : RefWork) (xs : List A) → All Q xs → Kept w.state (foldl f w xs).state
    fold_kept w [] qs = kept_same w.state
    fold_kept w (x ∷ xs) qs = kept_then w.state (f w x).state (foldl f (f w x) xs).state (one w x qs.0) (fold_kept (f w x) xs qs.1)

  -- a vote
  vote_keeps : (z : Sizes) (p : ℕ) (w : RefWork) (v : SignedVoteOf) → P v → Kept w.state (ref_vote z p w v).state
  unfolding ref_vote
  vote_keeps z p w v q =
      go (eqb v.vote.era w.state.era && is_key_of v.sig (key_of w.state.nodes v.voter)) (is_old v (lookup by_voter w.state.votes v.voter))
    where
      go : (a b : Bool)
          → Kept w.state
          (cond {A = RefWork} a
          (cond b w (record { state = votes_now w.state (insert_within by_voter z.nodes v w.state.votes); faults = w.faults }))
          (blamed p InvalidCommittedVote w)).state
      go false b = kept_same w.state
      go true true = kept_same w.state
      go true false = record { era = refl; nodes = refl; params = refl; candidate = refl; votes = all_within P by_voter v q z.nodes w.state.votes }

  -- a key message
  module _ (w : RefWork) where
    parts_kept : (g : CandidateRef) (ps : List PartRef) → w.state.candidate ≡ found g → Kept w.state (candidate_now w g ps).state
    parts_kept g ps e = record { era = refl; nodes = refl; params = refl; candidate = sym (ap (map_found map_of) e); votes = λ a. a }

    part_keeps : (signer : ℕ) (g : CandidateRef) → w.state.candidate ≡ found g → (i : ℕ) (p : PartOf) (x : Found PartRef) → Kept w.state (ref_part_found signer g w i p x).state
    part_keeps signer g e i p nothing = parts_kept g (insert by_index (record { proposer = i; commit = p.commit; acks = [] }) g.parts) e
    part_keeps signer g e i p (found q) = go (eqb q.commit p.commit)
      where
        go : (b : Bool) → Kept w.state (cond {A = RefWork} b w (blamed signer (SyncKeyGenPart MultipleParts) w)).state
        go true = kept_same w.state
        go false = kept_same w.state

    ack_keeps : (signer : ℕ) (g : CandidateRef) → w.state.candidate ≡ found g → (j : ℕ) (x : Found PartRef) → Kept w.state (ref_ack_found signer g w j x).state
    ack_keeps signer g e j nothing = kept_same w.state
    ack_keeps signer g e j (found q) = go (is_in (lookup (λ x. x) q.acks j)) (insert by_index (record { proposer = q.proposer; commit = q.commit; acks = insert (λ x. x) j q.acks }) g.parts)
      where
        go : (b : Bool) (ps : List PartRef) → Kept w.state (cond {A = RefWork} b w (candidate_now w g ps)).state
        go true ps = kept_same w.state
        go false ps = parts_kept g ps e

    tracked_keeps : (signer : ℕ) (g : CandidateRef) → w.state.candidate ≡ found g → (m : KeyGenMessageOf) (i : Found ℕ) → Kept w.state (ref_tracked signer g w m i).state
    tracked_keeps signer g e (part p) nothing = kept_same w.state
    tracked_keeps signer g e (ack a) nothing = kept_same w.state
    tracked_keeps signer g e (part p) (found i) = go (eqb (length p.rows) (length g.nodes))
      where
        go : (b : Bool) → Kept w.state (cond {A = RefWork} b (ref_part_found signer g w i p (lookup by_index g.parts i)) (blamed signer (SyncKeyGenPart RowCount) w)).state
        go true = part_keeps signer g e i p (lookup by_index g.parts i)
        go false = kept_same w.state
    tracked_keeps signer g e (ack a) (found j) = go (eqb (length a.values) (length g.nodes))
      where
        go : (b : Bool) → Kept w.state (cond {A = RefWork} b (ref_ack_found signer g w j (lookup by_index g.parts a.proposer)) (blamed signer (SyncKeyGenAck ValueCount) w)).state
        go true = ack_keeps signer g e j (lookup by_index g.parts a.proposer)
        go false = kept_same w.state

    message_keeps : (p : ℕ) (m : SignedKeyGenMsgOf) → Kept w.state (ref_message p w m).state
    unfolding ref_message
    message_keeps p m = go (eqb m.era w.state.era) (is_signed w.state m) w.state.candidate refl
      where
        go : (a b : Bool) (x : Found CandidateRef) → w.state.candidate ≡ x
            → Kept w.state (cond {A = RefWork} a (cond b (ref_handled w m x) (blamed p InvalidKeyGenMessageSignature w)) (blamed p InvalidKeyGenMessageEra w)).state
        go true true (found g) e = tracked_keeps m.id g e m.message (node_index g.nodes m.id)
        go true true nothing e = kept_same w.state
        go true false x e = kept_same w.state
        go false b x e = kept_same w.state

  -- a contribution, and all of a batch
  abbrev Voted : ContribOf → Type 0
  Voted c = All P c.votes

  contrib_keeps : (z : Sizes) (w : RefWork) (c : ContribOf) → Voted c → Kept w.state (ref_contrib z w c).state
  unfolding ref_contrib
  contrib_keeps z w c q =
      let v : RefWork = foldl (ref_vote z c.id) w c.votes in
      kept_then w.state v.state (foldl (ref_message c.id) v c.messages).state
      (fold_kept P (ref_vote z c.id) (vote_keeps z c.id) w c.votes q)
      (fold_kept (λ m. Unit {0}) (ref_message c.id) (λ w m u. message_keeps w c.id m) v c.messages (all_any (λ m. Unit {0}) (λ m. tt) c.messages))

  pub contribs_keep : (z : Sizes) (s : RefState) (cs : List ContribOf) → All Voted cs → Kept s (ref_contribs z s cs).state
  unfolding ref_contribs
  contribs_keep z s cs q = fold_kept Voted (ref_contrib z) (contrib_keeps z) (record { state = s; faults = [] }) cs q

-- 02, CR 2: and so who is leaving: a key message that is a leaving node's before a batch is one wherever it is met in it
pub leaving_kept : (z : Sizes) (s : RefState) (cs : List ContribOf) (m : SignedKeyGenMsgOf) → Leaving s m → Leaving (ref_contribs z s cs).state m
leaving_kept z s cs m h = go t.candidate refl (k.candidate ∙ ap (map_found map_of) h.running)
  where
    Any : SignedVoteOf → Type 0
    Any v = Unit {0}

    t : RefState
    t = (ref_contribs z s cs).state

    k : Kept Any s t
    k = contribs_keep Any z s cs (all_any (Voted Any) (λ c. all_any Any (λ v. tt) c.votes) cs)

    go : (f : Found CandidateRef) → t.candidate ≡ f → map_found map_of f ≡ found h.candidate.nodes → Leaving t m
    go (found g) e q =
        let ns : g.nodes ≡ h.candidate.nodes = cc in
        record {
          candidate = g;
          running = e;
          right_era = h.right_era ∙ sym k.era;
          signed = ⊎_elim (λ p. inl (ap (λ (xs : List Node). key_of xs m.id) k.nodes ∙ p)) (λ p. inr (ap (λ (xs : List Node). key_of xs m.id) ns ∙ p)) h.signed;
          outside = ap (λ (xs : List Node). is_member xs m.id) ns ∙ h.outside;
        }
    go nothing e q = absurd (let y : ◌≡◌ {A = ℕ} 0 1 = cc in let w : ⊥ = omega arith in w)
