-- Key generation stays formed: a fresh one, a sender counted, a part or an ack handled.
-- Assumes nothing.
use Prim.Native.Nat.{ℕ, ◌+◌, ◌^◌, ◌≤◌, ◌<◌}
use mathlib.Core.Path.{◌≡◌, refl, ◌∙◌, subst}
use mathlib.Core.List.{List, []}
use mathlib.Core.Bool.{Bool, true, false, not, cond, ◌&&◌}
use native.Mathlib.Omega.{arith}
use lib.Dec.{eqb}
use lib.ListN.{length, get_or, length-set, length-replicate}
use borrow.Author.Tests.{eqb-true, eqb-false}
use Rattle.lists.specs.Lists.{Found, found, nothing, lookup, insert}
use Rattle.lists.proofs.SortedLaws.{insert_lookup, insert_other}
use Rattle.bincode.specs.Sizes.{Sizes}
use Rattle.bincode.specs.Stands.{All}
use Rattle.pub_key_map.specs.declared.Node.{Node}
use Rattle.network_info.specs.NetworkInfo.{node_index}
use Rattle.network_info.proofs.IndexLaws.{index_found}
use Rattle.signed_votes.proofs.VotesLaws.{AscendsFrom, insert_ascends, all_insert}
use Rattle.sync_key_gen.specs.SyncKeyGen.{PartOf, AckOf, PartOk}
use Rattle.key_gen.specs.KeyGen as key_gen
use Rattle.key_gen.specs.KeyGen.{ProposalOf, KeyGenOf, Handled, handled, with_parts, observes, by_proposer, record_part, part_of_index, part_by, handle_part, acked, record_ack, is_here, ack_of_index, ack_by, handle_ack}
use Rattle.fault_log.specs.declared.FaultKind.TheVariants.{SyncKeyGenPart, SyncKeyGenAck}
use Rattle.fault_log.specs.declared.PartFault.TheVariants.{RowCount, MultipleParts}
use Rattle.fault_log.specs.declared.AckFault.TheVariants.{ValueCount}
use Rattle.key_gen_state.specs.KeyGenState.{KeyGenStateOf, raised, counted_by, sender_place, count_messages}
use Rattle.key_gen_state.proofs.CountLaws.{raised_le}
use Rattle.key_gen_message.specs.KeyGenMessage.{KeyGenMessageOf, part, ack, MessageOk}
use Rattle.dynamic_honey_badger.specs.State.{fresh_key_gen}
use Rattle.steps.specs.Steps.{handled_by}
use Rattle.agreement.specs.Formed.{MapFormed, PartFormed, KeyGenFormed}
use Rattle.agreement.proofs.AllLaws.{all_lookup, all_then, all_set, all_replicate, all_get_d}

-- a part without acknowledgements
new_part : (n i commit : ℕ) → i < n → commit < 256 ^ 8 → PartFormed n (record { proposer = i; commit = commit; acks = []; good = [] })
new_part n i commit h fits =
    record { proposer_below = h; commit_fits = fits; acks_ascend = tt; acks_below = tt; good_ascend = tt; good_acked = tt; good_below = tt }

-- who has acknowledged is still found with one more
still_acked : (j : ℕ) (acks js : List ℕ) → All (λ (i : ℕ). lookup (λ x. x) acks i ≡ found i) js → All (λ (i : ℕ). lookup (λ x. x) (insert (λ x. x) j acks) i ≡ found i) js
still_acked j acks js h = all_then (λ (i : ℕ). lookup (λ x. x) acks i ≡ found i) (λ (i : ℕ). lookup (λ x. x) (insert (λ x. x) j acks) i ≡ found i) (λ i p. go i p (eqb j i) refl) js h
  where
    go : (i : ℕ) → lookup (λ x. x) acks i ≡ found i → (b : Bool) → eqb j i ≡ b → lookup (λ x. x) (insert (λ x. x) j acks) i ≡ found i
    go i p true e = subst (λ (k : ℕ). lookup (λ x. x) (insert (λ x. x) j acks) k ≡ found k) (eqb-true j i e) (insert_lookup (λ x. x) j acks)
    go i p false e = insert_other (λ x. x) j acks i (eqb-false j i e) ∙ p

-- a part with one acknowledgement more
acked_part : (n j : ℕ) (q : ProposalOf) (good : Bool) → j < n → PartFormed n q → PartFormed n (acked q j good)
unfolding acked
acked_part n j q good h f =
    record {
      proposer_below = f.proposer_below;
      commit_fits = f.commit_fits;
      acks_ascend = insert_ascends (λ x. x) j q.acks f.acks_ascend;
      acks_below = all_insert (λ i. i < n) (λ x. x) j h q.acks f.acks_below;
      good_ascend = ascend good;
      good_acked = acknowledged good;
      good_below = go good;
    }
  where
    ascend : (b : Bool) → AscendsFrom (λ x. x) 0 (cond b (insert (λ x. x) j q.good) q.good)
    ascend true = insert_ascends (λ x. x) j q.good f.good_ascend
    ascend false = f.good_ascend

    acknowledged : (b : Bool) → All (λ i. lookup (λ x. x) (insert (λ x. x) j q.acks) i ≡ found i) (cond b (insert (λ x. x) j q.good) q.good)
    acknowledged true =
        all_insert (λ i. lookup (λ x. x) (insert (λ x. x) j q.acks) i ≡ found i) (λ x. x) j (insert_lookup (λ x. x) j q.acks) q.good
        (still_acked j q.acks q.good f.good_acked)
    acknowledged false = still_acked j q.acks q.good f.good_acked

    go : (b : Bool) → All (λ i. i < n) (cond b (insert (λ x. x) j q.good) q.good)
    go true = all_insert (λ i. i < n) (λ x. x) j h q.good f.good_below
    go false = f.good_below

module _ (z : Sizes) where
  -- a fresh key generation
  pub fresh_formed : (id : ℕ) (ns : List Node) → MapFormed z ns → KeyGenFormed z id (fresh_key_gen z id ns)
  fresh_formed id ns f =
      record {
        own_id = refl;
        nodes_formed = f;
        parts_ascend = tt;
        parts_formed = tt;
        counts_places = length-replicate (z.nodes + z.nodes) 0;
        counts_within = all_replicate (λ c. c ≤ length ns + 2) (z.nodes + z.nodes) 0 (omega arith);
      }

  -- a sender counted
  pub counted_formed : (current : List Node) (own : ℕ) (g : KeyGenStateOf) (id : ℕ) → KeyGenFormed z own g → KeyGenFormed z own (count_messages z current g id).state
  unfolding count_messages
  counted_formed current own g id f = go (sender_place z current g.key_gen.nodes id)
    where
      n : ℕ
      n = length g.key_gen.nodes

      go : (i : Found ℕ) → KeyGenFormed z own (counted_by g i).state
      go nothing = f
      go (found i) =
          record {
            own_id = f.own_id;
            nodes_formed = f.nodes_formed;
            parts_ascend = f.parts_ascend;
            parts_formed = f.parts_formed;
            counts_places = length-set g.counts i (raised n (get_or g.counts i 0)) ∙ f.counts_places;
            counts_within =
                all_set (λ c. c ≤ n + 2) g.counts i (raised n (get_or g.counts i 0)) f.counts_within
                (raised_le n (get_or g.counts i 0) (all_get_d (λ c. c ≤ n + 2) g.counts i 0 f.counts_within (omega arith)));
          }

  -- key messages, with the counts as they are
  module _ (own : ℕ) (k : KeyGenOf) (counts : List ℕ) where
    abbrev Kept : KeyGenOf → Type 0
    Kept h = KeyGenFormed z own (record { key_gen = h; counts = counts })

    module _ (f : Kept k) where
      -- one part put in
      part_put : (q : ProposalOf) → PartFormed (length k.nodes) q → Kept (with_parts k (insert by_proposer q k.parts))
      part_put q p =
          record {
            own_id = f.own_id;
            nodes_formed = f.nodes_formed;
            parts_ascend = insert_ascends by_proposer q k.parts f.parts_ascend;
            parts_formed = all_insert (PartFormed (length k.nodes)) by_proposer q p k.parts f.parts_formed;
            counts_places = f.counts_places;
            counts_within = f.counts_within;
          }

      -- a part, by its signer's index
      part_formed : (q : PartOf) → PartOk z q → (v id : ℕ) → Kept (handle_part k id q v).key_gen
      unfolding handle_part part_of_index record_part
      part_formed q o v id = go (node_index k.nodes id) refl
        where
          again : (x : ProposalOf) (b : Bool) → Kept (cond {A = Handled} b (handled k key_gen.quiet) (handled k (key_gen.fault (SyncKeyGenPart MultipleParts)))).key_gen
          again x true = f
          again x false = f

          by : (i : ℕ) → i < length k.nodes → (b : Bool) (x : Found ProposalOf)
              → Kept (cond {A = Handled} b (part_of_index k i q v x) (handled k (key_gen.fault (SyncKeyGenPart RowCount)))).key_gen
          by i h true (found x) = again x (eqb x.commit q.commit)
          by i h true nothing = part_put (record { proposer = i; commit = q.commit; acks = []; good = [] }) (new_part (length k.nodes) i q.commit h o.commit_fits)
          by i h false x = f

          go : (i : Found ℕ) → node_index k.nodes id ≡ i → Kept (part_by k q v i).key_gen
          go nothing e = f
          go (found i) e = by i (omega (arith, (index_found k.nodes 0 i id e).1)) (eqb (length q.rows) (length k.nodes)) (lookup by_proposer k.parts i)

      -- an ack, by its signer's index
      ack_formed : (a : AckOf) (v id : ℕ) → Kept (handle_ack k id a v).key_gen
      unfolding handle_ack ack_of_index record_ack
      ack_formed a v id = go (node_index k.nodes id) refl
        where
          by : (j : ℕ) → j < length k.nodes → (b : Bool) (x : Found ProposalOf) → lookup by_proposer k.parts a.proposer ≡ x
              → Kept (cond {A = Handled} b (ack_of_index k j v x) (handled k (key_gen.fault (SyncKeyGenAck ValueCount)))).key_gen
          by j h true (found q) e = once (is_here (lookup (λ x. x) q.acks j))
            where
              once : (b : Bool) → Kept (cond {A = Handled} b (handled k key_gen.quiet) (record_ack k q j v)).key_gen
              once true = f
              once false =
                  part_put (acked q j (not (observes k) && eqb v 0))
                  (acked_part (length k.nodes) j q (not (observes k) && eqb v 0) h
                  (all_lookup (PartFormed (length k.nodes)) by_proposer k.parts a.proposer q f.parts_formed e))
          by j h true nothing e = f
          by j h false x e = f

          go : (j : Found ℕ) → node_index k.nodes id ≡ j → Kept (ack_by k a v j).key_gen
          go nothing e = f
          go (found j) e = by j (omega (arith, (index_found k.nodes 0 j id e).1)) (eqb (length a.values) (length k.nodes)) (lookup by_proposer k.parts a.proposer) refl

      -- either kind
      pub handled_formed : (x : KeyGenMessageOf) → MessageOk z x → (v id : ℕ) → Kept (handled_by k id x v).key_gen
      handled_formed (part q) o v id = part_formed q o v id
      handled_formed (ack a) o v id = ack_formed a v id
