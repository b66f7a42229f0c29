-- Step 5, sentence by sentence: what a part and an ack do to the reference state, every verdict 0.
-- Assumes nothing.
use Prim.Native.Nat.{ℕ}
use mathlib.Core.Path.{◌≡◌, refl}
use mathlib.Core.List.{[], ◌∷◌, ◌++◌}
use mathlib.Core.Logic.{◌⊎◌}
use lib.ListN.{length}
use borrow.Author.Tests.{eq-eqb, ne_eqb}
use Rattle.lists.specs.Lists.{found, nothing, lookup, insert}
use Rattle.network_info.specs.NetworkInfo.{node_index, key_of}
use Rattle.sync_key_gen.specs.SyncKeyGen.{PartOf, AckOf}
use Rattle.key_gen_message.specs.KeyGenMessage.{KeyGenMessageOf, part, ack, SignedKeyGenMsgOf}
use Rattle.fault_log.specs.declared.FaultKind.TheVariants.{SyncKeyGenPart, SyncKeyGenAck}
use Rattle.fault_log.specs.declared.PartFault.TheVariants.{RowCount, MultipleParts}
use Rattle.fault_log.specs.declared.AckFault.TheVariants.{ValueCount, MissingPart}
use Rattle.reference.specs.Reference.{PartRef, CandidateRef}
use Rattle.reference.specs.Step.{RefWork, ref_part_found, ref_ack_found, ref_tracked, ref_message}
use Rattle.reference.proofs.MessageLaws.{signed_true}

-- key generation runs; the message is of the current era, under the signer's current or candidate key; the signer has an index in the candidate map
module _ (proposer : ℕ) (w : RefWork) (g : CandidateRef) (signer sig i : ℕ) (running : w.state.candidate ≡ found g)
    (signed : (key_of w.state.nodes signer ≡ found sig) ⊎ (key_of g.nodes signer ≡ found sig)) (member : node_index g.nodes signer ≡ found i) where
  abbrev pub sent : KeyGenMessageOf → SignedKeyGenMsgOf
  sent x = record { era = w.state.era; id = signer; message = x; sig = sig }

  tracked : (x : KeyGenMessageOf) → ref_message proposer w (sent x) ≡ ref_tracked signer g w x (found i)
  unfolding ref_message
  tracked x = rw (eq-eqb w.state.era w.state.era refl, signed_true w.state (sent x) g running signed, running, member)

  -- "A part: wrong row count .. [is a fault] on the signer", whatever is recorded: as many rows as nodes in the candidate map
  pub row_count : (p : PartOf) → (length p.rows ≡ length g.nodes → ⊥)
      → ref_message proposer w (sent (part p)) ≡ record { state = w.state; faults = w.faults ++ (record { node_id = signer; kind = SyncKeyGenPart RowCount } ∷ []) }
  row_count p h = rw (tracked (part p), ne_eqb (length p.rows) (length g.nodes) h)

  module _ (p : PartOf) (rows : length p.rows ≡ length g.nodes) where
    by_part : ref_message proposer w (sent (part p)) ≡ ref_part_found signer g w i p (lookup (λ (x : PartRef). x.proposer) g.parts i)
    by_part = rw (tracked (part p), eq-eqb (length p.rows) (length g.nodes) rows)

    -- "then a different commitment, [is a fault] on the signer"
    pub other_commitment : (q : PartRef) → lookup (λ (x : PartRef). x.proposer) g.parts i ≡ found q → (q.commit ≡ p.commit → ⊥)
        → ref_message proposer w (sent (part p)) ≡ record { state = w.state; faults = w.faults ++ (record { node_id = signer; kind = SyncKeyGenPart MultipleParts } ∷ []) }
    other_commitment q e h = rw (by_part, e, ne_eqb q.commit p.commit h)

    -- "the same one again is nothing"
    pub part_again : (q : PartRef) → lookup (λ (x : PartRef). x.proposer) g.parts i ≡ found q → q.commit ≡ p.commit → ref_message proposer w (sent (part p)) ≡ w
    part_again q e h = rw (by_part, e, eq-eqb q.commit p.commit h)

    -- "A new one is recorded": under the signer's index, with its commitment, acknowledged by nobody
    pub part_recorded : lookup (λ (x : PartRef). x.proposer) g.parts i ≡ nothing
        → ref_message proposer w (sent (part p))
        ≡ record {
          state = record {
            era = w.state.era;
            nodes = w.state.nodes;
            params = w.state.params;
            votes = w.state.votes;
            candidate = found (record { nodes = g.nodes; parts = insert (λ (x : PartRef). x.proposer) (record { proposer = i; commit = p.commit; acks = [] }) g.parts });
          };
          faults = w.faults;
        }
    part_recorded e = rw (by_part, e)

  -- "An ack: value count .. [is a fault]" on the signer, whether or not the part is there
  pub value_count : (a : AckOf) → (length a.values ≡ length g.nodes → ⊥)
      → ref_message proposer w (sent (ack a)) ≡ record { state = w.state; faults = w.faults ++ (record { node_id = signer; kind = SyncKeyGenAck ValueCount } ∷ []) }
  value_count a h = rw (tracked (ack a), ne_eqb (length a.values) (length g.nodes) h)

  module _ (a : AckOf) (values : length a.values ≡ length g.nodes) where
    by_ack : ref_message proposer w (sent (ack a)) ≡ ref_ack_found signer g w i (lookup (λ (x : PartRef). x.proposer) g.parts a.proposer)
    by_ack = rw (tracked (ack a), eq-eqb (length a.values) (length g.nodes) values)

    -- "then missing part, [is a fault]" on the signer
    pub missing_part : lookup (λ (x : PartRef). x.proposer) g.parts a.proposer ≡ nothing
        → ref_message proposer w (sent (ack a)) ≡ record { state = w.state; faults = w.faults ++ (record { node_id = signer; kind = SyncKeyGenAck MissingPart } ∷ []) }
    missing_part e = rw (by_ack, e)

    -- "a repeated one is nothing": the signer's index is among the acknowledgers
    pub ack_again : (q : PartRef) → lookup (λ (x : PartRef). x.proposer) g.parts a.proposer ≡ found q → (j : ℕ) → lookup (λ x. x) q.acks i ≡ found j
        → ref_message proposer w (sent (ack a)) ≡ w
    ack_again q e j h = rw (by_ack, e, h)

    -- "a new one counts": the signer's index is one more acknowledger of that part
    pub ack_counts : (q : PartRef) → lookup (λ (x : PartRef). x.proposer) g.parts a.proposer ≡ found q → lookup (λ x. x) q.acks i ≡ nothing
        → ref_message proposer w (sent (ack a))
        ≡ record {
          state = record {
            era = w.state.era;
            nodes = w.state.nodes;
            params = w.state.params;
            votes = w.state.votes;
            candidate =
                found (record { nodes = g.nodes; parts = insert (λ (x : PartRef). x.proposer) (record { proposer = q.proposer; commit = q.commit; acks = insert (λ x. x) i q.acks }) g.parts });
          };
          faults = w.faults;
        }
    ack_counts q e h = rw (by_ack, e, h)
