-- Single sentences of documents 01 (step 5) and 02, said of one part and of one ack: whom they are of, what is recorded, what is told, with every verdict.
-- Assumes nothing.
use Prim.Native.Nat.{ℕ}
use mathlib.Core.Path.{◌≡◌}
use mathlib.Core.List.{List, []}
use mathlib.Core.Bool.{true, false}
use lib.ListN.{length}
use borrow.Author.Tests.{eq-eqb, ne_eqb}
use Rattle.lists.specs.Lists.{Found, found, nothing, lookup, insert}
use Rattle.network_info.specs.NetworkInfo.{node_index, is_member}
use Rattle.sync_key_gen.specs.SyncKeyGen.{PartOf, AckOf}
use Rattle.fault_log.specs.declared.FaultKind.TheVariants.{UnexpectedKeyGenPart, UnexpectedKeyGenAck, SyncKeyGenPart, SyncKeyGenAck}
use Rattle.fault_log.specs.declared.PartFault.TheVariants.{RowCount, MultipleParts, DecryptRow, DeserializeRow, RowCommitment}
use Rattle.fault_log.specs.declared.AckFault.TheVariants.{ValueCount, MissingPart, DecryptValue, DeserializeValue, ValueCommitment}
use Rattle.key_gen.specs.KeyGen.{ProposalOf, KeyGenOf, quiet, ack_due, fault, row_effect, value_effect, acked, record_part, part_of_index, handle_part, record_ack, ack_of_index, handle_ack}

-- the part recorded of the node with index i, or none
abbrev part_at : KeyGenOf → ℕ → Found ProposalOf
part_at g i = lookup (λ (q : ProposalOf). q.proposer) g.parts i

-- the key generation with one part put in its place among those recorded, by ascending proposer
abbrev with_part : KeyGenOf → ProposalOf → KeyGenOf
with_part g q = record { our_id = g.our_id; nodes = g.nodes; parts = insert (λ (r : ProposalOf). r.proposer) q g.parts }

-- a part, whatever its verdict
module _ (g : KeyGenOf) (id : ℕ) (p : PartOf) where
  -- 02, CR 2: "A station being removed": its signer is not in the candidate map. "a fault on that signer, `UnexpectedKeyGenPart`": whatever its rows, its commitment
  -- and its verdict are, and nothing is recorded
  pub part_leaving : node_index g.nodes id ≡ nothing → (v : ℕ) → handle_part g id p v ≡ record { key_gen = g; effect = fault UnexpectedKeyGenPart }
  unfolding handle_part
  part_leaving e v = rw e

  module _ (i : ℕ) (signer : node_index g.nodes id ≡ found i) where
    -- "A part: wrong row count, .. are faults on the signer", before anything else of it is looked at
    pub part_row_count : (length p.rows ≡ length g.nodes → ⊥) → (v : ℕ) → handle_part g id p v ≡ record { key_gen = g; effect = fault (SyncKeyGenPart RowCount) }
    unfolding handle_part
    part_row_count h v = rw (signer, ne_eqb _ _ h)

    module _ (rows : length p.rows ≡ length g.nodes) where
      -- "then a different commitment"
      pub part_other : (q : ProposalOf) → part_at g i ≡ found q → (q.commit ≡ p.commit → ⊥) → (v : ℕ)
          → handle_part g id p v ≡ record { key_gen = g; effect = fault (SyncKeyGenPart MultipleParts) }
      unfolding handle_part part_of_index
      part_other q e h v = rw (signer, eq-eqb _ _ rows, e, ne_eqb _ _ h)

      -- "the same one again is nothing", so its verdict is ignored
      pub part_again : (q : ProposalOf) → part_at g i ≡ found q → q.commit ≡ p.commit → (v : ℕ) → handle_part g id p v ≡ record { key_gen = g; effect = quiet }
      unfolding handle_part part_of_index
      part_again q e h v = rw (signer, eq-eqb _ _ rows, e, eq-eqb _ _ h)

      module _ (new : part_at g i ≡ nothing) where
        -- "A new one is recorded before the verdict is looked at": under every verdict, with nobody's ack
        pub part_recorded : (v : ℕ) → (handle_part g id p v).key_gen ≡ with_part g (record { proposer = i; commit = p.commit; acks = []; good = [] })
        unfolding handle_part part_of_index record_part
        part_recorded v = rw (signer, eq-eqb _ _ rows, new)

        -- "An observer (own id not in the candidate map) ignores verdicts"
        pub part_observed : is_member g.nodes g.our_id ≡ false → (v : ℕ) → (handle_part g id p v).effect ≡ quiet
        unfolding handle_part part_of_index record_part
        part_observed o v = rw (signer, eq-eqb _ _ rows, new, o)

        -- "an ack for each newly recorded part with verdict 0": for the signer's index; "Verdicts 1 to 3 on a new one fault the signer"
        module _ (own : is_member g.nodes g.our_id ≡ true) where
          pub part_good : (handle_part g id p 0).effect ≡ ack_due i
          unfolding handle_part part_of_index record_part row_effect
          part_good = rw (signer, eq-eqb _ _ rows, new, own)

          pub part_decryption : (handle_part g id p 1).effect ≡ fault (SyncKeyGenPart DecryptRow)
          unfolding handle_part part_of_index record_part row_effect
          part_decryption = rw (signer, eq-eqb _ _ rows, new, own)

          pub part_deserialisation : (handle_part g id p 2).effect ≡ fault (SyncKeyGenPart DeserializeRow)
          unfolding handle_part part_of_index record_part row_effect
          part_deserialisation = rw (signer, eq-eqb _ _ rows, new, own)

          pub part_commitment : (handle_part g id p 3).effect ≡ fault (SyncKeyGenPart RowCommitment)
          unfolding handle_part part_of_index record_part row_effect
          part_commitment = rw (signer, eq-eqb _ _ rows, new, own)

-- an ack, whatever its verdict
module _ (g : KeyGenOf) (id : ℕ) (a : AckOf) where
  -- 02, CR 2: ".. or `UnexpectedKeyGenAck`", whatever its values, its proposer index and its verdict are
  pub ack_leaving : node_index g.nodes id ≡ nothing → (v : ℕ) → handle_ack g id a v ≡ record { key_gen = g; effect = fault UnexpectedKeyGenAck }
  unfolding handle_ack
  ack_leaving e v = rw e

  module _ (j : ℕ) (signer : node_index g.nodes id ≡ found j) where
    -- "An ack: value count, .. are faults", before anything else of it is looked at
    pub ack_value_count : (length a.values ≡ length g.nodes → ⊥) → (v : ℕ) → handle_ack g id a v ≡ record { key_gen = g; effect = fault (SyncKeyGenAck ValueCount) }
    unfolding handle_ack
    ack_value_count h v = rw (signer, ne_eqb _ _ h)

    module _ (values : length a.values ≡ length g.nodes) where
      -- "then missing part": of the proposer whose index the ack names
      pub ack_missing : part_at g a.proposer ≡ nothing → (v : ℕ) → handle_ack g id a v ≡ record { key_gen = g; effect = fault (SyncKeyGenAck MissingPart) }
      unfolding handle_ack ack_of_index
      ack_missing e v = rw (signer, eq-eqb _ _ values, e)

      module _ (q : ProposalOf) (part : part_at g a.proposer ≡ found q) where
        -- "a repeated one is nothing", so its verdict is ignored
        pub ack_again : lookup (λ x. x) q.acks j ≡ found j → (v : ℕ) → handle_ack g id a v ≡ record { key_gen = g; effect = quiet }
        unfolding handle_ack ack_of_index
        ack_again e v = rw (signer, eq-eqb _ _ values, part, e)

        module _ (new : lookup (λ x. x) q.acks j ≡ nothing) where
          -- the part with the signer among its acknowledgers, and the good values given
          abbrev acked_with : List ℕ → ProposalOf
          acked_with good = record { proposer = q.proposer; commit = q.commit; acks = insert (λ x. x) j q.acks; good = good }

          -- "a new one counts before its verdict": an observer counts it, and ignores its verdict
          pub ack_observed : is_member g.nodes g.our_id ≡ false → (v : ℕ) → handle_ack g id a v ≡ record { key_gen = with_part g (acked_with q.good); effect = quiet }
          unfolding handle_ack ack_of_index record_ack acked
          ack_observed o v = rw (signer, eq-eqb _ _ values, part, new, o)

          module _ (own : is_member g.nodes g.our_id ≡ true) where
            -- verdict 0: the signer's value is good as well
            pub ack_good : handle_ack g id a 0 ≡ record { key_gen = with_part g (acked_with (insert (λ x. x) j q.good)); effect = quiet }
            unfolding handle_ack ack_of_index record_ack acked value_effect
            ack_good = rw (signer, eq-eqb _ _ values, part, new, own)

            -- "Verdicts 1 to 3 on a new one fault the signer": it counts, and its value is not good
            pub ack_decryption : handle_ack g id a 1 ≡ record { key_gen = with_part g (acked_with q.good); effect = fault (SyncKeyGenAck DecryptValue) }
            unfolding handle_ack ack_of_index record_ack acked value_effect
            ack_decryption = rw (signer, eq-eqb _ _ values, part, new, own)

            pub ack_deserialisation : handle_ack g id a 2 ≡ record { key_gen = with_part g (acked_with q.good); effect = fault (SyncKeyGenAck DeserializeValue) }
            unfolding handle_ack ack_of_index record_ack acked value_effect
            ack_deserialisation = rw (signer, eq-eqb _ _ values, part, new, own)

            pub ack_commitment : handle_ack g id a 3 ≡ record { key_gen = with_part g (acked_with q.good); effect = fault (SyncKeyGenAck ValueCommitment) }
            unfolding handle_ack ack_of_index record_ack acked value_effect
            ack_commitment = rw (signer, eq-eqb _ _ values, part, new, own)
