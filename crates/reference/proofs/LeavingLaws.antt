-- 02, CR 2: the key message of a leaving node, one that is not in the candidate map. It is one fault of its signer, the id in the message, whatever else is wrong with
-- it, and nothing else; and no batch is refused for it.
-- Assumes nothing.
use Prim.Native.Nat.{ℕ}
use mathlib.Core.Path.{◌≡◌, refl, sym, ◌∙◌}
use mathlib.Core.List.{List, [], ◌∷◌, ◌++◌}
use mathlib.Core.Bool.{false}
use mathlib.Core.Logic.{◌⊎◌, inl, inr}
use native.Mathlib.Omega.{arith}
use borrow.Author.Tests.{eq-eqb}
use Rattle.lists.specs.Lists.{Found, found, nothing}
use Rattle.lists.proofs.ListLaws.{false_true}
use Rattle.pub_key_map.specs.declared.Node.{Node}
use Rattle.network_info.specs.NetworkInfo.{node_index, is_member, key_of}
use Rattle.network_info.proofs.IndexLaws.{index_found, index_nothing}
use Rattle.sync_key_gen.specs.SyncKeyGen.{PartOf, AckOf}
use Rattle.key_gen_message.specs.KeyGenMessage.{part, ack, SignedKeyGenMsgOf}
use Rattle.fault_log.specs.declared.FaultKind.TheVariants.{UnexpectedKeyGenPart, UnexpectedKeyGenAck}
use Rattle.reference.specs.Reference.{CandidateRef, RefState}
use Rattle.reference.specs.Terms.{Leaving}
use Rattle.reference.specs.Step.{RefWork, ref_message}
use Rattle.reference.proofs.MessageLaws.{signed_true}

-- who is no member has no index
no_index : (ns : List Node) (id : ℕ) → is_member ns id ≡ false → node_index ns id ≡ nothing
no_index ns id e = go (node_index ns id) refl
  where
    go : (f : Found ℕ) → node_index ns id ≡ f → f ≡ nothing
    go (found i) q = absurd (false_true (sym e ∙ (index_found ns 0 i id q).2))
    go nothing q = refl

-- key generation runs; the message is of the current era, under the signer's current or candidate key
module _ (proposer : ℕ) (w : RefWork) (m : SignedKeyGenMsgOf) (g : CandidateRef) (right_era : m.era ≡ w.state.era) (running : w.state.candidate ≡ found g)
    (signed : (key_of w.state.nodes m.id ≡ found m.sig) ⊎ (key_of g.nodes m.id ≡ found m.sig)) where
  -- "a fault on that signer": the signer has no index in the candidate map, so that nothing of rows, values, commitment or missing part is looked at
  module _ (outside : node_index g.nodes m.id ≡ nothing) where
    pub unindexed_part : (p : PartOf) → m.message ≡ part p
        → ref_message proposer w m ≡ record { state = w.state; faults = w.faults ++ (record { node_id = m.id; kind = UnexpectedKeyGenPart } ∷ []) }
    unfolding ref_message
    unindexed_part p e = rw (eq-eqb m.era w.state.era right_era, signed_true w.state m g running signed, running, outside, e)

    pub unindexed_ack : (a : AckOf) → m.message ≡ ack a
        → ref_message proposer w m ≡ record { state = w.state; faults = w.faults ++ (record { node_id = m.id; kind = UnexpectedKeyGenAck } ∷ []) }
    unfolding ref_message
    unindexed_ack a e = rw (eq-eqb m.era w.state.era right_era, signed_true w.state m g running signed, running, outside, e)

-- the same in 02's words
module _ (proposer : ℕ) (w : RefWork) (m : SignedKeyGenMsgOf) (h : Leaving w.state m) where
  pub leaving_part : (p : PartOf) → m.message ≡ part p
      → ref_message proposer w m ≡ record { state = w.state; faults = w.faults ++ (record { node_id = m.id; kind = UnexpectedKeyGenPart } ∷ []) }
  leaving_part =
      unindexed_part proposer w m h.candidate h.right_era h.running h.signed (no_index h.candidate.nodes m.id h.outside)

  pub leaving_ack : (a : AckOf) → m.message ≡ ack a
      → ref_message proposer w m ≡ record { state = w.state; faults = w.faults ++ (record { node_id = m.id; kind = UnexpectedKeyGenAck } ∷ []) }
  leaving_ack =
      unindexed_ack proposer w m h.candidate h.right_era h.running h.signed (no_index h.candidate.nodes m.id h.outside)

-- "can still sign with its current key": there is no other that it could sign with
pub leaving_current : (s : RefState) (m : SignedKeyGenMsgOf) → Leaving s m → key_of s.nodes m.id ≡ found m.sig
leaving_current s m h = go h.signed
  where
    go : (key_of s.nodes m.id ≡ found m.sig) ⊎ (key_of h.candidate.nodes m.id ≡ found m.sig) → key_of s.nodes m.id ≡ found m.sig
    go (inl k) = k
    go (inr k) =
        let n = (index_nothing h.candidate.nodes 0 m.id (no_index h.candidate.nodes m.id h.outside)).1 in
        absurd (let e : ◌≡◌ {A = Found ℕ} nothing (found m.sig) = sym n ∙ k in let q : ◌≡◌ {A = ℕ} 0 1 = cc in let y : ⊥ = omega arith in y)
