-- Step 4, sentence by sentence: what a committed key message does to the reference state before key generation sees it.
-- Assumes nothing.
use Prim.Native.Nat.{ℕ}
use mathlib.Core.Path.{◌≡◌, refl, ap}
use mathlib.Core.List.{[], ◌∷◌, ◌++◌}
use mathlib.Core.Bool.{Bool, true, false, ◌||◌}
use mathlib.Core.Logic.{◌⊎◌, inl, inr}
use borrow.Author.Tests.{eqb-true, eq-eqb, ne_eqb}
use Rattle.lists.specs.Lists.{Found, found, nothing}
use Rattle.lists.proofs.ListLaws.{false_true}
use Rattle.network_info.specs.NetworkInfo.{key_of}
use Rattle.sync_key_gen.specs.SyncKeyGen.{PartOf, AckOf}
use Rattle.key_gen_message.specs.KeyGenMessage.{part, ack, SignedKeyGenMsgOf}
use Rattle.fault_log.specs.declared.FaultKind.TheVariants.{InvalidKeyGenMessageSignature, InvalidKeyGenMessageEra, UnexpectedKeyGenPart, UnexpectedKeyGenAck}
use Rattle.reference.specs.Reference.{CandidateRef, RefState}
use Rattle.reference.specs.Step.{RefWork, is_key_of, is_candidate_key, is_signed, ref_message}

-- the test on a key, by the key that is found
is_key : (sig : ℕ) (f : Found ℕ) → f ≡ found sig → is_key_of sig f ≡ true
is_key sig f e = rw e (eq-eqb sig sig refl)

key_is : (sig : ℕ) (f : Found ℕ) → is_key_of sig f ≡ true → f ≡ found sig
key_is sig (found key) e = ap found (eqb-true key sig e)
key_is sig nothing e = absurd (false_true e)

no_key : (sig : ℕ) (f : Found ℕ) → (f ≡ found sig → ⊥) → is_key_of sig f ≡ false
no_key sig (found key) h = ne_eqb key sig (λ q. h (ap found q))
no_key sig nothing h = refl

-- the first holds, or the second
pub or_right : (a b : Bool) → b ≡ true → (a || b) ≡ true
or_right true b e = refl
or_right false b e = e

module _ (s : RefState) (m : SignedKeyGenMsgOf) where
  -- under the current key, or the candidate key
  pub signed_true : (g : CandidateRef) → s.candidate ≡ found g → (key_of s.nodes m.id ≡ found m.sig) ⊎ (key_of g.nodes m.id ≡ found m.sig) → is_signed s m ≡ true
  unfolding is_signed
  signed_true g e (inl k) = rw (is_key m.sig (key_of s.nodes m.id) k)
  signed_true g e (inr k) =
      or_right (is_key_of m.sig (key_of s.nodes m.id)) (is_candidate_key s.candidate m.id m.sig) (rw e (is_key m.sig (key_of g.nodes m.id) k))

  pub true_signed : (g : CandidateRef) → s.candidate ≡ found g → is_signed s m ≡ true → (key_of s.nodes m.id ≡ found m.sig) ⊎ (key_of g.nodes m.id ≡ found m.sig)
  unfolding is_signed
  true_signed g e h = go (is_key_of m.sig (key_of s.nodes m.id)) refl (rw e at h)
    where
      go : (b : Bool) → is_key_of m.sig (key_of s.nodes m.id) ≡ b → (b || is_key_of m.sig (key_of g.nodes m.id)) ≡ true
          → (key_of s.nodes m.id ≡ found m.sig) ⊎ (key_of g.nodes m.id ≡ found m.sig)
      go true k h = inl (key_is m.sig (key_of s.nodes m.id) k)
      go false k h = inr (key_is m.sig (key_of g.nodes m.id) h)

  current_true : key_of s.nodes m.id ≡ found m.sig → is_signed s m ≡ true
  unfolding is_signed
  current_true k = rw (is_key m.sig (key_of s.nodes m.id) k)

  -- under neither
  signed_false : (key_of s.nodes m.id ≡ found m.sig → ⊥) → ((g : CandidateRef) → s.candidate ≡ found g → key_of g.nodes m.id ≡ found m.sig → ⊥) → is_signed s m ≡ false
  unfolding is_signed
  signed_false h k = rw (no_key m.sig (key_of s.nodes m.id) h) (go s.candidate k)
    where
      go : (f : Found CandidateRef) → ((g : CandidateRef) → f ≡ found g → key_of g.nodes m.id ≡ found m.sig → ⊥) → is_candidate_key f m.id m.sig ≡ false
      go (found g) k = no_key m.sig (key_of g.nodes m.id) (k g refl)
      go nothing k = refl

module _ (proposer : ℕ) (w : RefWork) (m : SignedKeyGenMsgOf) where
  -- "wrong era .. fault[s] the proposer", whatever the signature is
  pub message_of_other_era : (m.era ≡ w.state.era → ⊥)
      → ref_message proposer w m ≡ record { state = w.state; faults = w.faults ++ (record { node_id = proposer; kind = InvalidKeyGenMessageEra } ∷ []) }
  unfolding ref_message
  message_of_other_era h = rw (ne_eqb m.era w.state.era h)

  module _ (right_era : m.era ≡ w.state.era) where
    -- "then bad signature (neither current nor candidate key), fault the proposer"
    pub message_unsigned : (key_of w.state.nodes m.id ≡ found m.sig → ⊥)
        → ((g : CandidateRef) → w.state.candidate ≡ found g → key_of g.nodes m.id ≡ found m.sig → ⊥)
        → ref_message proposer w m ≡ record { state = w.state; faults = w.faults ++ (record { node_id = proposer; kind = InvalidKeyGenMessageSignature } ∷ []) }
    unfolding ref_message
    message_unsigned h k = rw (eq-eqb m.era w.state.era right_era, signed_false w.state m h k)

    -- "Without key generation, `UnexpectedKeyGenPart` or `UnexpectedKeyGenAck` faults the signer." The signature is then one under the current key.
    module _ (idle : w.state.candidate ≡ nothing) (signed : key_of w.state.nodes m.id ≡ found m.sig) where
      pub unexpected_part : (p : PartOf) → m.message ≡ part p
          → ref_message proposer w m ≡ record { state = w.state; faults = w.faults ++ (record { node_id = m.id; kind = UnexpectedKeyGenPart } ∷ []) }
      unfolding ref_message
      unexpected_part p e = rw (eq-eqb m.era w.state.era right_era, current_true w.state m signed, idle, e)

      pub unexpected_ack : (a : AckOf) → m.message ≡ ack a
          → ref_message proposer w m ≡ record { state = w.state; faults = w.faults ++ (record { node_id = m.id; kind = UnexpectedKeyGenAck } ∷ []) }
      unfolding ref_message
      unexpected_ack a e = rw (eq-eqb m.era w.state.era right_era, current_true w.state m signed, idle, e)
