-- What becomes of a key message, by its head: its era, its signature, and key generation's word on it.
-- Assumes nothing.
use Prim.Native.Nat.{ℕ}
use mathlib.Core.Path.{◌≡◌, refl, sym, ap, ◌∙◌}
use mathlib.Core.List.{List}
use mathlib.Core.Bool.{true, false}
use native.Mathlib.Omega.{arith}
use lib.ListN.{length}
use borrow.Author.Tests.{eq-eqb, ne_eqb}
use Rattle.lists.specs.Lists.{Found, nothing}
use Rattle.fault_log.specs.declared.FaultKind.TheVariants.{InvalidKeyGenMessageSignature, InvalidKeyGenMessageEra}
use Rattle.pub_key_map.specs.declared.Node.{Node}
use Rattle.sync_key_gen.specs.SyncKeyGen.{PartOf, AckOf}
use Rattle.key_gen.specs.KeyGen.{KeyGenOf, Effect, handled, handle_part, handle_ack}
use Rattle.key_gen_state.specs.KeyGenState.{KeyGenStateOf}
use Rattle.key_gen_message.specs.KeyGenMessage.{KeyGenMessageOf, part, ack, SignedKeyGenMsgOf}
use Rattle.key_gen_message.specs.declared.MessageHead.{MessageHead}
use Rattle.key_gen_message.specs.declared.KeyGenKind.{KeyGenKind}
use Rattle.key_gen_message.specs.declared.KeyGenKind.TheVariants.{Part, Ack}
use Rattle.key_gen_message.specs.Head.{head_of, head_with, body_of}
use Rattle.dynamic_honey_badger.specs.State.{valid_under, candidate_nodes}
use Rattle.steps.specs.Steps.{blamed_proposer, blamed_signer, done_as, handled_by, unexpected, by_key_gen, message_done}
use Rattle.commit.specs.Told.{unexpected_by}

-- a part is no ack
abbrev kind_number : KeyGenKind → ℕ
kind_number Part = 0
kind_number Ack = 1

part_ack : ◌≡◌ {A = KeyGenKind} Part Ack → ⊥
part_ack e = let y : ◌≡◌ {A = ℕ} 0 1 = ap kind_number e in omega arith

module _ (era : ℕ) (ns : List Node) (g : Found KeyGenStateOf) (m : SignedKeyGenMsgOf) (h : MessageHead) (e : h ≡ head_of m) (v : ℕ) where
  same_era : h.era ≡ m.era
  same_era = ap (λ (y : MessageHead). y.era) e

  -- of another era
  pub other_era : (h.era ≡ era → ⊥) → done_as g (blamed_proposer InvalidKeyGenMessageEra) ≡ message_done era ns g m v
  unfolding message_done
  other_era n = rw (ne_eqb m.era era (λ q. n (same_era ∙ q))) refl

  module _ (q : h.era ≡ era) where
    -- with a signature under no key
    pub bad_signature : valid_under ns (candidate_nodes g) h.id h.sig ≡ false → done_as g (blamed_proposer InvalidKeyGenMessageSignature) ≡ message_done era ns g m v
    unfolding message_done
    bad_signature n =
        let s : valid_under ns (candidate_nodes g) m.id m.sig ≡ false = ap (λ (y : MessageHead). valid_under ns (candidate_nodes g) y.id y.sig) (sym e) ∙ n in
        rw (eq-eqb m.era era (sym same_era ∙ q), s) refl

    -- with a good one
    pub good_signature : valid_under ns (candidate_nodes g) h.id h.sig ≡ true → by_key_gen m v g ≡ message_done era ns g m v
    unfolding message_done
    good_signature n =
        let s : valid_under ns (candidate_nodes g) m.id m.sig ≡ true = ap (λ (y : MessageHead). valid_under ns (candidate_nodes g) y.id y.sig) (sym e) ∙ n in
        rw (eq-eqb m.era era (sym same_era ∙ q), s) refl

module _ (m : SignedKeyGenMsgOf) (h : MessageHead) (e : h ≡ head_of m) (v : ℕ) where
  -- without key generation
  pub by_nothing : done_as nothing (blamed_signer (unexpected_by h.kind)) ≡ by_key_gen m v nothing
  by_nothing = ap (λ (y : MessageHead). done_as nothing (blamed_signer (unexpected_by y.kind))) e ∙ go m.message
    where
      go : (x : KeyGenMessageOf) → done_as nothing (blamed_signer (unexpected_by (body_of x).kind)) ≡ done_as nothing (blamed_signer (unexpected x))
      go (part p) = refl
      go (ack a) = refl

  -- with it, a part and an ack
  module _ (g k : KeyGenOf) (o : Effect) where
    pub by_part : h.kind ≡ Part → ((p : PartOf) → p.commit ≡ h.first → length p.rows ≡ h.count → handled k o ≡ handle_part g h.id p v)
        → handled k o ≡ handled_by g m.id m.message v
    by_part q f = go m.message e
      where
        go : (x : KeyGenMessageOf) → h ≡ head_with m (body_of x) → handled k o ≡ handled_by g m.id x v
        go (part p) r =
            f p (sym (ap (λ (y : MessageHead). y.first) r)) (sym (ap (λ (y : MessageHead). y.count) r)) ∙ ap (λ (y : MessageHead). handle_part g y.id p v) r
        go (ack a) r = absurd (part_ack (sym q ∙ ap (λ (y : MessageHead). y.kind) r))

    pub by_ack : h.kind ≡ Ack → ((a : AckOf) → a.proposer ≡ h.first → length a.values ≡ h.count → handled k o ≡ handle_ack g h.id a v)
        → handled k o ≡ handled_by g m.id m.message v
    by_ack q f = go m.message e
      where
        go : (x : KeyGenMessageOf) → h ≡ head_with m (body_of x) → handled k o ≡ handled_by g m.id x v
        go (part p) r = absurd (part_ack (sym (ap (λ (y : MessageHead). y.kind) r) ∙ q))
        go (ack a) r =
            f a (sym (ap (λ (y : MessageHead). y.first) r)) (sym (ap (λ (y : MessageHead). y.count) r)) ∙ ap (λ (y : MessageHead). handle_ack g y.id a v) r
