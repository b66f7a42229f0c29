-- Laws of received messages: what a message does, by the first test that decides.
-- Assumes nothing.
use borrow.Author.Tests.{lt-ltb, le-ltb}
use mathlib.Core.Bool.{true, false}
use mathlib.Core.List.{List}
use mathlib.Core.Path.{◌≡◌, sym, ap, ◌∙◌}
use Prim.Native.Nat.{ℕ, ◌+◌, ◌≤◌, ◌<◌}
use native.Mathlib.Omega.{arith}
use Rattle.lists.specs.Lists.{found, nothing}
use Rattle.bincode.specs.Outcome.{Outcome}
use Rattle.bincode.specs.Read.{value, refuse, whole}
use Rattle.bincode.specs.Sizes.{Sizes}
use Rattle.fault_log.specs.declared.FaultKind.TheVariants.{UnexpectedDhbMessageEra, InvalidKeyGenMessageSignature, UnexpectedKeyGenMessage, TooManyKeyGenMessages}
use Rattle.votes.proofs.VoteLaws.{held_vote}
use Rattle.key_gen.specs.KeyGen.{node_count}
use Rattle.key_gen_state.specs.KeyGenState.{KeyGenStateOf, CountedOf, count_messages}
use Rattle.key_gen_message.specs.KeyGenMessage.{KeyGenMessageOf, SignedKeyGenMsgOf}
use Rattle.key_gen_message.proofs.MessageLaws.{held_message}
use Rattle.message_store.specs.MessageStore.{pushed}
use Rattle.message.specs.declared.Message.{Message}
use Rattle.message.specs.Message.{MessageContent, key_gen, signed_vote, content_of, content_held, read_message}
use Rattle.dynamic_honey_badger.specs.Received.{quiet, fault, refusal, handled_as, stored_in, counted_in, key_gen_in, received_key_gen, message_era, received_now, received_content, received_read, received}
use Rattle.dynamic_honey_badger.specs.State.{StateOf, era_of, nodes_in, with_key_gen, valid_signature}

-- a struct that holds what was read stands for it
pub held_content : (m : MessageContent) → content_of (content_held m) ≡ m
held_content (key_gen era m sig) = ap {B = MessageContent} (λ (x : KeyGenMessageOf). key_gen era x sig) (held_message m)
held_content (signed_vote v) = ap signed_vote (held_vote v)

module _ (z : Sizes) (s : StateOf) where
  -- a key message: its signature, then whether key generation runs, then its sender's count, then the store
  module _ (m : SignedKeyGenMsgOf) where
    pub key_invalid : valid_signature s m.id m.sig ≡ false → received_key_gen z s m ≡ handled_as s (fault InvalidKeyGenMessageSignature)
    unfolding received_key_gen
    key_invalid v = rw v

    pub key_valid : valid_signature s m.id m.sig ≡ true → received_key_gen z s m ≡ key_gen_in z s m s.key_gen
    unfolding received_key_gen
    key_valid v = rw v

    pub key_unexpected : s.key_gen ≡ nothing → key_gen_in z s m s.key_gen ≡ handled_as s (fault UnexpectedKeyGenMessage)
    key_unexpected r = ap (key_gen_in z s m) r

    module _ (g : KeyGenStateOf) (r : s.key_gen ≡ found g) (c : CountedOf) (e : c ≡ count_messages z (nodes_in s) g m.id) where
      counted : key_gen_in z s m s.key_gen ≡ counted_in z s m (node_count g.key_gen) c
      counted = ap (key_gen_in z s m) r ∙ ap (counted_in z s m (node_count g.key_gen)) (sym e)

      pub key_many : node_count g.key_gen + 1 < c.count → key_gen_in z s m s.key_gen ≡ handled_as (with_key_gen s (found c.state)) (fault TooManyKeyGenMessages)
      key_many h = counted ∙ rw (lt-ltb (node_count g.key_gen + 1) c.count h)

      pub key_stored : c.count ≤ node_count g.key_gen + 1 → (o : Outcome (List SignedKeyGenMsgOf)) → o ≡ pushed z s.store m
          → key_gen_in z s m s.key_gen ≡ stored_in s (with_key_gen s (found c.state)) o
      key_stored h o p = counted ∙ rw (le-ltb (node_count g.key_gen + 1) c.count h) (ap (stored_in s (with_key_gen s (found c.state))) (sym p))

  -- a message of a sender: a later era, an earlier one, the current one
  module _ (sender : ℕ) (m : MessageContent) (era : ℕ) (e : era ≡ message_era m) where
    pub content_later : era_of s < era → received_content z s sender m ≡ handled_as s (fault UnexpectedDhbMessageEra)
    unfolding received_content
    content_later h = rw (lt-ltb (era_of s) (message_era m) (omega (arith, e)))

    module _ (h : era ≤ era_of s) where
      pub content_earlier : era < era_of s → received_content z s sender m ≡ handled_as s quiet
      unfolding received_content
      content_earlier k = rw (le-ltb (era_of s) (message_era m) (omega (arith, e)), lt-ltb (message_era m) (era_of s) (omega (arith, e)))

      pub content_now : era_of s ≤ era → received_content z s sender m ≡ received_now z s sender m
      unfolding received_content
      content_now k = rw (le-ltb (era_of s) (message_era m) (omega (arith, e)), le-ltb (message_era m) (era_of s) (omega (arith, e)))

  -- a message as bytes: refused where it cannot be read, else what was read is what the struct holds
  module _ (sender : ℕ) (bytes : List ℕ) where
    pub message_refused : (n : ℕ) → whole (read_message z bytes) bytes ≡ refuse n → received z s sender bytes ≡ handled_as s (refusal n)
    unfolding received
    message_refused n e = ap (received_read z s sender) e

    pub message_read : (y : MessageContent) (at : ℕ) (m : Message) → whole (read_message z bytes) bytes ≡ value y at → m ≡ content_held y
        → received z s sender bytes ≡ received_content z s sender (content_of m)
    unfolding received
    message_read y at m e h = ap (received_read z s sender) e ∙ ap (received_content z s sender) (sym (ap content_of h ∙ held_content y))
