-- A refusal leaves the state as given.
-- Assumes nothing.
use Prim.Native.Nat.{ℕ, ◌+◌}
use mathlib.Core.Path.{◌≡◌, refl, sym, ap, ◌∙◌}
use mathlib.Core.List.{List}
use mathlib.Core.Bool.{Bool, true, false, cond}
use lib.Dec.{ltb, eqb}
use Rattle.lists.specs.Lists.{Found, found, nothing, map_found, lookup}
use Rattle.bincode.specs.Read.{Read, value, refuse, whole}
use Rattle.bincode.specs.Outcome.{Outcome, done, refused}
use Rattle.bincode.specs.Numbers.{fixed}
use Rattle.bincode.specs.Sizes.{Sizes}
use Rattle.change.specs.Change.{ChangeOf, node_change, read_change}
use Rattle.signed_votes.specs.SignedVotes.{voter_of, num_of}
use Rattle.vote_counter.specs.VoteCounter.{next_num, signed_with, sign_vote_for, add_pending}
use Rattle.key_gen.specs.KeyGen.{node_count}
use Rattle.key_gen_state.specs.KeyGenState.{KeyGenStateOf, count_messages}
use Rattle.key_gen_message.specs.KeyGenMessage.{SignedKeyGenMsgOf}
use Rattle.message.specs.Message.{MessageContent, key_gen, signed_vote, read_message}
use Rattle.message_store.specs.MessageStore.{pushed}
use Rattle.node_change.specs.NodeChange.{row13, without_node}
use Rattle.dynamic_honey_badger.specs.State.{StateOf, era_of, nodes_in, with_key_gen, is_validator, valid_signature}
use Rattle.dynamic_honey_badger.specs.OwnVotes.{VotedOf, signed_in, vote_for, vote_for_read, vote_for_bytes, vote_to_add, vote_to_remove}
use Rattle.dynamic_honey_badger.specs.Received.{refusal, HandledOf, voted_in, stored_in, key_gen_in, received_key_gen, signed_by, message_era, received_now, received_content, received_read, received, read_due_item, returned_key_gen, returned_read, returned}
use Rattle.process_output.specs.Process.{BatchCall, ProcessedOf, processed}
use Rattle.process_output.proofs.CallLaws.{batch_cases}
use Rattle.refusals.specs.Table.{refusal_of, refusal_in}
use Rattle.refusals.proofs.FirstRow.{never}
use Rattle.refusals.proofs.Refused.{effect_of, pending_row}

-- what holds in both cases of a test holds of the choice
module _ {R : Type 0} (P : R → Type 0) where
  either : (b : Bool) {x y : R} → P x → P y → P (cond b x y)
  either true p q = p
  either false p q = q

-- a refusal leaves the state as given
module _ (z : Sizes) (s : StateOf) where
  -- of an own vote
  abbrev VoteKept : VotedOf → Type 0
  VoteKept r = (n : ℕ) → r.answer ≡ refused n → r.state ≡ s

  vote_kept : (c : ChangeOf) → VoteKept (vote_for z s c)
  unfolding vote_for sign_vote_for
  vote_kept c = either VoteKept (is_validator s) (go (next_num (map_found num_of (lookup voter_of s.counter.pending s.counter.our_id)))) (λ n e. refl)
    where
      go : (x : Outcome ℕ) → VoteKept (signed_in s (signed_with z s.counter c x))
      go (done k) n e = absurd (never (ap refusal_of e))
      go (refused k) n e = refl

  pub vote_refused : (change : List ℕ) (n : ℕ) → (vote_for_bytes z s change).answer ≡ refused n → (vote_for_bytes z s change).state ≡ s
  unfolding vote_for_bytes
  vote_refused change = go (whole (read_change fixed z change) change)
    where
      go : (x : Read ChangeOf) → VoteKept (vote_for_read z s x)
      go (value c at) = vote_kept c
      go (refuse k) = λ n e. refl

  pub add_refused : (id key n : ℕ) → (vote_to_add z s id key).answer ≡ refused n → (vote_to_add z s id key).state ≡ s
  unfolding vote_to_add
  add_refused id key =
      either VoteKept (eqb key 0) (λ n e. refl)
      (either VoteKept (is_validator s) (either VoteKept (row13 z (nodes_in s) id) (λ n e. refl) (vote_kept _)) (λ n e. refl))

  pub remove_refused : (id n : ℕ) → (vote_to_remove z s id).answer ≡ refused n → (vote_to_remove z s id).state ≡ s
  unfolding vote_to_remove
  remove_refused id = vote_kept (node_change (without_node (nodes_in s) id))

  -- of a message
  abbrev MessageKept : HandledOf → Type 0
  MessageKept r = (n : ℕ) → r.effect ≡ refusal n → r.state ≡ s

  -- where nothing is refused, nothing is asked of the state
  quiet_kept : (r : HandledOf) → effect_of r ≡ nothing → MessageKept r
  quiet_kept r q n e = absurd (never (sym q ∙ ap refusal_in e))

  -- a message that finds no room changes nothing, the sender's count neither
  stored_kept : (t : StateOf) (x : Outcome (List SignedKeyGenMsgOf)) → MessageKept (stored_in s t x)
  stored_kept t (done ms) = quiet_kept (stored_in s t (done ms)) refl
  stored_kept t (refused k) = λ n e. refl

  key_gen_kept : (m : SignedKeyGenMsgOf) → MessageKept (received_key_gen z s m)
  unfolding received_key_gen
  key_gen_kept m = either MessageKept (valid_signature s m.id m.sig) (go s.key_gen) (λ n e. refl)
    where
      go : (g : Found KeyGenStateOf) → MessageKept (key_gen_in z s m g)
      go (found g) = either MessageKept (ltb (node_count g.key_gen + 1) (count_messages z (nodes_in s) g m.id).count) (quiet_kept _ refl) (stored_kept (with_key_gen s (found (count_messages z (nodes_in s) g m.id).state)) (pushed z s.store m))
      go nothing = λ n e. refl

  pub message_refused : (sender : ℕ) (bytes : List ℕ) (n : ℕ) → (received z s sender bytes).effect ≡ refusal n → (received z s sender bytes).state ≡ s
  unfolding received received_content
  message_refused sender bytes = go (whole (read_message z bytes) bytes)
    where
      now : (m : MessageContent) → MessageKept (received_now z s sender m)
      now (key_gen era m sig) = key_gen_kept (signed_by era sender m sig)
      now (signed_vote v) = quiet_kept (voted_in s (add_pending z s.counter v)) (pending_row z s v)

      go : (x : Read MessageContent) → MessageKept (received_read z s sender x)
      go (value m c) = either MessageKept (ltb (era_of s) (message_era m)) (λ n e. refl) (either MessageKept (ltb (message_era m) (era_of s)) (λ n e. refl) (now m))
      go (refuse k) = λ n e. refl

  pub due_refused : (bytes : List ℕ) (n : ℕ) → (returned z s bytes).effect ≡ refusal n → (returned z s bytes).state ≡ s
  unfolding returned returned_key_gen
  due_refused bytes = go (whole (read_due_item z bytes) bytes)
    where
      go : (x : Read MessageContent) → MessageKept (returned_read z s x)
      go (value (key_gen era m sig) c) = either MessageKept (eqb era (era_of s)) (either MessageKept (is_validator s) (stored_kept s (pushed z s.store _)) (λ n e. refl)) (λ n e. refl)
      go (value (signed_vote v) c) = λ n e. refl
      go (refuse k) = λ n e. refl

  -- of a batch
  abbrev BatchKept : ProcessedOf → Type 0
  BatchKept r = (n : ℕ) → r.answer ≡ refused n → r.state ≡ s

  pub batch_refused : (b : BatchCall) (n : ℕ) → (processed z s b).answer ≡ refused n → (processed z s b).state ≡ s
  batch_refused b = batch_cases z s b BatchKept (λ w n e. refl) (λ cs c t n e. absurd (never (ap refusal_of e)))
