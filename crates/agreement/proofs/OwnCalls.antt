-- Own votes, received messages and due items handed back leave the shared part of a node's state, its last report and its board as they are.
-- Assumes nothing.
use Prim.Native.Nat.{ℕ, ◌+◌}
use mathlib.Core.Path.{◌≡◌, refl, sym, ap, ◌∙◌}
use mathlib.Core.List.{List}
use mathlib.Core.Bool.{Bool, true, false, cond}
use lib.Dec.{ltb, eqb}
use Rattle.lists.specs.Lists.{Found, found, nothing, map_found, lookup}
use Rattle.bincode.specs.Read.{Read, value, refuse, whole}
use Rattle.bincode.specs.Outcome.{Outcome, done, refused}
use Rattle.bincode.specs.Numbers.{fixed}
use Rattle.bincode.specs.Sizes.{Sizes}
use Rattle.fault_log.specs.declared.FaultKind.TheVariants.{UnexpectedDhbMessageEra, InvalidKeyGenMessageSignature, TooManyKeyGenMessages}
use Rattle.change.specs.Change.{ChangeOf, node_change, read_change}
use Rattle.votes.specs.Votes.{SignedVoteOf}
use Rattle.signed_votes.specs.SignedVotes.{voter_of, num_of}
use Rattle.vote_counter.specs.VoteCounter as counter
use Rattle.vote_counter.specs.VoteCounter.{next_num, signed_with, sign_vote_for, pending_effect, after_pending, add_pending}
use Rattle.key_gen.specs.KeyGen.{node_count}
use Rattle.key_gen_state.specs.KeyGenState.{KeyGenStateOf, CountedOf, counted_by, sender_place, count_messages}
use Rattle.key_gen_message.specs.KeyGenMessage.{SignedKeyGenMsgOf}
use Rattle.message.specs.Message.{MessageContent, key_gen, signed_vote, read_message}
use Rattle.message_store.specs.MessageStore.{pushed}
use Rattle.node_change.specs.NodeChange.{row13, with_node, without_node}
use Rattle.dynamic_honey_badger.specs.State.{StateOf, era_of, nodes_in, with_key_gen, is_validator, valid_signature}
use Rattle.dynamic_honey_badger.specs.OwnVotes.{VotedOf, voted_as, signed_in, vote_for, vote_for_read, vote_for_bytes, vote_to_add, vote_to_remove}
use Rattle.dynamic_honey_badger.specs.Received.{HandledOf, handled_as, quiet, fault, voted_in, stored_in, counted_in, key_gen_in, received_key_gen, message_era, signed_by, received_now, received_content, received_read, received, read_due_item, returned_key_gen, returned_read, returned}
use Rattle.reference.specs.Reference.{CandidateRef}
use Rattle.agreement.specs.Shared.{candidate_ref, ref_of}

-- from state s to state t the shared part is kept, and so are the last report and the board
abbrev pub Keeps : StateOf → StateOf → Type 0
Keeps s t = (ref_of t ≡ ref_of s) × (t.last ≡ s.last) × (t.counter.board ≡ s.counter.board)

module _ (z : Sizes) (s : StateOf) where
  -- an own vote changes pending votes only
  vote_kept : (c : ChangeOf) → Keeps s (vote_for z s c).state
  unfolding vote_for sign_vote_for
  vote_kept c = go (is_validator s) (next_num (map_found num_of (lookup voter_of s.counter.pending s.counter.our_id)))
    where
      go : (b : Bool) (x : Outcome ℕ) → Keeps s (cond {A = VotedOf} b (signed_in s (signed_with z s.counter c x)) (voted_as s (done nothing))).state
      go true (done n) = (refl, refl, refl)
      go true (refused n) = (refl, refl, refl)
      go false x = (refl, refl, refl)

  -- `vote_for`, on bytes
  pub vote_for_kept : (bytes : List ℕ) → Keeps s (vote_for_bytes z s bytes).state
  unfolding vote_for_bytes
  vote_for_kept bytes = go (whole (read_change fixed z bytes) bytes)
    where
      go : (x : Read ChangeOf) → Keeps s (vote_for_read z s x).state
      go (value c at) = vote_kept c
      go (refuse n) = (refl, refl, refl)

  -- `vote_to_add`
  pub vote_to_add_kept : (id key : ℕ) → Keeps s (vote_to_add z s id key).state
  unfolding vote_to_add
  vote_to_add_kept id key = go (eqb key 0) (is_validator s) (row13 z (nodes_in s) id) (node_change (with_node z (nodes_in s) (record { id = id; key = key })))
    where
      go : (a b c : Bool) (x : ChangeOf)
          → Keeps s (cond {A = VotedOf} a (voted_as s (refused 2)) (cond b (cond c (voted_as s (refused 13)) (vote_for z s x)) (voted_as s (done nothing)))).state
      go true b c x = (refl, refl, refl)
      go false true true x = (refl, refl, refl)
      go false true false x = vote_kept x
      go false false c x = (refl, refl, refl)

  -- `vote_to_remove`
  pub vote_to_remove_kept : (id : ℕ) → Keeps s (vote_to_remove z s id).state
  unfolding vote_to_remove
  vote_to_remove_kept id = vote_kept (node_change (without_node (nodes_in s) id))

  -- a received vote changes pending votes only
  pending_kept : (v : SignedVoteOf) → Keeps s (voted_in s (add_pending z s.counter v)).state
  unfolding add_pending
  pending_kept v = go (pending_effect s.counter v)
    where
      go : (e : counter.VoteEffect) → Keeps s (voted_in s (after_pending z s.counter v e)).state
      go counter.stored = (refl, refl, refl)
      go counter.nothing_new = (refl, refl, refl)
      go (counter.fault k) = (refl, refl, refl)

  -- a stored message is the node's own
  stored_kept : (t : StateOf) (x : Outcome (List SignedKeyGenMsgOf)) → Keeps s t → Keeps s (stored_in s t x).state
  stored_kept t (done ms) e = e
  stored_kept t (refused n) e = (refl, refl, refl)

  -- a received key message changes counts and store only
  counted_kept : (m : SignedKeyGenMsgOf) (n : ℕ) (g : KeyGenStateOf) (x : CountedOf) → s.key_gen ≡ found g → candidate_ref x.state ≡ candidate_ref g → Keeps s (counted_in z s m n x).state
  counted_kept m n g x e q = go (ltb (n + 1) x.count)
    where
      same : ref_of (with_key_gen s (found x.state)) ≡ ref_of s
      same =
          ap (λ (c : Found CandidateRef). record { era = era_of s; nodes = nodes_in s; params = s.params; votes = s.counter.committed; candidate = c })
          (ap found q ∙ ap (map_found candidate_ref) (sym e))

      go : (b : Bool)
          → Keeps s (cond {A = HandledOf} b (handled_as (with_key_gen s (found x.state)) (fault TooManyKeyGenMessages)) (stored_in s (with_key_gen s (found x.state)) (pushed z s.store m))).state
      go true = (same, refl, refl)
      go false = stored_kept (with_key_gen s (found x.state)) (pushed z s.store m) (same, refl, refl)

  counts_kept : (g : KeyGenStateOf) (id : ℕ) → candidate_ref (count_messages z (nodes_in s) g id).state ≡ candidate_ref g
  unfolding count_messages
  counts_kept g id = go (sender_place z (nodes_in s) g.key_gen.nodes id)
    where
      go : (i : Found ℕ) → candidate_ref (counted_by g i).state ≡ candidate_ref g
      go (found i) = refl
      go nothing = refl

  key_gen_kept : (m : SignedKeyGenMsgOf) → Keeps s (received_key_gen z s m).state
  unfolding received_key_gen
  key_gen_kept m = go (valid_signature s m.id m.sig) s.key_gen refl
    where
      go : (b : Bool) (g : Found KeyGenStateOf) → s.key_gen ≡ g → Keeps s (cond {A = HandledOf} b (key_gen_in z s m g) (handled_as s (fault InvalidKeyGenMessageSignature))).state
      go true (found g) e = counted_kept m (node_count g.key_gen) g (count_messages z (nodes_in s) g m.id) e (counts_kept g m.id)
      go true nothing e = (refl, refl, refl)
      go false g e = (refl, refl, refl)

  -- a received message
  pub message_kept : (sender : ℕ) (bytes : List ℕ) → Keeps s (received z s sender bytes).state
  unfolding received received_content
  message_kept sender bytes = go (whole (read_message z bytes) bytes)
    where
      now : (x : MessageContent) → Keeps s (received_now z s sender x).state
      now (key_gen era m sig) = key_gen_kept (signed_by era sender m sig)
      now (signed_vote v) = pending_kept v

      by_era : (a b : Bool) (x : MessageContent)
          → Keeps s (cond {A = HandledOf} a (handled_as s (fault UnexpectedDhbMessageEra)) (cond b (handled_as s quiet) (received_now z s sender x))).state
      by_era true b x = (refl, refl, refl)
      by_era false true x = (refl, refl, refl)
      by_era false false x = now x

      go : (x : Read MessageContent) → Keeps s (received_read z s sender x).state
      go (value x c) = by_era (ltb (era_of s) (message_era x)) (ltb (message_era x) (era_of s)) x
      go (refuse n) = (refl, refl, refl)

  -- a due item handed back
  pub due_kept : (bytes : List ℕ) → Keeps s (returned z s bytes).state
  unfolding returned returned_key_gen
  due_kept bytes = go (whole (read_due_item z bytes) bytes)
    where
      by_era : (a b : Bool) (m : SignedKeyGenMsgOf)
          → Keeps s (cond {A = HandledOf} a (cond b (stored_in s s (pushed z s.store m)) (handled_as s quiet)) (handled_as s quiet)).state
      by_era true true m = stored_kept s (pushed z s.store m) (refl, refl, refl)
      by_era true false m = (refl, refl, refl)
      by_era false b m = (refl, refl, refl)

      go : (x : Read MessageContent) → Keeps s (returned_read z s x).state
      go (value (key_gen era m sig) c) = by_era (eqb era (era_of s)) (is_validator s) (signed_by era s.counter.our_id m sig)
      go (value (signed_vote v) c) = (refl, refl, refl)
      go (refuse n) = (refl, refl, refl)
