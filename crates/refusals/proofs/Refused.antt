-- Each entry that changes a state refuses with a number exactly if that is the first of its rows that holds.
-- Assumes nothing.
use Prim.Native.Nat.{ℕ, ◌+◌}
use mathlib.Core.Path.{◌≡◌, refl, ◌∙◌}
use mathlib.Core.List.{List, [], ◌∷◌}
use mathlib.Core.Bool.{Bool, true, false, not, cond, ◌&&◌}
use native.Mathlib.Omega.{arith}
use lib.Dec.{ltb, eqb}
use borrow.Author.Tests.{ltb-true, ltb-false, eq-eqb, ne_eqb}
use Rattle.lists.specs.Lists.{Found, found, nothing, map_found, lookup}
use Rattle.bincode.specs.Read.{value, whole}
use Rattle.bincode.specs.Outcome.{Outcome, done, refused}
use Rattle.bincode.specs.Numbers.{fixed}
use Rattle.bincode.specs.Sizes.{Sizes}
use Rattle.pub_key_map.specs.PubKeyMap.{read_map}
use Rattle.fault_log.specs.declared.FaultKind.TheVariants.{UnexpectedDhbMessageEra, InvalidKeyGenMessageSignature, TooManyKeyGenMessages}
use Rattle.params.specs.Params.{read_params}
use Rattle.change.specs.Change.{ChangeOf, node_change, read_change}
use Rattle.votes.specs.Votes.{SignedVoteOf}
use Rattle.signed_votes.specs.SignedVotes.{voter_of, num_of}
use Rattle.vote_counter.specs.VoteCounter as counter
use Rattle.vote_counter.specs.VoteCounter.{next_num, signed_with, sign_vote_for, pending_effect, after_pending, add_pending}
use Rattle.join_plan.specs.JoinPlan.{PlanOf, read_plan}
use Rattle.joining.specs.Starting.{StartOf, reading, is_empty, key_row2, join_row1, join_row8, join_row9, join_row10, join_plan, join_checked, start_map, start_checked}
use Rattle.key_gen.specs.KeyGen.{node_count}
use Rattle.key_gen_state.specs.KeyGenState.{KeyGenStateOf, count_messages}
use Rattle.key_gen_message.specs.KeyGenMessage.{SignedKeyGenMsgOf}
use Rattle.message.specs.Message.{MessageContent, key_gen, signed_vote, read_message}
use Rattle.message_store.specs.MessageStore.{row12, pushed}
use Rattle.node_change.specs.NodeChange.{row13, with_node, without_node}
use Rattle.internal_contrib.specs.InternalContrib.{ContribOf, read_batch}
use Rattle.dynamic_honey_badger.specs.Asked.{row5}
use Rattle.dynamic_honey_badger.specs.State.{StateOf, era_of, nodes_in, is_validator, valid_signature, started_from, started, joined_from, joined}
use Rattle.dynamic_honey_badger.specs.OwnVotes.{VotedOf, voted_as, signed_in, vote_for, vote_for_read, vote_for_bytes, vote_to_add, vote_to_remove}
use Rattle.dynamic_honey_badger.specs.Received.{quiet, fault, HandledOf, handled_as, voted_in, stored_in, key_gen_in, received_key_gen, signed_by, received_content, received_read, received, read_due_item, returned_key_gen, returned_read, returned}
use Rattle.process_output.specs.Refusals.{batch_row1, batch_row4, batch_row15, batch_row7}
use Rattle.process_output.specs.Process.{BatchCall, ProcessedOf, processed_contribs, processed_read, processed}
use Rattle.refusals.specs.Table.{row, first_row, refusal_of, refusal_in, reads_to, of_read, start_rows, join_rows, is_last, row11, vote_rows, add_rows, remove_rows, comes_to_store, message_row12, message_rows, due_row12, due_rows, batch_rows}
use Rattle.refusals.proofs.Reading.{IsKeyGen, whole_params, whole_map, whole_plan, whole_change, whole_message, whole_due_item, whole_batch}
use Rattle.refusals.proofs.Rows.{by_row, unasked_row, no_row, by_read}

-- starting: the checks, and `new` after them
module _ (z : Sizes) (key : ℕ) (map params : List ℕ) where
  pub start_rows_lem : refusal_of (start_checked z key map params) ≡ first_row (start_rows z key map params)
  unfolding start_checked start_map start_rows
  start_rows_lem =
      by_read (λ x. refusal_of (reading x λ ns. reading (whole (read_params fixed params) params) (start_map key ns)))
      (λ x.
      row 2 (reads_to 2 (whole (read_params fixed params) params)) ∷ row 3 (reads_to 3 (whole (read_params fixed params) params)) ∷ row 2 (key_row2 key)
      ∷ row 8 (of_read is_empty x) ∷ [])
      (whole (read_map fixed z map) map) (whole_map map z) (λ n. refl) λ ns c u.
      by_read (λ y. refusal_of (reading y (start_map key ns))) (λ y. row 2 (key_row2 key) ∷ row 8 (is_empty ns) ∷ [])
      (whole (read_params fixed params) params) (whole_params params) (λ n. refl) λ p d u.
      by_row refusal_of 2 (key_row2 key) _ _ _ refl (by_row refusal_of 8 (is_empty ns) _ _ _ refl no_row)

  pub started_rows : (id era : ℕ) → refusal_of (started z id key era map params) ≡ first_row (start_rows z key map params)
  unfolding started
  started_rows id era = go (start_checked z key map params) ∙ start_rows_lem
    where
      go : (x : Outcome StartOf) → refusal_of (started_from id key era x) ≡ refusal_of x
      go (done a) = refl
      go (refused n) = refl

-- joining: the checks, and the node that joins after them
module _ (z : Sizes) (places id key : ℕ) (plan : List ℕ) where
  pub join_rows_lem : refusal_of (join_checked z places id key plan) ≡ first_row (join_rows z places id key plan)
  unfolding join_checked join_plan join_rows
  join_rows_lem =
      by_row refusal_of 1 (join_row1 z places) _ _ _ refl
      (by_read (λ x. refusal_of (reading x (join_plan id key)))
      (λ x. row 2 (key_row2 key) ∷ row 8 (of_read join_row8 x) ∷ row 9 (of_read (join_row9 id) x) ∷ row 10 (of_read join_row10 x) ∷ [])
      (whole (read_plan fixed z plan) plan) (whole_plan plan z) (λ n. refl) λ p c u.
      by_row refusal_of 2 (key_row2 key) _ _ _ refl
      (by_row refusal_of 8 (join_row8 p) _ _ _ refl
      (by_row refusal_of 9 (join_row9 id p) _ _ _ refl
      (by_row refusal_of 10 (join_row10 p) _ _ _ refl no_row))))

  pub joined_rows : refusal_of (joined z places id key plan) ≡ first_row (join_rows z places id key plan)
  unfolding joined
  joined_rows = go (join_checked z places id key plan) ∙ join_rows_lem
    where
      go : (x : Outcome PlanOf) → refusal_of (joined_from z id key x) ≡ refusal_of x
      go (done p) = refl
      go (refused n) = refl

-- own votes: what a call's answer refuses
abbrev said_of : VotedOf → Found ℕ
said_of r = refusal_of r.answer

module _ (z : Sizes) (s : StateOf) where
  -- row 11 is of validators only
  vote_row : (c : ChangeOf) → refusal_of (vote_for z s c).answer ≡ first_row (row 11 (row11 s) ∷ [])
  unfolding vote_for sign_vote_for row11 first_row
  vote_row c = go (is_validator s) (map_found num_of (lookup voter_of s.counter.pending s.counter.our_id))
    where
      next : (n : ℕ) (l : Bool) → said_of (signed_in s (signed_with z s.counter c (cond l (refused 11) (done (n + 1))))) ≡ cond l (found 11) nothing
      next n true = refl
      next n false = refl

      go : (b : Bool) (x : Found ℕ) → said_of (cond b (signed_in s (signed_with z s.counter c (next_num x))) (voted_as s (done nothing))) ≡ cond (b && is_last x) (found 11) nothing
      go true (found n) = next n (is_last (found n))
      go true nothing = refl
      go false x = refl

  -- `vote_for`, on bytes
  pub vote_rows_lem : (change : List ℕ) → refusal_of (vote_for_bytes z s change).answer ≡ first_row (vote_rows z s change)
  unfolding vote_for_bytes vote_rows
  vote_rows_lem change =
      by_read (λ x. said_of (vote_for_read z s x)) (λ x. row 11 (row11 s) ∷ [])
      (whole (read_change fixed z change) change) (whole_change change z) (λ n. refl) λ c at u.
      vote_row c

  -- key 0 is anyone's refusal; row 13 is of validators only, and comes before row 11
  add_row : (a b r : Bool) → is_validator s ≡ b → (c : ChangeOf)
      → said_of (cond a (voted_as s (refused 2)) (cond b (cond r (voted_as s (refused 13)) (vote_for z s c)) (voted_as s (done nothing))))
      ≡ first_row (row 2 a ∷ row 13 (b && r) ∷ row 11 (row11 s) ∷ [])
  unfolding first_row row11
  add_row true b r e c = refl
  add_row false true true e c = refl
  add_row false true false e c = vote_row c
  add_row false false r e c = rw e

  -- `vote_to_add`
  pub add_rows_lem : (id key : ℕ) → refusal_of (vote_to_add z s id key).answer ≡ first_row (add_rows z s id key)
  unfolding vote_to_add add_rows
  add_rows_lem id key = add_row (eqb key 0) (is_validator s) (row13 z (nodes_in s) id) refl (node_change (with_node z (nodes_in s) (record { id = id; key = key })))

  -- `vote_to_remove`
  pub remove_rows_lem : (id : ℕ) → refusal_of (vote_to_remove z s id).answer ≡ first_row (remove_rows s)
  unfolding vote_to_remove remove_rows
  remove_rows_lem id = vote_row (node_change (without_node (nodes_in s) id))

-- received messages and due items: what an effect refuses
abbrev pub effect_of : HandledOf → Found ℕ
effect_of r = refusal_in r.effect

-- what is neither later nor earlier is of the same era
era_tests : (era now : ℕ) → eqb era now ≡ cond (ltb now era) false (not (ltb era now))
era_tests era now = go (ltb now era) refl (ltb era now) refl
  where
    go : (a : Bool) → ltb now era ≡ a → (b : Bool) → ltb era now ≡ b → eqb era now ≡ cond a false (not b)
    go true e b q = ne_eqb era now λ h. let l = ltb-true now era e in omega arith
    go false e true q = ne_eqb era now λ h. let l = ltb-true era now q in omega arith
    go false e false q = eq-eqb era now (let k = ltb-false now era e in let l = ltb-false era now q in omega arith)

module _ (z : Sizes) (s : StateOf) where
  -- a message that comes to the store
  stored_row : (t : StateOf) (m : SignedKeyGenMsgOf) → effect_of (stored_in s t (pushed z s.store m)) ≡ first_row (row 12 (row12 z s.store) ∷ [])
  unfolding pushed first_row
  stored_row t m = go (row12 z s.store) _
    where
      go : (b : Bool) (ms : List SignedKeyGenMsgOf) → effect_of (stored_in s t (cond b (refused 12) (done ms))) ≡ cond b (found 12) nothing
      go true ms = refl
      go false ms = refl

  -- a key message: signature, running key generation and count come before the store
  key_gen_row : (m : SignedKeyGenMsgOf)
      → effect_of (received_key_gen z s m)
      ≡ first_row (row 12 (valid_signature s m.id m.sig && (comes_to_store z s m.id s.key_gen && row12 z s.store)) ∷ [])
  unfolding received_key_gen first_row
  key_gen_row m = go (valid_signature s m.id m.sig) s.key_gen
    where
      counted : (b : Bool) (t : StateOf)
          → effect_of (cond b (handled_as t (fault TooManyKeyGenMessages)) (stored_in s t (pushed z s.store m))) ≡ cond (not b && row12 z s.store) (found 12) nothing
      counted true t = refl
      counted false t = stored_row t m

      go : (b : Bool) (g : Found KeyGenStateOf)
          → effect_of (cond b (key_gen_in z s m g) (handled_as s (fault InvalidKeyGenMessageSignature))) ≡ cond (b && (comes_to_store z s m.id g && row12 z s.store)) (found 12) nothing
      go true (found g) = counted (ltb (node_count g.key_gen + 1) (count_messages z (nodes_in s) g m.id).count) _
      go true nothing = refl
      go false g = refl

  -- a received vote is never refused
  pub pending_row : (v : SignedVoteOf) → effect_of (voted_in s (add_pending z s.counter v)) ≡ nothing
  unfolding add_pending
  pending_row v = go (pending_effect s.counter v)
    where
      go : (e : counter.VoteEffect) → effect_of (voted_in s (after_pending z s.counter v e)) ≡ nothing
      go counter.stored = refl
      go counter.nothing_new = refl
      go (counter.fault k) = refl

  -- a message that was read: its era comes first
  content_row : (sender : ℕ) (m : MessageContent) → effect_of (received_content z s sender m) ≡ first_row (row 12 (message_row12 z s sender m) ∷ [])
  unfolding received_content first_row
  content_row sender (key_gen era m sig) = rw (era_tests era (era_of s)) (go (ltb (era_of s) era) (ltb era (era_of s)))
    where
      go : (a b : Bool)
          → effect_of (cond a (handled_as s (fault UnexpectedDhbMessageEra)) (cond b (handled_as s quiet) (received_key_gen z s (signed_by era sender m sig))))
          ≡ cond (cond a false (not b) && (valid_signature s sender sig && (comes_to_store z s sender s.key_gen && row12 z s.store))) (found 12) nothing
      go true b = refl
      go false true = refl
      go false false = key_gen_row (signed_by era sender m sig)
  content_row sender (signed_vote v) = go (ltb (era_of s) v.vote.era) (ltb v.vote.era (era_of s))
    where
      go : (a b : Bool)
          → effect_of (cond a (handled_as s (fault UnexpectedDhbMessageEra)) (cond b (handled_as s quiet) (voted_in s (add_pending z s.counter v)))) ≡ nothing
      go true b = refl
      go false true = refl
      go false false = pending_row v

  -- a received message
  pub message_rows_lem : (sender : ℕ) (bytes : List ℕ) → refusal_in (received z s sender bytes).effect ≡ first_row (message_rows z s sender bytes)
  unfolding received message_rows
  message_rows_lem sender bytes =
      by_read (λ x. effect_of (received_read z s sender x)) (λ x. row 12 (of_read (message_row12 z s sender) x) ∷ [])
      (whole (read_message z bytes) bytes) (whole_message bytes z) (λ n. refl) λ m c u.
      content_row sender m

  -- of a due item, era and own membership come before the store
  due_row : (x : MessageContent) (c : ℕ) → IsKeyGen x → effect_of (returned_read z s (value x c)) ≡ first_row (row 12 (due_row12 z s x) ∷ [])
  unfolding returned_key_gen first_row
  due_row (key_gen era m sig) c u = go (eqb era (era_of s)) (is_validator s)
    where
      go : (a b : Bool)
          → effect_of (cond a (cond b (stored_in s s (pushed z s.store (signed_by era s.counter.our_id m sig))) (handled_as s quiet)) (handled_as s quiet))
          ≡ cond (a && (b && row12 z s.store)) (found 12) nothing
      go true true = stored_row s (signed_by era s.counter.our_id m sig)
      go true false = refl
      go false b = refl
  due_row (signed_vote v) c u = absurd u

  -- a due item handed back
  pub due_rows_lem : (bytes : List ℕ) → refusal_in (returned z s bytes).effect ≡ first_row (due_rows z s bytes)
  unfolding returned due_rows
  due_rows_lem bytes =
      by_read (λ x. effect_of (returned_read z s x)) (λ x. row 12 (of_read (due_row12 z s) x) ∷ [])
      (whole (read_due_item z bytes) bytes) (whole_due_item bytes z) (λ n. refl) due_row

-- a batch: what its answer refuses
abbrev reported_of : ProcessedOf → Found ℕ
reported_of r = refusal_of r.answer

-- the batch call
module _ (z : Sizes) (s : StateOf) (b : BatchCall) where
  pub batch_rows_lem : refusal_of (processed z s b).answer ≡ first_row (batch_rows z s b)
  unfolding processed processed_contribs batch_rows
  batch_rows_lem =
      by_row reported_of 1 (batch_row1 z b.fault_places b.due_places) _ _ _ refl
      (by_read (λ x. reported_of (processed_read z s b x))
      (λ x.
      row 4 (of_read (λ (cs : List ContribOf). batch_row4 cs b.verdicts) x) ∷ row 15 (batch_row15 (era_of s) b.era) ∷ row 5 (row5 (era_of s + b.inner))
      ∷ row 6 false ∷ row 7 (of_read (batch_row7 z s b.verdicts) x) ∷ [])
      (read_batch z b.bytes) (whole_batch b.bytes z) (λ n. refl) λ cs c u.
      by_row reported_of 4 (batch_row4 cs b.verdicts) _ _ _ refl
      (by_row reported_of 15 (batch_row15 (era_of s) b.era) _ _ _ refl
      (by_row reported_of 5 (row5 (era_of s + b.inner)) _ _ _ refl
      (unasked_row 6 _
      (by_row reported_of 7 (batch_row7 z s b.verdicts cs) _ _ _ refl no_row)))))
