-- Laws of due items handed back: what one does, by the first test that decides, and how its bytes are read.
-- Assumes nothing.
use borrow.Author.Tests.{eq-eqb, ne_eqb}
use mathlib.Core.Bool.{Bool, true, false, cond}
use mathlib.Core.List.{List}
use mathlib.Core.Path.{◌≡◌, sym, ap, ◌∙◌, subst}
use Prim.Native.Nat.{ℕ}
use Rattle.std.specs.Result.{MatchResult, IsOkAnd}
use Rattle.std.specs.declared.option.Option.{Option}
use Rattle.std.specs.declared.option.Option.TheVariants.{None, Some}
use Rattle.std.specs.declared.result.Result.{Result}
use Rattle.std.specs.declared.result.Result.TheVariants.{Ok, Err}
use Rattle.bincode.specs.Answer.{answer, answer_as_read}
use Rattle.bincode.specs.Numbers.{read_num}
use Rattle.bincode.specs.Read.{value, refuse, whole}
use Rattle.bincode.specs.Rows.{row_number}
use Rattle.bincode.specs.Sizes.{Sizes}
use Rattle.bincode.specs.declared.Refusal.{Refusal}
use Rattle.bincode.proofs.NumberLaws.{read_refused}
use Rattle.bincode.proofs.ReadLaws.{answer_ok, cross, whole_refused}
use Rattle.lists.proofs.ListLaws.{cond_yes, false_true}
use Rattle.fault_log.specs.declared.FaultKind.{FaultKind}
use Rattle.pub_key_map.specs.declared.Node.{Node}
use Rattle.network_info.specs.NetworkInfo.{is_member}
use Rattle.key_gen_message.specs.declared.SignedKeyGenMsg.{SignedKeyGenMsg}
use Rattle.key_gen_message.specs.KeyGenMessage.{SignedKeyGenMsgOf, message_of, signed_of}
use Rattle.votes.specs.declared.SignedVote.{SignedVote}
use Rattle.key_gen_message.specs.declared.KeyGenMessage.{KeyGenMessage}
use Rattle.message.specs.declared.Message.{Message}
use Rattle.message.specs.declared.Message.TheVariants.{KeyGen}
use Rattle.message.specs.declared.Message.TheVariants as message
use Rattle.message.specs.Message.{MessageContent, content_of, content_held, read_message}
use Rattle.message_store.specs.declared.MessageStore.{MessageStore}
use Rattle.message_store.specs.MessageStore.{row12, pushed, pushed_of, store_of}
use Rattle.dynamic_honey_badger.specs.declared.DynamicHoneyBadger.{DynamicHoneyBadger}
use Rattle.dynamic_honey_badger.specs.declared.Handled.{Handled}
use Rattle.dynamic_honey_badger.specs.Received.{HandledOf, MessageRefusedKeeps, handled_of, said_handling, quiet, refusal, handled_as, signed_by, stored_in, read_due_item, returned_key_gen, returned_read, returned}
use Rattle.dynamic_honey_badger.specs.State.{StateOf, state_of, era_of, nodes_in}
use Rattle.dynamic_honey_badger.proofs.PartsLaws.{validator}
use Rattle.dynamic_honey_badger.proofs.JudgedLaws.{full_refuses, push_stored}
use Rattle.dynamic_honey_badger.proofs.ReceivedLaws.{held_content}
use Rattle.due_item.specs.Fate.{FatedAs}

-- what a key message does, by the parts of the state
module _ (z : Sizes) (s : StateOf) (m : SignedKeyGenMsgOf) (era : ℕ) (own : era_of s ≡ era) where
  -- one of another era is dropped
  pub kept_era : (m.era ≡ era → ⊥) → returned_key_gen z s m ≡ handled_as s quiet
  unfolding returned_key_gen
  kept_era h = rw (ne_eqb m.era (era_of s) (λ e. h (e ∙ own)))

  module _ (e : m.era ≡ era) (ns : List Node) (id : ℕ) (nodes : nodes_in s ≡ ns) (ours : s.counter.our_id ≡ id) where
    now_kept : (b : Bool) → is_member ns id ≡ b → returned_key_gen z s m ≡ cond b (stored_in s s (pushed z s.store m)) (handled_as s quiet)
    unfolding returned_key_gen
    now_kept b v = cond_yes _ _ (eq-eqb m.era (era_of s) (e ∙ sym own)) ∙ rw (validator s ns id b nodes ours v)

    -- one made by a non-validator is dropped
    pub kept_outsider : is_member ns id ≡ false → returned_key_gen z s m ≡ handled_as s quiet
    kept_outsider v = now_kept false v

    module _ (v : is_member ns id ≡ true) where
      -- the others are stored
      pub kept_stored : returned_key_gen z s m ≡ stored_in s s (pushed z s.store m)
      kept_stored = now_kept true v

      -- where there is room
      pub kept_full : row12 z s.store ≡ true → returned_key_gen z s m ≡ handled_as s (refusal 12)
      kept_full r = kept_stored ∙ ap (stored_in s s) (full_refuses z s.store m r)

-- a due item handed back as bytes
module _ (z : Sizes) (s : StateOf) (bytes : List ℕ) where
  -- one that cannot be read is refused, and changes nothing
  due_refused : (n : ℕ) → whole (read_due_item z bytes) bytes ≡ refuse n → returned z s bytes ≡ handled_as s (refusal n)
  unfolding returned
  due_refused n e = rw e

  -- one that is read does what its content does
  due_read : (x : MessageContent) (c : ℕ) → whole (read_due_item z bytes) bytes ≡ value x c → returned z s bytes ≡ returned_read z s (value x c)
  unfolding returned
  due_read x c e = rw e

  -- where the tag cannot be read, it is refused by 2
  no_tag : read_num 4 bytes 0 ≡ refuse 2 → read_due_item z bytes 0 ≡ refuse 2
  unfolding read_due_item
  no_tag e = rw e

  -- by the answer that code gives of the tag
  module _ (r : Result (ℕ × ℕ) Refusal) (told : answer_as_read (λ (x : ℕ). x) r ≡ read_num 4 bytes 0) where
    pub due_cut : (n : Refusal) → r ≡ Err n → returned z s bytes ≡ handled_as s (refusal 2)
    due_cut n e = due_refused 2 (whole_refused (read_due_item z bytes) bytes 2 (no_tag (read_refused 4 bytes 0 (row_number n) (sym told ∙ ap (answer_as_read (λ (x : ℕ). x)) e))))

    module _ (tag c : ℕ) (is : r ≡ Ok (tag, c)) where
      tag_read : read_num 4 bytes 0 ≡ value tag c
      tag_read = sym told ∙ ap (answer_as_read (λ (x : ℕ). x)) is

      -- another tag is refused by 2
      other_tag : (tag ≡ 1 → ⊥) → read_due_item z bytes 0 ≡ refuse 2
      unfolding read_due_item
      other_tag h = rw (tag_read, ne_eqb tag 1 h)

      pub due_other : (tag ≡ 1 → ⊥) → returned z s bytes ≡ handled_as s (refusal 2)
      due_other h = due_refused 2 (whole_refused (read_due_item z bytes) bytes 2 (other_tag h))

      module _ (one : tag ≡ 1) where
        -- with the tag of key messages it is read as any message is
        read_as_message : read_due_item z bytes 0 ≡ read_message z bytes 0
        unfolding read_due_item read_message
        read_as_message = rw (tag_read, eq-eqb tag 1 one)

        due_as_message : whole (read_due_item z bytes) bytes ≡ whole (read_message z bytes) bytes
        unfolding whole
        due_as_message = rw read_as_message

        pub due_unread : (n : ℕ) → whole (read_message z bytes) bytes ≡ refuse n → returned z s bytes ≡ handled_as s (refusal n)
        due_unread n e = due_refused n (due_as_message ∙ e)

        -- by the answer that code gives of the message
        module _ (m : Message) (d : ℕ) (read : answer content_held (whole (read_message z bytes) bytes) ≡ Ok (m, d)) where
          due_returned : returned z s bytes ≡ returned_read z s (value (content_of m) d)
          due_returned =
              let x = answer_ok content_held (whole (read_message z bytes) bytes) m d read in
              due_read x.0 d (due_as_message ∙ x.1) ∙ ap (λ (y : MessageContent). returned_read z s (value y d)) (sym (ap content_of x.2 ∙ held_content x.0))

          -- a key message is returned under the own id
          pub due_key_gen : (era : ℕ) (k : KeyGenMessage) (sig : ℕ) → m ≡ KeyGen era k sig → (id : ℕ) → s.counter.our_id ≡ id
              → returned z s bytes ≡ returned_key_gen z s (signed_by era id (message_of k) sig)
          due_key_gen era k sig q id ours =
              due_returned
              ∙ ap (λ (w : Message). returned_read z s (value (content_of w) d)) q
              ∙ ap (λ (i : ℕ). returned_key_gen z s (signed_by era i (message_of k) sig)) ours

          -- a vote is refused
          pub due_vote : (v : SignedVote) → m ≡ message.SignedVote v → returned z s bytes ≡ handled_as s (refusal 2)
          due_vote v q = due_returned ∙ ap (λ (w : Message). returned_read z s (value (content_of w) d)) q

-- what is left of a state when its item is done with: the answer is the item's, and a refusal keeps the state
abbrev pub Done : DynamicHoneyBadger → HandledOf → Handled → Type 0
Done d h r = (handled_of r ≡ h) × MessageRefusedKeeps r d

-- whether an item is to be stored
abbrev pub is_stored : Result (Option SignedKeyGenMsg) Refusal → Bool
is_stored (Ok (Some m)) = true
is_stored (Ok None) = false
is_stored (Err n) = false

module _ (z : Sizes) (d : DynamicHoneyBadger) (h : HandledOf) (o : Result (Option FaultKind) Refusal) (Q : Option SignedKeyGenMsg → Option FaultKind → Type 0)
    (quiet_only : (x : Option SignedKeyGenMsg) (y : Option FaultKind) → Q x y → y ≡ None) (t : DynamicHoneyBadger) where
  abbrev Told : Result (Option SignedKeyGenMsg) Refusal → Type 0
  Told f = MatchResult f (λ x. IsOkAnd o (Q x)) (λ n. o ≡ Err n)

  quiet_told : (x : Option SignedKeyGenMsg) → IsOkAnd o (Q x) → o ≡ Ok None
  quiet_told x told = go o told
    where
      go : (p : Result (Option FaultKind) Refusal) → IsOkAnd p (Q x) → p ≡ Ok None
      go (Ok y) q = ap Ok (quiet_only x y q)
      go (Err n) q = absurd q

  -- one that is stored
  pub done_stored : (f : Result (Option SignedKeyGenMsg) Refusal) (m : SignedKeyGenMsg) → f ≡ Ok (Some m) → FatedAs z (state_of d) h f → Told f
      → (u : Result Unit Refusal) (x : MessageStore) → pushed_of (record { store = x; outcome = u }) ≡ pushed z (store_of d.store) (signed_of m)
      → t ≡ record { params = d.params; vote_counter = d.vote_counter; key_gen_state = d.key_gen_state; store = x; last = d.last } → Done d h (record { state = t; outcome = o })
  done_stored f m e fated told u x p k =
      let s = state_of d in
      let q = subst (FatedAs z s h) e fated in
      let w = quiet_told (Some m) (subst Told e told) in (
        (λ i. handled_as (state_of (k i)) (said_handling (w i))) ∙ sym (q.1 ∙ ap (stored_in s s) (push_stored z s.store (signed_of m) q.0 u x p)),
        λ n r. absurd (cross (sym w ∙ r)),
      )

  -- and one that is not
  pub done_kept : (f : Result (Option SignedKeyGenMsg) Refusal) → is_stored f ≡ false → FatedAs z (state_of d) h f → Told f → t ≡ d → Done d h (record { state = t; outcome = o })
  done_kept (Ok (Some m)) e fated told k = absurd (false_true (sym e))
  done_kept (Ok None) e fated told k = ((λ i. handled_as (state_of (k i)) (said_handling (quiet_told None told i))) ∙ sym fated, λ n r. k)
  done_kept (Err n) e fated told k = ((λ i. handled_as (state_of (k i)) (said_handling (told i))) ∙ sym fated, λ m r. k)
