-- Own votes, received messages and due items handed back leave a formed state formed.
-- Assumes nothing.
use Prim.Native.Nat.{ℕ, ◌+◌, ◌^◌, ◌≤◌, ◌<◌}
use mathlib.Core.Path.{◌≡◌, refl, subst}
use mathlib.Core.List.{List, [], ◌∷◌, ◌++◌}
use mathlib.Core.Bool.{Bool, true, false, cond}
use native.Mathlib.Omega.{arith}
use lib.Dec.{ltb, leb, eqb}
use lib.ListN.{length, length-append}
use borrow.Author.Tests.{ltb-false, leb-false, eqb-true, eqb-false}
use Rattle.lists.specs.Lists.{Found, found, nothing, map_found, lookup}
use Rattle.bincode.specs.Read.{Read, value, refuse, whole}
use Rattle.bincode.specs.Outcome.{Outcome, done, refused}
use Rattle.bincode.specs.Numbers.{read_num, fixed}
use Rattle.bincode.specs.Sizes.{Sizes}
use Rattle.bincode.specs.Stands.{Bytes, All}
use Rattle.bincode.proofs.CodeLaws.{fixed_codes, one_encoding}
use Rattle.bincode.proofs.ReadLaws.{clash, same_value, cond_value, bind_value, done_refused}
use Rattle.network_info.specs.NetworkInfo.{key_of}
use Rattle.fault_log.specs.declared.FaultKind.TheVariants.{InvalidVoteSignature, UnexpectedDhbMessageEra, InvalidKeyGenMessageSignature, TooManyKeyGenMessages}
use Rattle.change.specs.Change.{ChangeOf, node_change, read_change, change_bytes, ChangeOk}
use Rattle.change.proofs.ChangeCodes.{change_codes}
use Rattle.votes.specs.Votes.{SignedVoteOf, SignedVoteOk}
use Rattle.signed_votes.specs.SignedVotes.{voter_of, num_of}
use Rattle.vote_counter.specs.VoteCounter as counter
use Rattle.vote_counter.specs.VoteCounter.{obsolete, is_key, valid_vote, pending_effect, after_pending, add_pending, next_num, own_vote, signed_with, sign_vote_for}
use Rattle.key_gen.specs.KeyGen.{node_count}
use Rattle.key_gen_state.specs.KeyGenState.{KeyGenStateOf, CountedOf, count_messages}
use Rattle.key_gen_message.specs.KeyGenMessage.{SignedKeyGenMsgOf, SignedOk}
use Rattle.message.specs.Message.{MessageContent, key_gen, signed_vote, read_key_gen, read_message, content_bytes, ContentOk}
use Rattle.message.proofs.ContentCodes.{content_codes}
use Rattle.message_store.specs.MessageStore.{row12, pushed}
use Rattle.node_change.specs.NodeChange.{row13, with_node, without_node}
use Rattle.dynamic_honey_badger.specs.State.{StateOf, era_of, nodes_in, with_key_gen, with_store, is_validator, valid_signature}
use Rattle.dynamic_honey_badger.specs.OwnVotes.{VotedOf, voted_as, signed_in, vote_for, vote_for_read, vote_for_bytes, vote_to_add, vote_to_remove}
use Rattle.dynamic_honey_badger.specs.Received.{HandledOf, handled_as, quiet, fault, voted_in, stored_in, key_gen_in, received_key_gen, message_era, signed_by, received_now, received_content, received_read, received, read_due_item, returned_key_gen, returned_read, returned}
use Rattle.vote_counter.proofs.MemberLaws.{signer_member}
use Rattle.agreement.specs.Formed.{KeyGenFormed, RunningFormed, Formed}
use Rattle.agreement.proofs.AllLaws.{all_lookup, all_more}
use Rattle.agreement.proofs.FormedParts.{with_node_ok, without_node_ok, vote_more}
use Rattle.agreement.proofs.FormedKeyGen.{counted_formed}
use Rattle.agreement.proofs.FormedChanges.{with_pending_lem, with_key_gen_lem, with_store_lem}

-- own votes
module _ (z : Sizes) (s : StateOf) (f : Formed z s) where
  -- the number of the own vote fits
  next_fits : (x : Found SignedVoteOf) → lookup voter_of s.counter.pending s.counter.our_id ≡ x → (num : ℕ) → next_num (map_found num_of x) ≡ done num → num < 256 ^ 8
  next_fits nothing e num q = let p : 0 ≡ num = cc in omega arith
  next_fits (found v) e num q = go (eqb v.vote.num 18446744073709551615) refl q
    where
      fits : v.vote.num < 256 ^ 8
      fits = (all_lookup (SignedVoteOk z) voter_of s.counter.pending s.counter.our_id v f.pending_formed.votes_ok e).vote_ok.num_fits

      go : (b : Bool) → eqb v.vote.num 18446744073709551615 ≡ b → cond b (refused 11) (done (v.vote.num + 1)) ≡ done num → num < 256 ^ 8
      go true t q = absurd (done_refused q)
      go false t q =
          let p : v.vote.num + 1 ≡ num = cc in
          let n = eqb-false v.vote.num 18446744073709551615 t in
          omega (arith, fits)

  vote_formed : (c : ChangeOf) → ChangeOk z c → Formed z (vote_for z s c).state
  unfolding vote_for sign_vote_for
  vote_formed c o = go (is_validator s) refl (next_num (map_found num_of (lookup voter_of s.counter.pending s.counter.our_id))) refl
    where
      go : (b : Bool) → is_validator s ≡ b → (x : Outcome ℕ) → next_num (map_found num_of (lookup voter_of s.counter.pending s.counter.our_id)) ≡ x
          → Formed z (cond {A = VotedOf} b (signed_in s (signed_with z s.counter c x)) (voted_as s (done nothing))).state
      go true m (done num) e =
          with_pending_lem z s f _
          (vote_more z (nodes_in s) (own_vote s.counter c num) s.counter.pending m
          (record {
            vote_ok = record { change_ok = o; era_fits = f.era_fits; num_fits = next_fits (lookup voter_of s.counter.pending s.counter.our_id) refl num e };
            voter_fits = f.our_id_fits;
            sig_fits = f.our_key_fits;
          })
          f.pending_formed)
      go true m (refused n) e = f
      go false m x e = f

  -- `vote_for`, on bytes
  pub vote_for_formed : z.nodes < 256 ^ 8 → (bytes : List ℕ) → Bytes bytes → Formed z (vote_for_bytes z s bytes).state
  unfolding vote_for_bytes
  vote_for_formed nodes-fit bytes are = go (whole (read_change fixed z bytes) bytes) refl
    where
      go : (x : Read ChangeOf) → whole (read_change fixed z bytes) bytes ≡ x → Formed z (vote_for_read z s x).state
      go (value c at) e =
          vote_formed c (one_encoding (read_change fixed z) (change_bytes fixed) (ChangeOk z) (λ l. change_codes fixed l (fixed_codes l) z nodes-fit) bytes c at are e).1
      go (refuse n) e = f

  -- `vote_to_add`
  pub vote_to_add_formed : (id key : ℕ) → id < 256 ^ 4 → key < 256 ^ 8 → Formed z (vote_to_add z s id key).state
  unfolding vote_to_add
  vote_to_add_formed id key i k = go (eqb key 0) refl (is_validator s) (row13 z (nodes_in s) id)
    where
      m : ChangeOf
      m = node_change (with_node z (nodes_in s) (record { id = id; key = key }))

      go : (a : Bool) → eqb key 0 ≡ a → (b c : Bool)
          → Formed z (cond {A = VotedOf} a (voted_as s (refused 2)) (cond b (cond c (voted_as s (refused 13)) (vote_for z s m)) (voted_as s (done nothing)))).state
      go true e b c = f
      go false e true true = f
      go false e true false = vote_formed m (with_node_ok z (nodes_in s) id key i k (eqb-false key 0 e) f.nodes_formed.map_ok)
      go false e false c = f

  -- `vote_to_remove`
  pub vote_to_remove_formed : (id : ℕ) → Formed z (vote_to_remove z s id).state
  unfolding vote_to_remove
  vote_to_remove_formed id = vote_formed (node_change (without_node (nodes_in s) id)) (without_node_ok z (nodes_in s) id f.nodes_formed.map_ok)

-- received messages, and due items handed back
module _ (z : Sizes) (s : StateOf) (f : Formed z s) where
  -- a received vote
  pending_added : (v : SignedVoteOf) → SignedVoteOk z v → Formed z (voted_in s (add_pending z s.counter v)).state
  unfolding add_pending pending_effect valid_vote
  pending_added v o = go (eqb v.vote.era (era_of s)) (obsolete s.counter.pending v) (is_key v.sig (key_of (nodes_in s) v.voter)) refl
    where
      go : (a b c : Bool) → is_key v.sig (key_of (nodes_in s) v.voter) ≡ c
          → Formed z
          (voted_in s (after_pending z s.counter v (cond a (cond b counter.nothing_new (cond c counter.stored (counter.fault InvalidVoteSignature))) counter.nothing_new))).state
      go true true c e = f
      go true false true e =
          with_pending_lem z s f _ (vote_more z (nodes_in s) v s.counter.pending (signer_member (nodes_in s) v.voter v.sig e) o f.pending_formed)
      go true false false e = f
      go false b c e = f

  -- a message put into the store, where it is of the era; t has the same store
  pushed_formed : (t : StateOf) → ((ms : List SignedKeyGenMsgOf) → All (λ (x : SignedKeyGenMsgOf). x.era ≡ era_of s) ms → All (SignedOk z) ms → length ms ≤ z.store → Formed z (with_store t ms))
      → (m : SignedKeyGenMsgOf) → m.era ≡ era_of s → SignedOk z m → Formed z (stored_in s t (pushed z s.store m)).state
  unfolding pushed row12
  pushed_formed t put m e o = go (leb z.store (length s.store)) refl
    where
      go : (b : Bool) → leb z.store (length s.store) ≡ b → Formed z (stored_in s t (cond b (refused 12) (done (s.store ++ (m ∷ []))))).state
      go true q = f
      go false q =
          put (s.store ++ (m ∷ [])) (all_more (λ (x : SignedKeyGenMsgOf). x.era ≡ era_of s) s.store m f.store_era e)
          (all_more (SignedOk z) s.store m f.store_ok o)
          (rw (length-append s.store (m ∷ [])) (omega (arith, leb-false z.store (length s.store) q)))

  -- a received key message of the era
  key_message_formed : (m : SignedKeyGenMsgOf) → m.era ≡ era_of s → SignedOk z m → Formed z (received_key_gen z s m).state
  unfolding received_key_gen
  key_message_formed m e o = go (valid_signature s m.id m.sig) s.key_gen f.key_gen_formed
    where
      stored : (b : Bool) (g : KeyGenStateOf) → KeyGenFormed z s.counter.our_id g
          → Formed z (cond {A = HandledOf} b (handled_as (with_key_gen s (found g)) (fault TooManyKeyGenMessages)) (stored_in s (with_key_gen s (found g)) (pushed z s.store m))).state
      stored true g k = with_key_gen_lem z s f (found g) k
      stored false g k = pushed_formed (with_key_gen s (found g)) (with_store_lem z (with_key_gen s (found g)) (with_key_gen_lem z s f (found g) k)) m e o

      go : (b : Bool) (g : Found KeyGenStateOf) → RunningFormed z s.counter.our_id g → Formed z (cond {A = HandledOf} b (key_gen_in z s m g) (handled_as s (fault InvalidKeyGenMessageSignature))).state
      go true (found g) k =
          let c : CountedOf = count_messages z (nodes_in s) g m.id in
          stored (ltb (node_count g.key_gen + 1) c.count) c.state (counted_formed z (nodes_in s) s.counter.our_id g m.id k)
      go true nothing k = f
      go false g k = f

  -- a received message
  pub message_formed : z.nodes < 256 ^ 8 → z.rows < 256 ^ 8 → (sender : ℕ) (bytes : List ℕ) → sender < 256 ^ 4 → Bytes bytes → Formed z (received z s sender bytes).state
  unfolding received received_content
  message_formed nodes-fit rows_fit sender bytes fits are = go (whole (read_message z bytes) bytes) refl
    where
      now : (x : MessageContent) → ContentOk z x → message_era x ≡ era_of s → Formed z (received_now z s sender x).state
      now (key_gen era m sig) o e = key_message_formed (signed_by era sender m sig) e (record { era_fits = o.0; id_fits = fits; message_ok = o.1; sig_fits = o.2 })
      now (signed_vote v) o e = pending_added v o

      by_era : (x : MessageContent) → ContentOk z x → (a : Bool) → ltb (era_of s) (message_era x) ≡ a → (b : Bool) → ltb (message_era x) (era_of s) ≡ b
          → Formed z (cond {A = HandledOf} a (handled_as s (fault UnexpectedDhbMessageEra)) (cond b (handled_as s quiet) (received_now z s sender x))).state
      by_era x o true p b q = f
      by_era x o false p true q = f
      by_era x o false p false q = now x o (omega (arith, ltb-false (era_of s) (message_era x) p, ltb-false (message_era x) (era_of s) q))

      go : (x : Read MessageContent) → whole (read_message z bytes) bytes ≡ x → Formed z (received_read z s sender x).state
      go (value x c) e =
          by_era x (one_encoding (read_message z) content_bytes (ContentOk z) (λ l. content_codes l z nodes-fit rows_fit) bytes x c are e).1 (ltb (era_of s) (message_era x)) refl
          (ltb (message_era x) (era_of s)) refl
      go (refuse n) e = f

  -- what a due item is read as, a message is read as
  due_message : (bytes : List ℕ) (x : MessageContent) (c : ℕ) → read_due_item z bytes 0 ≡ value x c → read_message z bytes 0 ≡ value x c
  unfolding read_due_item read_message
  due_message bytes x c e = let u = bind_value (read_num 4 bytes 0) _ e in rw u.2 (go u.1 (eqb u.0 1) _ u.3)
    where
      go : (d : ℕ) (b : Bool) (o : Read MessageContent) → cond b (read_key_gen z bytes d) (refuse 2) ≡ value x c → cond b (read_key_gen z bytes d) o ≡ value x c
      go d true o q = q
      go d false o q = absurd (clash (refuse 2) q refl)

  -- a due item handed back
  pub due_formed : z.nodes < 256 ^ 8 → z.rows < 256 ^ 8 → (bytes : List ℕ) → Bytes bytes → Formed z (returned z s bytes).state
  unfolding returned returned_key_gen whole
  due_formed nodes-fit rows_fit bytes are = go (whole (read_due_item z bytes) bytes) refl
    where
      by_era : (m : SignedKeyGenMsgOf) → SignedOk z m → (a : Bool) → eqb m.era (era_of s) ≡ a → (b : Bool)
          → Formed z (cond {A = HandledOf} a (cond b (stored_in s s (pushed z s.store m)) (handled_as s quiet)) (handled_as s quiet)).state
      by_era m o true e true = pushed_formed s (with_store_lem z s f) m (eqb-true m.era (era_of s) e) o
      by_era m o true e false = f
      by_era m o false e b = f

      ok : (x : MessageContent) (c : ℕ) → whole (read_due_item z bytes) bytes ≡ value x c → ContentOk z x
      ok x c e =
          let u = bind_value (read_due_item z bytes 0) _ e in
          let v = cond_value (value u.0 u.1) (ltb u.1 (length bytes)) 2 u.3 in
          subst (ContentOk z) (same_value (value u.0 u.1) refl v.1) ((content_codes bytes z nodes-fit rows_fit).stands are 0 u.0 u.1 (due_message bytes u.0 u.1 u.2)).2

      go : (x : Read MessageContent) → whole (read_due_item z bytes) bytes ≡ x → Formed z (returned_read z s x).state
      go (value (key_gen era m sig) c) e =
          let o = ok (key_gen era m sig) c e in
          by_era (signed_by era s.counter.our_id m sig) (record { era_fits = o.0; id_fits = f.our_id_fits; message_ok = o.1; sig_fits = o.2 }) (eqb era (era_of s)) refl (is_validator s)
      go (value (signed_vote v) c) e = f
      go (refuse n) e = f
