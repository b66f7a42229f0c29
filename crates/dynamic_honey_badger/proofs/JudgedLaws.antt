-- Laws of what is judged of a message on small parts of the state, and of what is then done.
-- Assumes nothing.
use borrow.Author.Tests.{le-leb, lt-leb}
use mathlib.Core.Bool.{Bool, true, false}
use mathlib.Core.List.{List, [], ◌∷◌, ◌++◌}
use mathlib.Core.Path.{◌≡◌, refl, sym, ap, ◌∙◌}
use Prim.Native.Nat.{ℕ, ◌+◌, ◌≤◌, ◌<◌}
use lib.Dec.{leb}
use Rattle.std.specs.declared.result.Result.{Result}
use Rattle.std.specs.declared.result.Result.TheVariants.{Ok, Err}
use lib.ListN.{length}
use Rattle.lists.specs.Lists.{Found, found, nothing}
use Rattle.bincode.specs.Outcome.{done, refused}
use Rattle.bincode.specs.Sizes.{Sizes, base}
use Rattle.bincode.specs.declared.Refusal.{Refusal}
use Rattle.bincode.proofs.ReadLaws.{cross, done_refused}
use Rattle.pub_key_map.specs.declared.Node.{Node}
use Rattle.fault_log.specs.declared.FaultKind.TheVariants.{InvalidKeyGenMessageSignature, UnexpectedKeyGenMessage, TooManyKeyGenMessages}
use Rattle.vote_counter.specs.declared.VoteOutcome.{VoteOutcome}
use Rattle.vote_counter.specs.declared.VoteOutcome.TheVariants as added
use Rattle.vote_counter.specs.Answers.{said_outcome}
use Rattle.key_gen.specs.KeyGen.{node_count}
use Rattle.key_gen_state.specs.KeyGenState.{KeyGenStateOf, CountedOf, count_messages}
use Rattle.key_gen_message.specs.KeyGenMessage.{SignedKeyGenMsgOf}
use Rattle.message_store.specs.declared.MessageStore.{MessageStore}
use Rattle.message_store.specs.MessageStore.{row12, pushed, store_of, pushed_of}
use Rattle.dynamic_honey_badger.specs.Received.{HandledOf, fault, refusal, handled_as, vote_effect, stored_in, received_key_gen, said_handling}
use Rattle.dynamic_honey_badger.specs.Parts.{added_as, PartsOf}
use Rattle.dynamic_honey_badger.specs.State.{StateOf, nodes_in, with_key_gen, candidate_nodes, valid_under, valid_signature}
use Rattle.dynamic_honey_badger.proofs.ReceivedLaws.{key_invalid, key_valid, key_unexpected, key_many, key_stored}

-- by how many a store holds it is told whether the store is full
pub full_by_count : (x : MessageStore) (n : ℕ) → n ≡ length (store_of x) → row12 base (store_of x) ≡ leb base.store n
unfolding row12
full_by_count x n e = ap (leb base.store) (sym e)

module _ (z : Sizes) (ms : List SignedKeyGenMsgOf) (m : SignedKeyGenMsgOf) where
  -- a full store refuses
  pub full_refuses : row12 z ms ≡ true → pushed z ms m ≡ refused 12
  unfolding pushed
  full_refuses e = rw e

  room_stores : row12 z ms ≡ false → pushed z ms m ≡ done (ms ++ (m ∷ []))
  unfolding pushed
  room_stores e = rw e

  -- one with room stores
  pub push_stored : row12 z ms ≡ false → (o : Result Unit Refusal) (x : MessageStore) → pushed_of (record { store = x; outcome = o }) ≡ pushed z ms m → pushed z ms m ≡ done (store_of x)
  push_stored r (Ok u) x e = sym e
  push_stored r (Err n) x e = absurd (done_refused (e ∙ room_stores r))

-- adding a vote tells of its message, and never refuses it
pub added_tells : (o : VoteOutcome) → said_handling (added_as o) ≡ vote_effect (said_outcome o)
added_tells added.Stored = refl
added_tells added.Nothing = refl
added_tells (added.Faulty k) = refl

pub added_not_refused : (o : VoteOutcome) (n : Refusal) → added_as o ≡ Err n → ⊥
added_not_refused added.Stored n e = cross e
added_not_refused added.Nothing n e = cross e
added_not_refused (added.Faulty k) n e = cross e

-- a key message, by the parts: its signature, running key generation, its sender's count, the store
module _ (z : Sizes) (s : StateOf) (ns : List Node) (g : Found KeyGenStateOf) (held : ℕ) (p : PartsOf z s ns g held) (m : SignedKeyGenMsgOf) where
  signature : (b : Bool) → valid_under ns (candidate_nodes g) m.id m.sig ≡ b → valid_signature s m.id m.sig ≡ b
  signature b e =
      ap (λ (x : List Node). valid_under x (candidate_nodes s.key_gen) m.id m.sig) p.0
      ∙ ap (λ (x : Found KeyGenStateOf). valid_under ns (candidate_nodes x) m.id m.sig) p.1
      ∙ e

  pub judged_invalid : valid_under ns (candidate_nodes g) m.id m.sig ≡ false → received_key_gen z s m ≡ handled_as s (fault InvalidKeyGenMessageSignature)
  judged_invalid v = key_invalid z s m (signature false v)

  module _ (v : valid_under ns (candidate_nodes g) m.id m.sig ≡ true) where
    pub judged_unexpected : g ≡ nothing → received_key_gen z s m ≡ handled_as s (fault UnexpectedKeyGenMessage)
    judged_unexpected e = key_valid z s m (signature true v) ∙ key_unexpected z s m (p.1 ∙ e)

    module _ (r : KeyGenStateOf) (e : g ≡ found r) (c : CountedOf) (k : c ≡ count_messages z ns r m.id) where
      counted : c ≡ count_messages z (nodes_in s) r m.id
      counted = k ∙ ap (λ (x : List Node). count_messages z x r m.id) (sym p.0)

      pub judged_many : (t : Found KeyGenStateOf) → t ≡ found c.state → node_count r.key_gen + 1 < c.count
          → received_key_gen z s m ≡ handled_as (with_key_gen s t) (fault TooManyKeyGenMessages)
      judged_many t h n =
          key_valid z s m (signature true v)
          ∙ key_many z s m r (p.1 ∙ e) c counted n
          ∙ ap {B = HandledOf} (λ (x : Found KeyGenStateOf). handled_as (with_key_gen s x) (fault TooManyKeyGenMessages)) (sym h)

      module _ (n : c.count ≤ node_count r.key_gen + 1) where
        few : received_key_gen z s m ≡ stored_in s (with_key_gen s (found c.state)) (pushed z s.store m)
        few = key_valid z s m (signature true v) ∙ key_stored z s m r (p.1 ∙ e) c counted n (pushed z s.store m) refl

        pub judged_stored : (t : Found KeyGenStateOf) → t ≡ found c.state → received_key_gen z s m ≡ stored_in s (with_key_gen s t) (pushed z s.store m)
        judged_stored t h = few ∙ ap {B = HandledOf} (λ (x : Found KeyGenStateOf). stored_in s (with_key_gen s x) (pushed z s.store m)) (sym h)

        pub judged_full : z.store ≤ held → received_key_gen z s m ≡ handled_as s (refusal 12)
        judged_full h = few ∙ ap (stored_in s (with_key_gen s (found c.state))) (full_refuses z s.store m (p.2 ∙ le-leb z.store held h))

  -- the store has room where fewer are held than it has places
  pub judged_room : held < z.store → row12 z s.store ≡ false
  judged_room h = p.2 ∙ lt-leb z.store held h
