-- What committed votes and committed key messages leave as it was, and what becomes of the stored messages.
-- Assumes nothing.
use Prim.Native.Nat.{ℕ}
use mathlib.Core.Path.{◌≡◌, refl, sym, ap, ◌∙◌}
use mathlib.Core.List.{List, [], ◌∷◌}
use mathlib.Core.Bool.{Bool, true, false, cond, ◌&&◌}
use Rattle.lists.specs.Lists.{Found, filter}
use Rattle.bincode.specs.Sizes.{Sizes}
use Rattle.bincode.specs.Items.{foldl}
use Rattle.bincode.proofs.ItemLaws.{foldl_append}
use Rattle.votes.specs.Votes.{SignedVoteOf}
use Rattle.vote_counter.specs.VoteCounter.{CounterOf, VoteEffect, stored, nothing_new, fault, with_committed, committed_effect, after_committed, add_committed}
use Rattle.key_gen_state.specs.KeyGenState.{KeyGenStateOf}
use Rattle.key_gen_message.specs.KeyGenMessage.{SignedKeyGenMsgOf}
use Rattle.message_store.specs.MessageStore.{without, is_other}
use Rattle.internal_contrib.specs.InternalContrib.{ContribOf}
use Rattle.dynamic_honey_badger.specs.State.{StateOf, era_of, nodes_in, with_counter, with_key_gen, with_store}
use Rattle.steps.specs.Kept.{less, is_none, messages_in}
use Rattle.steps.specs.Steps.{WorkOf, Told, quiet, owed, blamed_proposer, blamed_signer, with_state, judged, voted_as, committed_vote, message_done, applied, committed_message, first_verdict, committed_contrib}

filter_both : {A : Type 0} (p q : A → Bool) (xs : List A) → filter q (filter p xs) ≡ filter (λ x. p x && q x) xs
unfolding filter
filter_both p q [] = refl
filter_both {A} p q (x ∷ xs) = go (p x) (filter_both p q xs)
  where
    go : (b : Bool) → filter q (filter p xs) ≡ filter (λ y. p y && q y) xs → filter q (cond b (x ∷ filter p xs) (filter p xs)) ≡ cond (b && q x) (x ∷ filter (λ y. p y && q y) xs) (filter (λ y. p y && q y) xs)
    go true e = ap (λ (ys : List A). cond (q x) (x ∷ ys) ys) e
    go false e = e

filter_all : {A : Type 0} (xs : List A) → xs ≡ filter (λ x. true) xs
unfolding filter
filter_all [] = refl
filter_all {A} (x ∷ xs) = ap (λ (ys : List A). x ∷ ys) (filter_all xs)

-- taken out one by one, what is left is what equals none of them
pub without_all : (ms store : List SignedKeyGenMsgOf) → foldl less store ms ≡ filter (is_none ms) store
unfolding without
without_all [] store = filter_all store
without_all (m ∷ ms) store = without_all ms (filter (is_other m) store) ∙ filter_both (is_other m) (is_none ms) store

-- the key messages of a contribution
module _ (z : Sizes) (proposer : ℕ) where
  -- whatever a message comes to, the state beside it stays
  told_state : (signer : ℕ) (t : Told) (w : WorkOf) → (applied z proposer signer t w).state ≡ w.state
  told_state signer quiet w = refl
  told_state signer (owed i) w = refl
  told_state signer (blamed_proposer k) w = refl
  told_state signer (blamed_signer k) w = refl

  -- a message changes key generation and takes its equals from the store, nothing else of the state
  message_state : (w : WorkOf) (m : SignedKeyGenMsgOf) → (g : Found KeyGenStateOf) × ((committed_message z proposer w m).state ≡ with_store (with_key_gen w.state g) (without m w.state.store))
  unfolding committed_message
  message_state w m =
      let d = message_done (era_of w.state) (nodes_in w.state) w.state.key_gen m (first_verdict w.verdicts) in
      (d.key_gen, told_state m.id d.told (with_state (judged w) (with_store (with_key_gen w.state d.key_gen) (without m w.state.store))))

  pub messages_counter : (ms : List SignedKeyGenMsgOf) (w : WorkOf) → (foldl (committed_message z proposer) w ms).state.counter ≡ w.state.counter
  messages_counter [] w = refl
  messages_counter (m ∷ ms) w = messages_counter ms (committed_message z proposer w m) ∙ ap (λ (s : StateOf). s.counter) (message_state w m).1

  pub messages_params : (ms : List SignedKeyGenMsgOf) (w : WorkOf) → (foldl (committed_message z proposer) w ms).state.params ≡ w.state.params
  messages_params [] w = refl
  messages_params (m ∷ ms) w = messages_params ms (committed_message z proposer w m) ∙ ap (λ (s : StateOf). s.params) (message_state w m).1

  pub messages_store : (ms : List SignedKeyGenMsgOf) (w : WorkOf) → (foldl (committed_message z proposer) w ms).state.store ≡ foldl less w.state.store ms
  messages_store [] w = refl
  messages_store (m ∷ ms) w = messages_store ms (committed_message z proposer w m) ∙ ap (λ (s : StateOf). foldl less s.store ms) (message_state w m).1

-- votes change committed votes, the board and faults alone
pub record VotesKept (w u : WorkOf) : Type 0 where
  pub by_state : u.state ≡ with_counter w.state (with_committed w.state.counter u.state.counter.committed u.state.counter.board)
  pub by_due : u.due ≡ w.due
  pub by_verdicts : u.verdicts ≡ w.verdicts

module _ (z : Sizes) (proposer : ℕ) where
  vote_kept : (w : WorkOf) (v : SignedVoteOf) → VotesKept w (committed_vote z proposer w v)
  unfolding committed_vote add_committed
  vote_kept w v = go (committed_effect w.state.counter v)
    where
      go : (e : VoteEffect) → VotesKept w (voted_as z proposer w (after_committed z w.state.counter v e))
      go stored = record { by_state = refl; by_due = refl; by_verdicts = refl }
      go nothing_new = record { by_state = refl; by_due = refl; by_verdicts = refl }
      go (fault k) = record { by_state = refl; by_due = refl; by_verdicts = refl }

  then : (w u x : WorkOf) → VotesKept w u → VotesKept u x → VotesKept w x
  then w u x a b =
      record {
        by_state = b.by_state ∙ ap (λ (s : StateOf). with_counter s (with_committed s.counter x.state.counter.committed x.state.counter.board)) a.by_state;
        by_due = b.by_due ∙ a.by_due;
        by_verdicts = b.by_verdicts ∙ a.by_verdicts;
      }

  pub votes_kept : (vs : List SignedVoteOf) (w : WorkOf) → VotesKept w (foldl (committed_vote z proposer) w vs)
  votes_kept [] w = record { by_state = refl; by_due = refl; by_verdicts = refl }
  votes_kept (v ∷ vs) w = then w _ _ (vote_kept w v) (votes_kept vs (committed_vote z proposer w v))

-- a whole batch
module _ (z : Sizes) where
  abbrev voted : WorkOf → ContribOf → WorkOf
  voted w c = foldl (committed_vote z c.id) w c.votes

  contrib_counter : (w : WorkOf) (c : ContribOf) → (committed_contrib z w c).state.counter ≡ with_committed w.state.counter (voted w c).state.counter.committed (voted w c).state.counter.board
  unfolding committed_contrib
  contrib_counter w c = messages_counter z c.id c.messages (voted w c) ∙ ap (λ (s : StateOf). s.counter) (votes_kept z c.id c.votes w).by_state

  contrib_params : (w : WorkOf) (c : ContribOf) → (committed_contrib z w c).state.params ≡ w.state.params
  unfolding committed_contrib
  contrib_params w c = messages_params z c.id c.messages (voted w c) ∙ ap (λ (s : StateOf). s.params) (votes_kept z c.id c.votes w).by_state

  contrib_store : (w : WorkOf) (c : ContribOf) → (committed_contrib z w c).state.store ≡ foldl less w.state.store c.messages
  unfolding committed_contrib
  contrib_store w c =
      messages_store z c.id c.messages (voted w c) ∙ ap (λ (s : StateOf). foldl less s.store c.messages) (votes_kept z c.id c.votes w).by_state

  -- of the counter committed votes and the board alone change
  pub batch_counter : (cs : List ContribOf) (w : WorkOf)
      → (foldl (committed_contrib z) w cs).state.counter ≡ with_committed w.state.counter (foldl (committed_contrib z) w cs).state.counter.committed (foldl (committed_contrib z) w cs).state.counter.board
  batch_counter [] w = refl
  batch_counter (c ∷ cs) w =
      let u = committed_contrib z w c in
      let x = foldl (committed_contrib z) u cs in
      batch_counter cs u ∙ ap (λ (k : CounterOf). with_committed k x.state.counter.committed x.state.counter.board) (contrib_counter w c)

  pub batch_params : (cs : List ContribOf) (w : WorkOf) → (foldl (committed_contrib z) w cs).state.params ≡ w.state.params
  batch_params [] w = refl
  batch_params (c ∷ cs) w = batch_params cs (committed_contrib z w c) ∙ contrib_params w c

  -- of the store every message goes that equals one of the batch
  pub batch_store : (cs : List ContribOf) (w : WorkOf) → (foldl (committed_contrib z) w cs).state.store ≡ foldl less w.state.store (messages_in cs)
  batch_store [] w = refl
  batch_store (c ∷ cs) w =
      batch_store cs (committed_contrib z w c) ∙ ap (λ (s : List SignedKeyGenMsgOf). foldl less s (messages_in cs)) (contrib_store w c)
      ∙ sym (foldl_append less w.state.store c.messages (messages_in cs))
