-- Step for step, the faults under document 01's order of checks on a vote are those of the present order less the marked ones (NumberFirst), and all else is the same.
-- Assumes nothing.
use Prim.Native.Nat.{ℕ, ◌+◌, ◌≤◌, ◌<◌}
use mathlib.Core.Path.{◌≡◌, refl, sym, ap, ◌∙◌, subst}
use mathlib.Core.List.{List, [], ◌∷◌, ◌++◌, append-nil, append_assoc}
use mathlib.Core.Bool.{Bool, true, false, cond}
use native.Mathlib.Omega.{arith}
use lib.Dec.{eqb}
use lib.ListN.{length, length-append}
use Rattle.bincode.specs.Items.{foldl}
use Rattle.bincode.specs.Sizes.{Sizes}
use Rattle.fault_log.specs.declared.FaultKind.{FaultKind}
use Rattle.fault_log.specs.declared.FaultKind.TheVariants.{InvalidCommittedVote}
use Rattle.votes.specs.Votes.{SignedVoteOf}
use Rattle.vote_counter.specs.VoteCounter as counter
use Rattle.vote_counter.specs.VoteCounter.{obsolete, valid_vote, vote_effect, after_committed, add_committed}
use Rattle.vote_counter.specs.NumberFirst.{number_first, added_number_first}
use Rattle.key_gen_message.specs.KeyGenMessage.{SignedKeyGenMsgOf}
use Rattle.internal_contrib.specs.InternalContrib.{ContribOf}
use Rattle.message_store.specs.MessageStore.{without}
use Rattle.dynamic_honey_badger.specs.State.{StateOf, era_of, nodes_in, with_key_gen, with_store}
use Rattle.steps.specs.Steps.{WorkOf, with_state, judged, blame, voted_as, committed_vote, Told, quiet, owed, blamed_proposer, blamed_signer, message_done, first_verdict, applied, committed_message, committed_contrib, begun, committed}
use Rattle.steps.proofs.PageLaws.{more}
use Rattle.agreement.proofs.FoldLaws.{total, total_one}
use Rattle.agreement.proofs.StepLaws.{vote_faults, message_faults, items_in, item_count, votes_faults, contrib_faults}
use Rattle.agreement.specs.NumberFirst.{unmarked, all_marks, vote_number_first, contrib_number_first, committed_number_first, marked_if, vote_marks, never_marked, message_marks, contrib_marks, batch_marks}

-- a list without its marked elements is no longer than it
module _ {A : Type 0} where
  unmarked_few : (ms : List Bool) (xs : List A) → length (unmarked ms xs) ≤ length xs
  unmarked_few [] xs = omega arith
  unmarked_few (m ∷ ms) [] = omega arith
  unmarked_few (m ∷ ms) (x ∷ xs) = go m (unmarked_few ms xs)
    where
      go : (b : Bool) → length (unmarked ms xs) ≤ length xs → length (cond b (unmarked ms xs) (x ∷ unmarked ms xs)) ≤ length (x ∷ xs)
      go true h = omega (arith, h)
      go false h = omega (arith, h)

  unmarked_append : (ms ns : List Bool) (xs ys : List A) → length ms ≡ length xs → unmarked (ms ++ ns) (xs ++ ys) ≡ unmarked ms xs ++ unmarked ns ys
  unmarked_append [] ns [] ys e = refl
  unmarked_append [] ns (x ∷ xs) ys e = absurd (let y : ⊥ = omega (arith, e) in y)
  unmarked_append (m ∷ ms) ns [] ys e = absurd (let y : ⊥ = omega (arith, e) in y)
  unmarked_append (m ∷ ms) ns (x ∷ xs) ys e = go m (unmarked_append ms ns xs ys (omega (arith, e)))
    where
      go : (b : Bool) → unmarked (ms ++ ns) (xs ++ ys) ≡ unmarked ms xs ++ unmarked ns ys
          → cond b (unmarked (ms ++ ns) (xs ++ ys)) (x ∷ unmarked (ms ++ ns) (xs ++ ys)) ≡ cond b (unmarked ms xs) (x ∷ unmarked ms xs) ++ unmarked ns ys
      go true h = h
      go false h = ap (λ (zs : List A). x ∷ zs) h

-- the present work without its marked faults
abbrev pub less : List Bool → WorkOf → WorkOf
less ms w = record { state = w.state; faults = unmarked ms w.faults; due = w.due; verdicts = w.verdicts }

-- a mark for each fault of the present work w, and u is w without those that are marked
pub record Beside (ms : List Bool) (w u : WorkOf) : Type 0 where
  pub fit : length ms ≡ length w.faults
  pub same : u ≡ less ms w

beside_same : (ms ns : List Bool) (w u : WorkOf) → ms ≡ ns → Beside ms w u → Beside ns w u
beside_same ms ns w u e b = subst (λ (ks : List Bool). Beside ks w u) e b

-- a list of items, where each item with room keeps the two in step
module _ {A : Type 0} (weight : A → ℕ) (limit : ℕ) (f g : WorkOf → A → WorkOf) (marks : WorkOf → A → List Bool)
    (grows : (w : WorkOf) (x : A) → length (f w x).faults ≤ length w.faults + weight x)
    (one : (ms : List Bool) (w u : WorkOf) (x : A) → Beside ms w u → length w.faults + weight x ≤ limit → Beside (ms ++ marks w x) (f w x) (g u x)) where
  fold_beside : (xs : List A) (ms : List Bool) (w u : WorkOf) → Beside ms w u → length w.faults + total weight xs ≤ limit
      → Beside (ms ++ all_marks f marks w xs) (foldl f w xs) (foldl g u xs)
  fold_beside [] ms w u b r = beside_same ms (ms ++ []) w u (sym (append-nil ms)) b
  fold_beside (x ∷ xs) ms w u b r =
      beside_same ((ms ++ marks w x) ++ all_marks f marks (f w x) xs) (ms ++ all_marks f marks w (x ∷ xs)) (foldl f (f w x) xs) (foldl g (g u x) xs)
      (append_assoc ms (marks w x) (all_marks f marks (f w x) xs))
      (fold_beside xs (ms ++ marks w x) (f w x) (g u x) (one ms w u x b (omega arith)) (omega (arith, grows w x)))

module _ (z : Sizes) where
  -- one fault more, marked or not
  module _ (ms : List Bool) (w : WorkOf) (fit : length ms ≡ length w.faults) (room : length w.faults < z.faults) (id : ℕ) (k : FaultKind) where
    mark_fits : (m : Bool) → length (ms ++ (m ∷ [])) ≡ length (blame z id k w).faults
    mark_fits m = rw (more z.faults w.faults (record { node_id = id; kind = k }) room) (simp length-append (omega (arith, fit)))

    fault_marked : less ms w ≡ less (ms ++ (true ∷ [])) (blame z id k w)
    fault_marked = ap (λ fs. record { state = w.state; faults = fs; due = w.due; verdicts = w.verdicts }) go
      where
        go : unmarked ms w.faults ≡ unmarked (ms ++ (true ∷ [])) (blame z id k w).faults
        go =
            sym (append-nil (unmarked ms w.faults)) ∙ sym (unmarked_append ms (true ∷ []) w.faults (record { node_id = id; kind = k } ∷ []) fit)
            ∙ ap (unmarked (ms ++ (true ∷ []))) (sym (more z.faults w.faults (record { node_id = id; kind = k }) room))

    fault_kept : blame z id k (less ms w) ≡ less (ms ++ (false ∷ [])) (blame z id k w)
    fault_kept = ap (λ fs. record { state = w.state; faults = fs; due = w.due; verdicts = w.verdicts }) go
      where
        go : (blame z id k (less ms w)).faults ≡ unmarked (ms ++ (false ∷ [])) (blame z id k w).faults
        go =
            more z.faults (unmarked ms w.faults) (record { node_id = id; kind = k }) (omega (arith, unmarked_few ms w.faults))
            ∙ sym (unmarked_append ms (false ∷ []) w.faults (record { node_id = id; kind = k } ∷ []) fit)
            ∙ ap (unmarked (ms ++ (false ∷ []))) (sym (more z.faults w.faults (record { node_id = id; kind = k }) room))

  module _ (p : ℕ) (ms : List Bool) (w : WorkOf) (fit : length ms ≡ length w.faults) (room : length w.faults < z.faults) where
    -- no fault more: the marks are the same
    none_more : (s : StateOf) → Beside (ms ++ []) (record { state = s; faults = w.faults; due = w.due; verdicts = w.verdicts }) (less ms (record { state = s; faults = w.faults; due = w.due; verdicts = w.verdicts }))
    none_more s = beside_same ms (ms ++ []) _ _ (sym (append-nil ms)) (record { fit = fit; same = refl })

    -- a vote
    vote_beside : (v : SignedVoteOf) → Beside (ms ++ vote_marks w v) (committed_vote z p w v) (vote_number_first z p (less ms w) v)
    unfolding vote_marks committed_vote vote_number_first added_number_first number_first add_committed vote_effect
    vote_beside v = go (eqb v.vote.era w.state.counter.era) (valid_vote w.state.counter.nodes v) (obsolete w.state.counter.committed v)
      where
        bad : counter.VoteEffect
        bad = counter.fault InvalidCommittedVote

        now : Bool → Bool → Bool → counter.VoteEffect
        now a b o = cond a (cond b (cond o counter.nothing_new counter.stored) bad) bad

        then : Bool → Bool → Bool → counter.VoteEffect
        then a b o = cond o counter.nothing_new (cond a (cond b counter.stored bad) bad)

        faulted : (o : Bool)
            → Beside (ms ++ (o ∷ [])) (voted_as z p w (after_committed z w.state.counter v bad))
            (voted_as z p (less ms w) (after_committed z w.state.counter v (cond o counter.nothing_new bad)))
        faulted true = record { fit = mark_fits ms w fit room p InvalidCommittedVote true; same = fault_marked ms w fit room p InvalidCommittedVote }
        faulted false = record { fit = mark_fits ms w fit room p InvalidCommittedVote false; same = fault_kept ms w fit room p InvalidCommittedVote }

        go : (a b o : Bool)
            → Beside (ms ++ marked_if o (now a b o)) (voted_as z p w (after_committed z w.state.counter v (now a b o)))
            (voted_as z p (less ms w) (after_committed z w.state.counter v (then a b o)))
        go true true true = none_more w.state
        go true true false = none_more _
        go true false true = faulted true
        go true false false = faulted false
        go false b true = faulted true
        go false b false = faulted false

    -- a key message: nothing of it is marked
    told_beside : (id : ℕ) (t : Told) → Beside (ms ++ never_marked t) (applied z p id t w) (applied z p id t (less ms w))
    told_beside id quiet = none_more w.state
    told_beside id (owed i) = beside_same ms (ms ++ []) _ _ (sym (append-nil ms)) (record { fit = fit; same = refl })
    told_beside id (blamed_proposer k) = record { fit = mark_fits ms w fit room p k false; same = fault_kept ms w fit room p k }
    told_beside id (blamed_signer k) = record { fit = mark_fits ms w fit room id k false; same = fault_kept ms w fit room id k }

  message_beside : (p : ℕ) (ms : List Bool) (w : WorkOf) → length ms ≡ length w.faults → length w.faults < z.faults → (m : SignedKeyGenMsgOf)
      → Beside (ms ++ message_marks w m) (committed_message z p w m) (committed_message z p (less ms w) m)
  unfolding message_marks committed_message
  message_beside p ms w fit room m =
      let d = message_done (era_of w.state) (nodes_in w.state) w.state.key_gen m (first_verdict w.verdicts) in
      told_beside p ms (with_state (judged w) (with_store (with_key_gen w.state d.key_gen) (without m w.state.store))) fit room m.id d.told

  -- from two works in step on
  module _ {A : Type 0} (p : ℕ) (f g : WorkOf → A → WorkOf) (marks : WorkOf → A → List Bool)
      (one : (ms : List Bool) (w : WorkOf) → length ms ≡ length w.faults → length w.faults < z.faults → (x : A) → Beside (ms ++ marks w x) (f w x) (g (less ms w) x)) where
    from_beside : (ms : List Bool) (w u : WorkOf) (x : A) → Beside ms w u → length w.faults + 1 ≤ z.faults → Beside (ms ++ marks w x) (f w x) (g u x)
    from_beside ms w u x b r = subst (λ (v : WorkOf). Beside (ms ++ marks w x) (f w x) (g v x)) (sym b.same) (one ms w b.fit (omega (arith, r)) x)

  -- a contribution
  contrib_beside : (ms : List Bool) (w u : WorkOf) (c : ContribOf) → Beside ms w u → length w.faults + items_in c ≤ z.faults
      → Beside (ms ++ contrib_marks z w c) (committed_contrib z w c) (contrib_number_first z u c)
  unfolding contrib_marks committed_contrib contrib_number_first
  contrib_beside ms w u c b r =
      let voted = foldl (committed_vote z c.id) w c.votes in
      let vs = all_marks (committed_vote z c.id) vote_marks w c.votes in
      let ks = all_marks (committed_message z c.id) message_marks voted c.messages in
      let after-votes : Beside (ms ++ vs) voted (foldl (vote_number_first z c.id) u c.votes) =
      fold_beside (λ v. 1) z.faults (committed_vote z c.id) (vote_number_first z c.id) vote_marks (vote_faults z c.id)
      (from_beside c.id (committed_vote z c.id) (vote_number_first z c.id) vote_marks (vote_beside c.id))
      c.votes ms w u b (omega (arith, total_one c.votes)) in
      beside_same ((ms ++ vs) ++ ks) (ms ++ (vs ++ ks)) _ _ (append_assoc ms vs ks)
      (fold_beside (λ m. 1) z.faults (committed_message z c.id) (committed_message z c.id) message_marks (message_faults z c.id)
      (from_beside c.id (committed_message z c.id) (committed_message z c.id) message_marks (message_beside c.id))
      c.messages (ms ++ vs) voted (foldl (vote_number_first z c.id) u c.votes) after-votes
      (omega (arith, total_one c.messages, votes_faults z c.id w c.votes)))

  -- a batch
  pub batch_beside : (s : StateOf) (verdicts : List ℕ) (cs : List ContribOf) → item_count cs ≤ z.faults
      → Beside (batch_marks z s verdicts cs) (committed z s verdicts cs) (committed_number_first z s verdicts cs)
  unfolding batch_marks committed committed_number_first
  batch_beside s verdicts cs r =
      fold_beside items_in z.faults (committed_contrib z) (contrib_number_first z) (contrib_marks z) (contrib_faults z) contrib_beside
      cs [] (begun s verdicts) (begun s verdicts) (record { fit = refl; same = refl }) (omega (arith, r))
