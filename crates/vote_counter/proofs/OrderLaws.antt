-- 02, CR 8, of the counter: committed votes that leave the same stored votes have the same winner, and in a counter as in CR 3 votes of different voters leave the same in any order.
-- Assumes nothing.
use Prim.Native.Nat.{ℕ, suc, ◌≤◌, ◌<◌}
use mathlib.Core.Path.{◌≡◌, refl, sym, ap, subst, ◌∙◌}
use mathlib.Core.List.{List, [], ◌∷◌, map}
use mathlib.Core.Bool.{Bool, true, false, cond}
use mathlib.Core.Logic.{◌⊎◌, inl, inr}
use native.Mathlib.Omega.{arith}
use lib.Dec.{ltb, eqb}
use lib.ListN.{length}
use borrow.Author.Tests.{ltb-true, ltb-false, lt-ltb, le-ltb, eqb-true, ne_eqb}
use Rattle.lists.specs.Lists.{map_found, insert, has_key, insert_within, takes_place}
use Rattle.lists.proofs.ListLaws.{false_true}
use Rattle.lists.proofs.SortedLaws.{within_taken, insert_other}
use Rattle.bincode.specs.Sizes.{Sizes}
use Rattle.pub_key_map.specs.declared.Node.{Node}
use Rattle.network_info.specs.NetworkInfo.{is_member}
use Rattle.votes.specs.Votes.{SignedVoteOf}
use Rattle.signed_votes.specs.SignedVotes.{voter_of}
use Rattle.signed_votes.proofs.VotesLaws.{insert_ascends, all_insert}
use Rattle.winner.specs.BoardTerms.{Unrepeated}
use Rattle.winner.specs.WinnerTerms.{Reordered, none, same, swap, then}
use Rattle.winner.proofs.OrderLaws.{order_map, order_unrepeated}
use Rattle.util.specs.MaxFaulty.{max_faulty}
use Rattle.change.specs.Change.{ChangeOf, same_change}
use Rattle.winner.specs.Winner.{winner, winner_place}
use Rattle.board.specs.Board.{cast_of, worked_out}
use Rattle.vote_counter.specs.VoteCounter.{CounterOf, new_counter, with_committed, obsolete, vote_effect, VoteEffect, stored, nothing_new, fault, committed_by, added_to, add_committed, compute_winner, winner_at, supporters_of, carried}
use Rattle.vote_counter.specs.Calls.{CounterCall, committed_call, after_calls}
use Rattle.vote_counter.proofs.MemberLaws.{few_keyed}
use Rattle.vote_counter.proofs.BoardKept.{Kept, new_kept, committed_kept, calls_kept, stored_member}

-- committed votes, one after the other
abbrev pub after_votes : Sizes → CounterOf → List SignedVoteOf → CounterOf
after_votes z c vs = after_calls z c (map committed_call vs)

module _ (z : Sizes) where
  -- they leave the map
  vote_nodes : (c : CounterOf) (v : SignedVoteOf) → (add_committed z c v).counter.nodes ≡ c.nodes
  unfolding add_committed
  vote_nodes c v = go (vote_effect c.era c.nodes c.committed v)
    where
      go : (e : VoteEffect) → (added_to c (committed_by z c.committed v e)).counter.nodes ≡ c.nodes
      go stored = refl
      go nothing_new = refl
      go (fault k) = refl

  votes_nodes : (c : CounterOf) (vs : List SignedVoteOf) → (after_votes z c vs).nodes ≡ c.nodes
  votes_nodes c [] = refl
  votes_nodes c (v ∷ vs) = votes_nodes (add_committed z c v).counter vs ∙ vote_nodes c v

  -- what is stored decides who wins, at which place it is told, and who is listed
  pub same_votes : (c : CounterOf) (vs ws : List SignedVoteOf) → (after_votes z c vs).committed ≡ (after_votes z c ws).committed
      → (compute_winner (after_votes z c vs) ≡ compute_winner (after_votes z c ws)) × (winner_at (after_votes z c vs) ≡ winner_at (after_votes z c ws))
      × (carried (after_votes z c vs) ≡ carried (after_votes z c ws))
  unfolding compute_winner winner_at carried
  same_votes c vs ws e = (
    λ i. winner same_change (max_faulty (length (map_of i))) (map cast_of (e i)),
    λ i. winner_place same_change (max_faulty (length (map_of i))) (map cast_of (e i)),
    λ i. map_found (λ (x : ChangeOf). record { change = x; voters = supporters_of (e i) x }) (winner same_change (max_faulty (length (map_of i))) (map cast_of (e i))),
  )
    where
      map_of : (after_votes z c vs).nodes ≡ (after_votes z c ws).nodes
      map_of = votes_nodes c vs ∙ sym (votes_nodes c ws)

-- two elements put in, one with a lower key than the other, in either order
module _ {A : Type 0} (key : A → ℕ) where
  insert_two : (a b : A) → key a < key b → (xs : List A) → insert key a (insert key b xs) ≡ insert key b (insert key a xs)
  unfolding insert
  insert_two a b h [] = rw (le-ltb (key b) (key a) (omega arith), ne_eqb (key b) (key a) (λ e. omega arith), lt-ltb (key a) (key b) h)
  insert_two a b h (x ∷ xs) = go (ltb (key x) (key a)) refl (eqb (key x) (key a)) refl (ltb (key x) (key b)) refl (eqb (key x) (key b)) refl (insert_two a b h xs)
    where
      go : (p : Bool) → ltb (key x) (key a) ≡ p → (q : Bool) → eqb (key x) (key a) ≡ q → (r : Bool) → ltb (key x) (key b) ≡ r → (s : Bool) → eqb (key x) (key b) ≡ s
          → insert key a (insert key b xs) ≡ insert key b (insert key a xs)
          → insert key a (cond r (x ∷ insert key b xs) (cond s (b ∷ xs) (b ∷ x ∷ xs))) ≡ insert key b (cond p (x ∷ insert key a xs) (cond q (a ∷ xs) (a ∷ x ∷ xs)))
      go true e q f true g s k ih = rw (e, g) (ap (λ (ys : List A). x ∷ ys) ih)
      go true e q f false g s k ih = absurd (let l = ltb-true (key x) (key a) e in let m = ltb-false (key x) (key b) g in let w : ⊥ = omega arith in w)
      go false e true f true g s k ih = rw (e, f, lt-ltb (key a) (key b) h)
      go false e true f false g s k ih = absurd (let l = eqb-true (key x) (key a) f in let m = ltb-false (key x) (key b) g in let w : ⊥ = omega arith in w)
      go false e false f true g s k ih = rw (e, f, lt-ltb (key a) (key b) h, g)
      go false e false f false g true k ih = rw (le-ltb (key b) (key a) (omega arith), ne_eqb (key b) (key a) (λ n. omega arith), lt-ltb (key a) (key b) h, g, k)
      go false e false f false g false k ih = rw (le-ltb (key b) (key a) (omega arith), ne_eqb (key b) (key a) (λ n. omega arith), lt-ltb (key a) (key b) h, g, k)

  insert_either : (a b : A) → (key a ≡ key b → ⊥) → (xs : List A) → insert key a (insert key b xs) ≡ insert key b (insert key a xs)
  insert_either a b n xs = go (ltb (key a) (key b)) refl
    where
      go : (p : Bool) → ltb (key a) (key b) ≡ p → insert key a (insert key b xs) ≡ insert key b (insert key a xs)
      go true e = insert_two a b (ltb-true (key a) (key b) e) xs
      go false e = let l = ltb-false (key a) (key b) e in sym (insert_two b a (omega (arith, n)) xs)

  -- a new key makes the list longer
  insert_longer : (a : A) (xs : List A) → has_key key (key a) xs ≡ false → length (insert key a xs) ≡ suc (length xs)
  unfolding insert has_key
  insert_longer a [] e = refl
  insert_longer a (x ∷ xs) e = go (ltb (key x) (key a)) (eqb (key x) (key a)) e (insert_longer a xs)
    where
      go : (p q : Bool) → cond p (has_key key (key a) xs) q ≡ false → (has_key key (key a) xs ≡ false → length (insert key a xs) ≡ suc (length xs))
          → length (cond p (x ∷ insert key a xs) (cond q (a ∷ xs) (a ∷ x ∷ xs))) ≡ suc (suc (length xs))
      go true q e ih = ap suc (ih e)
      go false true e ih = absurd (false_true (sym e))
      go false false e ih = refl

-- in a counter as in CR 3, whose map has no more nodes than there are places
module _ (z : Sizes) where
  abbrev Room : CounterOf → Type 0
  Room c = length c.nodes ≤ z.nodes

  -- a member's vote has a place
  has_room : (c : CounterOf) → Kept c → Room c → (v : SignedVoteOf) → is_member c.nodes (voter_of v) ≡ true → insert_within voter_of z.nodes v c.committed ≡ insert voter_of v c.committed
  unfolding takes_place
  has_room c k r v m = go (has_key voter_of (voter_of v) c.committed) refl (ltb (length c.committed) z.nodes) refl
    where
      few : length (insert voter_of v c.committed) ≤ length c.nodes
      few =
          few_keyed c.nodes voter_of 0 (insert voter_of v c.committed) (insert_ascends voter_of v c.committed k.ascend)
          (all_insert (λ (x : SignedVoteOf). is_member c.nodes (voter_of x) ≡ true) voter_of v m c.committed k.members)

      go : (p : Bool) → has_key voter_of (voter_of v) c.committed ≡ p → (q : Bool) → ltb (length c.committed) z.nodes ≡ q → insert_within voter_of z.nodes v c.committed ≡ insert voter_of v c.committed
      go true e q f = within_taken voter_of z.nodes v c.committed (rw e)
      go false e true f = within_taken voter_of z.nodes v c.committed (rw (e, f))
      go false e false f =
          absurd (let l = ltb-false (length c.committed) z.nodes f in let n = insert_longer voter_of v c.committed e in let w : ⊥ = omega (arith, few, r) in w)

  -- another voter's vote does not change what a vote does
  same_effect : (c : CounterOf) (v w : SignedVoteOf) → (voter_of v ≡ voter_of w → ⊥) → (vs : List SignedVoteOf) → vs ≡ insert voter_of v c.committed
      → vote_effect c.era c.nodes vs w ≡ vote_effect c.era c.nodes c.committed w
  unfolding vote_effect obsolete
  same_effect c v w n vs e = rw (e, insert_other voter_of v c.committed (voter_of w) n)

  -- a counter with these votes, and the board worked out from them
  abbrev holding : CounterOf → List SignedVoteOf → CounterOf
  holding c vs = with_committed c vs (worked_out vs)

  module _ (c : CounterOf) where
    -- what a vote leaves of the votes
    abbrev left : List SignedVoteOf → SignedVoteOf → List SignedVoteOf
    left vs v = (committed_by z vs v (vote_effect c.era c.nodes vs v)).votes

    vote_holds : (v : SignedVoteOf) → Kept c → (add_committed z c v).counter ≡ holding c (left c.committed v)
    unfolding add_committed
    vote_holds v k = go (vote_effect c.era c.nodes c.committed v) (committed_kept z c k v).by_board
      where
        go : (e : VoteEffect) → (added_to c (committed_by z c.committed v e)).counter.board ≡ worked_out (added_to c (committed_by z c.committed v e)).counter.committed
            → (added_to c (committed_by z c.committed v e)).counter ≡ holding c (committed_by z c.committed v e).votes
        go e b = λ i. with_committed c (committed_by z c.committed v e).votes (b i)

    -- it is put in, or the votes stay as they are
    left_is : (v : SignedVoteOf) → Kept c → Room c
        → ((vote_effect c.era c.nodes c.committed v ≡ stored) × (left c.committed v ≡ insert voter_of v c.committed))
        ⊎ ((vs : List SignedVoteOf) → vote_effect c.era c.nodes vs v ≡ vote_effect c.era c.nodes c.committed v → left vs v ≡ vs)
    left_is v k r = go (vote_effect c.era c.nodes c.committed v) refl
      where
        go : (e : VoteEffect) → vote_effect c.era c.nodes c.committed v ≡ e
            → ((e ≡ stored) × ((committed_by z c.committed v e).votes ≡ insert voter_of v c.committed)) ⊎ ((vs : List SignedVoteOf) → vote_effect c.era c.nodes vs v ≡ e → left vs v ≡ vs)
        go stored e = inl (refl, has_room c k r v (stored_member z c v e))
        go nothing_new e = inr (λ vs f. ap (λ (x : VoteEffect). (committed_by z vs v x).votes) f)
        go (fault j) e = inr (λ vs f. ap (λ (x : VoteEffect). (committed_by z vs v x).votes) f)

  -- two votes of different voters
  module _ (c : CounterOf) (k : Kept c) (r : Room c) (v w : SignedVoteOf) (n : voter_of v ≡ voter_of w → ⊥) where
    after_one : (u : SignedVoteOf) → Kept (holding c (left c c.committed u))
    after_one u = subst Kept (vote_holds c u k) (committed_kept z c k u)

    both_left : left c (left c c.committed v) w ≡ left c (left c c.committed w) v
    both_left = go (left_is c v k r) (left_is c w k r)
      where
        -- the other's vote still does what it did
        beside : (a b : SignedVoteOf) → (voter_of a ≡ voter_of b → ⊥) → left c c.committed a ≡ insert voter_of a c.committed → vote_effect c.era c.nodes (left c c.committed a) b ≡ vote_effect c.era c.nodes c.committed b
        beside a b m e = same_effect c a b m (left c c.committed a) e

        second : (a b : SignedVoteOf) → (voter_of a ≡ voter_of b → ⊥) → left c c.committed a ≡ insert voter_of a c.committed → vote_effect c.era c.nodes c.committed b ≡ stored
            → left c (left c c.committed a) b ≡ insert voter_of b (insert voter_of a c.committed)
        second a b m e f =
            ap (λ (x : VoteEffect). (committed_by z (left c c.committed a) b x).votes) (beside a b m e ∙ f)
            ∙ has_room (holding c (left c c.committed a)) (after_one a) r b (stored_member z c b f) ∙ ap (insert voter_of b) e

        go : ((vote_effect c.era c.nodes c.committed v ≡ stored) × (left c c.committed v ≡ insert voter_of v c.committed))
            ⊎ ((vs : List SignedVoteOf) → vote_effect c.era c.nodes vs v ≡ vote_effect c.era c.nodes c.committed v → left c vs v ≡ vs)
            → ((vote_effect c.era c.nodes c.committed w ≡ stored) × (left c c.committed w ≡ insert voter_of w c.committed))
            ⊎ ((vs : List SignedVoteOf) → vote_effect c.era c.nodes vs w ≡ vote_effect c.era c.nodes c.committed w → left c vs w ≡ vs)
            → left c (left c c.committed v) w ≡ left c (left c c.committed w) v
        go (inl a) (inl b) = second v w n a.1 b.0 ∙ insert_either voter_of w v (λ e. n (sym e)) c.committed ∙ sym (second w v (λ e. n (sym e)) b.1 a.0)
        go (inl a) (inr b) = b (left c c.committed v) (beside v w n a.1) ∙ ap (λ (vs : List SignedVoteOf). left c vs v) (sym (b c.committed refl))
        go (inr a) (inl b) = ap (λ (vs : List SignedVoteOf). left c vs w) (a c.committed refl) ∙ sym (a (left c c.committed w) (beside w v (λ e. n (sym e)) b.1))
        go (inr a) (inr b) =
            ap (λ (vs : List SignedVoteOf). left c vs w) (a c.committed refl) ∙ b c.committed refl ∙ sym (ap (λ (vs : List SignedVoteOf). left c vs v) (b c.committed refl) ∙ a c.committed refl)

    -- in either order they leave the same counter
    pub either_order : (add_committed z (add_committed z c v).counter w).counter ≡ (add_committed z (add_committed z c w).counter v).counter
    either_order = one v w ∙ ap (holding c) both_left ∙ sym (one w v)
      where
        one : (a b : SignedVoteOf) → (add_committed z (add_committed z c a).counter b).counter ≡ holding c (left c (left c c.committed a) b)
        one a b =
            ap (λ (d : CounterOf). (add_committed z d b).counter) (vote_holds c a k)
            ∙ vote_holds (holding c (left c c.committed a)) b (after_one a)

  -- and so do many, in any order
  pub any_order : (c : CounterOf) → Kept c → Room c → {vs ws : List SignedVoteOf} → Reordered vs ws → Unrepeated (map voter_of vs) → after_votes z c vs ≡ after_votes z c ws
  any_order c k r none u = refl
  any_order c k r (same v q) u = any_order (add_committed z c v).counter (committed_kept z c k v) (omega (arith, r, ap length (vote_nodes z c v))) q u.1
  any_order c k r (swap v w vs) u = ap (λ (d : CounterOf). after_votes z d vs) (either_order c k r v w (λ e. u.0 (inl e)))
  any_order c k r (then q p) u = any_order c k r q u ∙ any_order c k r p (order_unrepeated (order_map voter_of q) u)

-- for every id, key, map and era, and every list of calls behind which the map has no more nodes than there are places
pub order_after : (z : Sizes) (id key : ℕ) (ns : List Node) (era : ℕ) (xs : List CounterCall) → length (after_calls z (new_counter id key ns era) xs).nodes ≤ z.nodes
    → {vs ws : List SignedVoteOf} → Reordered vs ws → Unrepeated (map voter_of vs)
    → after_votes z (after_calls z (new_counter id key ns era) xs) vs ≡ after_votes z (after_calls z (new_counter id key ns era) xs) ws
order_after z id key ns era xs r q u = any_order z _ (calls_kept z (new_counter id key ns era) xs (new_kept id key ns era)) r q u
