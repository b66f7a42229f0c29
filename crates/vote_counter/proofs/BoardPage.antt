-- Single sentences of document 02's request on the board, said of one committed vote.
-- Assumes nothing.
use Prim.Native.Nat.{ℕ, ◌+◌, ◌≤◌, ◌<◌}
use mathlib.Core.Path.{◌≡◌, refl, sym, ap, ◌∙◌}
use mathlib.Core.List.{List, [], ◌∷◌, map}
use mathlib.Core.Bool.{Bool, true, false, cond}
use mathlib.Core.Logic.{◌⊎◌, ⊎_elim}
use native.Mathlib.Omega.{arith}
use lib.Dec.{ltb, eqb}
use lib.ListN.{length}
use borrow.Author.Tests.{lt-ltb, le-ltb, eqb-true}
use Rattle.lists.specs.Lists.{found, map_found, lookup, has_key, insert, insert_within, takes_place}
use Rattle.lists.proofs.ListLaws.{cond_yes, cond_no}
use Rattle.lists.proofs.SortedLaws.{within_taken, within_left, map_insert, map_lookup}
use Rattle.bincode.specs.Sizes.{Sizes}
use Rattle.change.specs.Change.{ChangeOf, same_change}
use Rattle.votes.specs.Votes.{SignedVoteOf}
use Rattle.signed_votes.specs.SignedVotes.{voter_of}
use Rattle.signed_votes.proofs.VotesLaws.{AscendsFrom}
use Rattle.winner.specs.Support.{Cast}
use Rattle.winner.specs.Board.{board}
use Rattle.board.specs.Board.{cast_of, kept_row, worked_out}
use Rattle.vote_counter.specs.VoteCounter.{CounterOf, with_committed, VoteEffect, stored, nothing_new, fault, vote_effect, committed_by, added_to, add_committed}
use Rattle.vote_counter.proofs.BoardKept.{Kept, committed_kept}

-- where a vote takes a place the board is the one of the votes then, whatever it was before
module _ (z : Sizes) (c : CounterOf) (v : SignedVoteOf) (good : vote_effect c.era c.nodes c.committed v ≡ stored) where
  -- the voter has a vote there, or there is room
  pub place_worked : (has_key voter_of (voter_of v) c.committed ≡ true) ⊎ (length c.committed < z.nodes)
      → (add_committed z c v).counter.board ≡ worked_out (add_committed z c v).counter.committed
  unfolding add_committed takes_place
  place_worked h = rw good (cond_yes _ _ (⊎_elim (λ k. cond_yes true _ k) (λ l. go (has_key voter_of (voter_of v) c.committed) (lt-ltb (length c.committed) z.nodes l)) h))
    where
      go : (p : Bool) {q : Bool} → q ≡ true → cond p true q ≡ true
      go true e = refl
      go false e = e

  -- neither: nothing changes, and the board stays as it is, right or wrong
  pub no_place_stays : has_key voter_of (voter_of v) c.committed ≡ false → z.nodes ≤ length c.committed → (add_committed z c v).counter ≡ c
  unfolding add_committed takes_place
  no_place_stays k l =
      let t : takes_place voter_of z.nodes (voter_of v) c.committed ≡ false = none k l in
      rw good (λ i. with_committed c (within_left voter_of z.nodes v c.committed t i) (cond_no (worked_out (insert_within voter_of z.nodes v c.committed)) c.board t i))
    where
      none : has_key voter_of (voter_of v) c.committed ≡ false → z.nodes ≤ length c.committed → takes_place voter_of z.nodes (voter_of v) c.committed ≡ false
      none k l = rw (k, le-ltb (length c.committed) z.nodes l)

-- a vote that is old or a fault leaves it
pub not_stored_stays : (z : Sizes) (c : CounterOf) (v : SignedVoteOf) → (vote_effect c.era c.nodes c.committed v ≡ stored → ⊥) → (add_committed z c v).counter ≡ c
unfolding add_committed
not_stored_stays z c v = go (vote_effect c.era c.nodes c.committed v)
  where
    go : (e : VoteEffect) → (e ≡ stored → ⊥) → (added_to c (committed_by z c.committed v e)).counter ≡ c
    go stored n = absurd (n refl)
    go nothing_new n = refl
    go (fault k) n = refl

-- an element that stands in a sorted list, put in again
module _ {A : Type 0} (key : A → ℕ) where
  found_above : (low : ℕ) (xs : List A) (k : ℕ) (a : A) → AscendsFrom key low xs → lookup key xs k ≡ found a → low ≤ k
  unfolding lookup
  found_above low [] k a s e = absurd (let o : ◌≡◌ {A = ℕ} 0 1 = cc in let y : ⊥ = omega arith in y)
  found_above low (x ∷ xs) k a s e = go (eqb (key x) k) refl e (found_above (key x + 1) xs k a s.1)
    where
      go : (b : Bool) → eqb (key x) k ≡ b → cond b (found x) (lookup key xs k) ≡ found a → (lookup key xs k ≡ found a → key x + 1 ≤ k) → low ≤ k
      go true q f ih = omega (arith, s.0, eqb-true (key x) k q)
      go false q f ih = omega (arith, s.0, ih f)

  put_again : (low : ℕ) (xs : List A) (a : A) → AscendsFrom key low xs → lookup key xs (key a) ≡ found a → insert key a xs ≡ xs
  unfolding lookup insert
  put_again low [] a s e = absurd (let o : ◌≡◌ {A = ℕ} 0 1 = cc in let y : ⊥ = omega arith in y)
  put_again low (x ∷ xs) a s e = go (eqb (key x) (key a)) refl e (put_again (key x + 1) xs a s.1)
    where
      go : (b : Bool) → eqb (key x) (key a) ≡ b → cond b (found x) (lookup key xs (key a)) ≡ found a → (lookup key xs (key a) ≡ found a → insert key a xs ≡ xs)
          → cond (ltb (key x) (key a)) (x ∷ insert key a xs) (cond (eqb (key x) (key a)) (a ∷ xs) (a ∷ x ∷ xs)) ≡ x ∷ xs
      go true q f ih =
          let same : x ≡ a = cc in
          rw (le-ltb (key x) (key a) (omega (arith, eqb-true (key x) (key a) q)), q) (ap (λ (y : A). y ∷ xs) (sym same))
      go false q f ih =
          let h : key x < key a = omega (arith, found_above (key x + 1) xs (key a) a s.1 f) in
          rw (lt-ltb (key x) (key a) h) (ap (λ (ys : List A). x ∷ ys) (ih f))

-- what ascends ascends as casts
casts_ascend : (low : ℕ) (vs : List SignedVoteOf) → AscendsFrom voter_of low vs → AscendsFrom (λ (v : Cast ChangeOf). v.voter) low (map cast_of vs)
casts_ascend low [] s = tt
casts_ascend low (v ∷ vs) s = (s.0, casts_ascend (voter_of v + 1) vs s.1)

-- "a higher number for the same change leaves it as it was": worked out anew, it is the same
module _ (z : Sizes) (c : CounterOf) (k : Kept c) (v old : SignedVoteOf) (has : lookup voter_of c.committed (voter_of v) ≡ found old) (same : old.vote.change ≡ v.vote.change) where
  stands : lookup (λ (x : Cast ChangeOf). x.voter) (map cast_of c.committed) (voter_of v) ≡ found (cast_of v)
  unfolding lookup
  stands =
      sym (map_lookup cast_of (λ (x : Cast ChangeOf). x.voter) c.committed (voter_of v)) ∙ ap (map_found cast_of) has ∙ ap found (λ i. record { voter = voter i; choice = same i })
    where
      key_of : (vs : List SignedVoteOf) → lookup voter_of vs (voter_of v) ≡ found old → voter_of old ≡ voter_of v
      key_of [] e = absurd (let o : ◌≡◌ {A = ℕ} 0 1 = cc in let y : ⊥ = omega arith in y)
      key_of (x ∷ vs) e = go (eqb (voter_of x) (voter_of v)) refl e (key_of vs)
        where
          go : (b : Bool) → eqb (voter_of x) (voter_of v) ≡ b → cond b (found x) (lookup voter_of vs (voter_of v)) ≡ found old
              → (lookup voter_of vs (voter_of v) ≡ found old → voter_of old ≡ voter_of v) → voter_of old ≡ voter_of v
          go true q f ih = let w : x ≡ old = cc in ap voter_of (sym w) ∙ eqb-true (voter_of x) (voter_of v) q
          go false q f ih = ih f

      voter : voter_of old ≡ voter_of v
      voter = key_of c.committed has

  same_casts : map cast_of (insert_within voter_of z.nodes v c.committed) ≡ map cast_of c.committed
  same_casts = go (takes_place voter_of z.nodes (voter_of v) c.committed) refl
    where
      go : (b : Bool) → takes_place voter_of z.nodes (voter_of v) c.committed ≡ b → map cast_of (insert_within voter_of z.nodes v c.committed) ≡ map cast_of c.committed
      go true t =
          ap (map cast_of) (within_taken voter_of z.nodes v c.committed t) ∙ map_insert cast_of (λ (x : Cast ChangeOf). x.voter) v c.committed
          ∙ put_again (λ (x : Cast ChangeOf). x.voter) 0 (map cast_of c.committed) (cast_of v) (casts_ascend 0 c.committed k.ascend) stands
      go false t = ap (map cast_of) (within_left voter_of z.nodes v c.committed t)

  pub same_change_stays : (add_committed z c v).counter.board ≡ c.board
  unfolding worked_out add_committed
  same_change_stays = (committed_kept z c k v).by_board ∙ ap (λ (xs : List (Cast ChangeOf)). map kept_row (board same_change xs)) casts ∙ sym k.by_board
    where
      left : (e : VoteEffect) → map cast_of (added_to c (committed_by z c.committed v e)).counter.committed ≡ map cast_of c.committed
      left stored = same_casts
      left nothing_new = refl
      left (fault f) = refl

      casts : map cast_of (add_committed z c v).counter.committed ≡ map cast_of c.committed
      casts = left (vote_effect c.era c.nodes c.committed v)
