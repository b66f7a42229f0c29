-- Entries that stand for the committed votes: at the start of a batch, what they say of a vote, and one more put in.
-- Assumes nothing.
use Prim.Native.Nat.{ℕ, ◌+◌, ◌≤◌, ◌<◌, max}
use mathlib.Core.Path.{◌≡◌, refl, sym, ap, ◌∙◌}
use mathlib.Core.List.{List, [], ◌∷◌, map}
use mathlib.Core.Bool.{Bool, true, false, cond}
use native.Mathlib.Omega.{arith}
use lib.Dec.{leb, ltb, eqb}
use lib.ListN.{length}
use borrow.Author.Tests.{lt-leb, leb-false, eq-eqb, ne_eqb}
use Rattle.lists.specs.Lists.{Found, found, nothing, map_found, lookup, insert}
use Rattle.lists.proofs.ListLaws.{false_true, cond_yes, cond_no}
use Rattle.pub_key_map.specs.declared.Node.{Node}
use Rattle.votes.specs.Votes.{SignedVoteOf}
use Rattle.signed_votes.specs.SignedVotes.{voter_of, num_of}
use Rattle.vote_counter.specs.VoteCounter.{at_or_below, obsolete}
use Rattle.commit.specs.declared.tally.Entry.{Entry}
use Rattle.commit.specs.Tally.{entry_voter, entry_num, kept_entry, outdated, is_placed, is_fresh, any_fresh, Numbered, Fresh, Tallied, none, kept, replaced, added}
use Rattle.commit.proofs.InsertLaws.{Order, less, same, more, order}

-- the first of some votes is another voter's: those behind it decide
pub other_voter : (x v : SignedVoteOf) (xs : List SignedVoteOf) → (voter_of x ≡ voter_of v → ⊥) → obsolete (x ∷ xs) v ≡ obsolete xs v
unfolding obsolete lookup
other_voter x v xs n = rw (ne_eqb (voter_of x) (voter_of v) n)

-- it is the vote's own voter's: its number decides
pub own_voter : (x v : SignedVoteOf) (xs : List SignedVoteOf) → voter_of x ≡ voter_of v → obsolete (x ∷ xs) v ≡ leb (num_of v) (num_of x)
unfolding obsolete lookup
own_voter x v xs e = rw (eq-eqb (voter_of x) (voter_of v) e)

-- a vote of the same voter with a greater number is not obsolete either
newer_still : (u v : SignedVoteOf) (xs : List SignedVoteOf) → voter_of v ≡ voter_of u → num_of v < num_of u → obsolete xs v ≡ false → obsolete xs u ≡ false
unfolding obsolete
newer_still u v xs e l h = go (lookup voter_of xs (voter_of u)) (rw e at h)
  where
    go : (x : Found SignedVoteOf) → at_or_below (num_of v) (map_found num_of x) ≡ false → at_or_below (num_of u) (map_found num_of x) ≡ false
    go (found x) k = lt-leb (num_of u) (num_of x) (omega (arith, leb-false (num_of v) (num_of x) k))
    go nothing k = refl

-- none of the entries before a batch is of it
pub none_fresh : (vs : List SignedVoteOf) → any_fresh (map kept_entry vs) ≡ false
unfolding any_fresh
none_fresh [] = refl
none_fresh (v ∷ vs) = none_fresh vs

-- one that is put in is
pub put_fresh : (a : Entry) (es : List Entry) → is_fresh a ≡ true → any_fresh (insert entry_voter a es) ≡ true
unfolding any_fresh insert
put_fresh a [] f = cond_yes true false f
put_fresh a (e ∷ es) f = go (ltb e.voter a.voter) (eqb e.voter a.voter) (put_fresh a es f)
  where
    past : (b : Bool) → any_fresh (insert entry_voter a es) ≡ true → cond b true (any_fresh (insert entry_voter a es)) ≡ true
    past true h = refl
    past false h = h

    go : (p q : Bool) → any_fresh (insert entry_voter a es) ≡ true → any_fresh (cond p (e ∷ insert entry_voter a es) (cond q (a ∷ es) (a ∷ e ∷ es))) ≡ true
    go true q h = past (is_fresh e) h
    go false true h = cond_yes true (any_fresh es) f
    go false false h = cond_yes true (any_fresh (e ∷ es)) f

module _ (s : List ℕ) (era : ℕ) (ns : List Node) where
  -- before the first vote of a batch all are kept
  pub tallied_start : (low : ℕ) (vs : List SignedVoteOf) → Tallied s era ns low vs vs (map kept_entry vs)
  tallied_start low [] = none
  tallied_start low (v ∷ vs) = kept refl (record { by_voter = refl; by_num = refl }) (tallied_start (max low (voter_of v + 1)) vs)

  -- an entry of this batch has a place
  pub marked : {v : SignedVoteOf} {e : Entry} → Fresh s era ns v e → is_fresh e ≡ true
  marked f = ap is_placed f.placed

  -- a lower bound does too
  pub lower : {low : ℕ} {xs vs : List SignedVoteOf} {es : List Entry} (k : ℕ) → k ≤ low → Tallied s era ns low xs vs es → Tallied s era ns k xs vs es
  lower k h none = none
  lower k h (kept {v} f n t) = kept f n (lower (max k (voter_of v + 1)) (omega arith) t)
  lower k h (replaced f l q o t) = replaced {low = k} f (omega arith) q o t
  lower k h (added f l b o t) = added {low = k} f (omega arith) b o t

  -- there are as many entries as votes, and no fewer than before the batch
  pub tallied_voters : {low : ℕ} {xs vs : List SignedVoteOf} {es : List Entry} → Tallied s era ns low xs vs es → map voter_of vs ≡ map entry_voter es
  tallied_voters none = refl
  tallied_voters (kept f n t) = (λ j. sym n.by_voter j ∷ tallied_voters t j)
  tallied_voters (replaced f l q o t) = (λ j. sym f.numbers.by_voter j ∷ tallied_voters t j)
  tallied_voters (added f l b o t) = (λ j. sym f.numbers.by_voter j ∷ tallied_voters t j)

  -- where no entry is of this batch the votes are those before it
  pub tallied_same : {low : ℕ} {xs vs : List SignedVoteOf} {es : List Entry} → Tallied s era ns low xs vs es → any_fresh es ≡ false → xs ≡ vs
  unfolding any_fresh
  tallied_same none h = refl
  tallied_same (kept {v} {e} {xs} {vs} {es} f n t) h = ap (λ (us : List SignedVoteOf). v ∷ us) (tallied_same t (sym (cond_no true (any_fresh es) (ap is_placed f)) ∙ h))
  tallied_same (replaced {x} {v} {e} {xs} {vs} {es} f l q o t) h = absurd (false_true (sym h ∙ cond_yes true (any_fresh es) (marked f)))
  tallied_same {xs} (added {v} {e} {vs} {es} f l b o t) h = absurd (false_true (sym h ∙ cond_yes true (any_fresh es) (marked f)))

  pub tallied_length : {low : ℕ} {xs vs : List SignedVoteOf} {es : List Entry} → Tallied s era ns low xs vs es → length xs ≤ length es
  tallied_length none = omega arith
  tallied_length (kept f n t) = let h = tallied_length t in omega arith
  tallied_length (replaced f l q o t) = let h = tallied_length t in omega arith
  tallied_length (added f l b o t) = let h = tallied_length t in omega arith

-- the number found among the entries is the one found among the votes
numbers_more : (v : SignedVoteOf) (e : Entry) (vs : List SignedVoteOf) (es : List Entry) (k : ℕ) → Numbered v e
    → map_found entry_num (lookup entry_voter es k) ≡ map_found num_of (lookup voter_of vs k)
    → map_found entry_num (lookup entry_voter (e ∷ es) k) ≡ map_found num_of (lookup voter_of (v ∷ vs) k)
unfolding lookup
numbers_more v e vs es k n h = ap (λ (m : ℕ). map_found entry_num (cond (eqb m k) (found e) (lookup entry_voter es k))) n.by_voter ∙ go (eqb (voter_of v) k)
  where
    go : (b : Bool) → map_found entry_num (cond b (found e) (lookup entry_voter es k)) ≡ map_found num_of (cond b (found v) (lookup voter_of vs k))
    go true = ap found n.by_num
    go false = h

module _ (s : List ℕ) (era : ℕ) (ns : List Node) where
  same_numbers : {low : ℕ} {xs vs : List SignedVoteOf} {es : List Entry} (k : ℕ) → Tallied s era ns low xs vs es
      → map_found entry_num (lookup entry_voter es k) ≡ map_found num_of (lookup voter_of vs k)
  unfolding lookup
  same_numbers k none = refl
  same_numbers k (kept {v} {e} {xs} {vs} {es} f n t) = numbers_more v e vs es k n (same_numbers k t)
  same_numbers k (replaced {x} {v} {e} {xs} {vs} {es} f l q o t) = numbers_more v e vs es k f.numbers (same_numbers k t)
  same_numbers k (added {v} {e} {xs} {vs} {es} f l b o t) = numbers_more v e vs es k f.numbers (same_numbers k t)

  -- the test on entries is the test on votes
  pub outdated_is : {low : ℕ} {xs vs : List SignedVoteOf} {es : List Entry} (v : SignedVoteOf) → Tallied s era ns low xs vs es → outdated es (voter_of v) (num_of v) ≡ obsolete vs v
  unfolding outdated obsolete
  outdated_is v t = ap (at_or_below (num_of v)) (same_numbers (voter_of v) t)

  -- a vote that is not obsolete now was not so before the batch
  pub not_before : {low : ℕ} {xs vs : List SignedVoteOf} {es : List Entry} (u : SignedVoteOf) → Tallied s era ns low xs vs es → obsolete vs u ≡ false → obsolete xs u ≡ false
  not_before u none h = h
  not_before u (kept {v} {e} {xs} {vs} {es} f n t) h = go (order (voter_of v) (voter_of u)) (not_before u t)
    where
      go : Order (voter_of v) (voter_of u) → (obsolete vs u ≡ false → obsolete xs u ≡ false) → obsolete (v ∷ xs) u ≡ false
      go (less l) ih = other_voter v u xs (λ q. omega arith) ∙ ih (sym (other_voter v u vs (λ q. omega arith)) ∙ h)
      go (same q) ih = own_voter v u xs q ∙ sym (own_voter v u vs q) ∙ h
      go (more l) ih = other_voter v u xs (λ q. omega arith) ∙ ih (sym (other_voter v u vs (λ q. omega arith)) ∙ h)
  not_before u (replaced {x} {v} {e} {xs} {vs} {es} f l q o t) h = go (order (voter_of v) (voter_of u)) (not_before u t)
    where
      go : Order (voter_of v) (voter_of u) → (obsolete vs u ≡ false → obsolete xs u ≡ false) → obsolete (x ∷ xs) u ≡ false
      go (less k) ih = other_voter x u xs (λ r. omega arith) ∙ ih (sym (other_voter v u vs (λ r. omega arith)) ∙ h)
      go (same k) ih = newer_still u v (x ∷ xs) k (omega (arith, leb-false (num_of u) (num_of v) (sym (own_voter v u vs k) ∙ h))) o
      go (more k) ih = other_voter x u xs (λ r. omega arith) ∙ ih (sym (other_voter v u vs (λ r. omega arith)) ∙ h)
  not_before u (added {v} {e} {xs} {vs} {es} f l b o t) h = go (order (voter_of v) (voter_of u)) (not_before u t)
    where
      go : Order (voter_of v) (voter_of u) → (obsolete vs u ≡ false → obsolete xs u ≡ false) → obsolete xs u ≡ false
      go (less k) ih = ih (sym (other_voter v u vs (λ r. omega arith)) ∙ h)
      go (same k) ih = newer_still u v xs k (omega (arith, leb-false (num_of u) (num_of v) (sym (own_voter v u vs k) ∙ h))) o
      go (more k) ih = ih (sym (other_voter v u vs (λ r. omega arith)) ∙ h)
