-- A vote of a batch put among the committed votes, and its entry among theirs: they stay in step.
-- Assumes nothing.
use Prim.Native.Nat.{ℕ, ◌+◌, ◌≤◌, ◌<◌, max}
use mathlib.Core.Path.{◌≡◌, refl, sym, ap, ◌∙◌}
use mathlib.Core.List.{List, [], ◌∷◌, map}
use mathlib.Core.Bool.{Bool, true, false}
use native.Mathlib.Omega.{arith}
use lib.ListN.{length, length-map}
use Rattle.lists.specs.Lists.{insert, has_key, insert_within, takes_place}
use Rattle.lists.proofs.ListLaws.{cond_yes}
use Rattle.lists.proofs.SortedLaws.{map_has_key, within_taken, within_left}
use Rattle.pub_key_map.specs.declared.Node.{Node}
use Rattle.votes.specs.Votes.{SignedVoteOf}
use Rattle.signed_votes.specs.SignedVotes.{voter_of}
use Rattle.board.specs.declared.BoardRow.{BoardRow}
use Rattle.vote_counter.specs.VoteCounter.{obsolete, board_after}
use Rattle.commit.specs.declared.tally.Entry.{Entry}
use Rattle.commit.specs.Tally.{entry_voter, any_fresh, Fresh, Before, Tallied, none, kept, replaced, added}
use Rattle.commit.proofs.InsertLaws.{Order, less, same, more, order, insert_past, insert_over, insert_before}
use Rattle.commit.proofs.TallyLaws.{put_fresh, marked, other_voter, own_voter, not_before, lower, tallied_voters}

-- a vote before another is before those that the other is before
before_too : (v u : SignedVoteOf) (xs : List SignedVoteOf) → voter_of v ≤ voter_of u → Before u xs → Before v xs
before_too v u [] h b = tt
before_too v u (x ∷ xs) h b = omega arith

module _ (s : List ℕ) (era : ℕ) (ns : List Node) (v : SignedVoteOf) (a : Entry) (f : Fresh s era ns v a) where
  -- the three ways to go on at a vote and its entry
  module _ (x : SignedVoteOf) (e : Entry) (q : e.voter ≡ voter_of x) (vs : List SignedVoteOf) (es : List Entry) (low : ℕ) (xs : List SignedVoteOf) where
    past : voter_of x < voter_of v → Tallied s era ns low xs (x ∷ insert voter_of v vs) (e ∷ insert entry_voter a es)
        → Tallied s era ns low xs (insert voter_of v (x ∷ vs)) (insert entry_voter a (e ∷ es))
    past l t = rw (insert_past voter_of v x vs l, insert_past entry_voter a e es (omega (arith, f.numbers.by_voter))) t

    over : voter_of x ≡ voter_of v → Tallied s era ns low xs (v ∷ vs) (a ∷ es) → Tallied s era ns low xs (insert voter_of v (x ∷ vs)) (insert entry_voter a (e ∷ es))
    over l t = rw (insert_over voter_of v x vs l, insert_over entry_voter a e es (omega (arith, f.numbers.by_voter))) t

    ahead : voter_of v < voter_of x → Tallied s era ns low xs (v ∷ x ∷ vs) (a ∷ e ∷ es) → Tallied s era ns low xs (insert voter_of v (x ∷ vs)) (insert entry_voter a (e ∷ es))
    ahead l t = rw (insert_before voter_of v x vs l, insert_before entry_voter a e es (omega (arith, f.numbers.by_voter))) t

  insert_tallied : {low : ℕ} {xs vs : List SignedVoteOf} {es : List Entry} → Tallied s era ns low xs vs es → low ≤ voter_of v → obsolete vs v ≡ false
      → Tallied s era ns low xs (insert voter_of v vs) (insert entry_voter a es)
  unfolding insert
  insert_tallied {low} none h o = added {low = low} f h tt o none
  insert_tallied {low} (kept {v = x} {e = e} {xs = xs} {vs = vs} {es = es} m n t) h o = go (order (voter_of x) (voter_of v)) (insert_tallied t)
    where
      go : Order (voter_of x) (voter_of v)
          → (max low (voter_of x + 1) ≤ voter_of v → obsolete vs v ≡ false → Tallied s era ns (max low (voter_of x + 1)) xs (insert voter_of v vs) (insert entry_voter a es))
          → Tallied s era ns low (x ∷ xs) (insert voter_of v (x ∷ vs)) (insert entry_voter a (e ∷ es))
      go (less l) ih =
          past x e n.by_voter vs es low (x ∷ xs) l (kept m n (ih (omega arith) (sym (other_voter x v vs (λ q. omega arith)) ∙ o)))
      go (same l) ih =
          over x e n.by_voter vs es low (x ∷ xs) l
          (replaced {low = low} f h l (own_voter x v xs l ∙ sym (own_voter x v vs l) ∙ o) (lower s era ns (voter_of v + 1) (omega arith) t))
      go (more l) ih =
          ahead x e n.by_voter vs es low (x ∷ xs) l
          (added {low = low} f h l (not_before s era ns v (kept m n t) o) (kept m n (lower s era ns (max (voter_of v + 1) (voter_of x + 1)) (omega arith) t)))
  insert_tallied {low} (replaced {x = y} {v = x} {e = e} {xs = xs} {vs = vs} {es = es} g k q b t) h o = go (order (voter_of x) (voter_of v)) (insert_tallied t)
    where
      go : Order (voter_of x) (voter_of v)
          → (voter_of x + 1 ≤ voter_of v → obsolete vs v ≡ false → Tallied s era ns (voter_of x + 1) xs (insert voter_of v vs) (insert entry_voter a es))
          → Tallied s era ns low (y ∷ xs) (insert voter_of v (x ∷ vs)) (insert entry_voter a (e ∷ es))
      go (less l) ih =
          past x e g.numbers.by_voter vs es low (y ∷ xs) l
          (replaced {low = low} g k q b (ih (omega arith) (sym (other_voter x v vs (λ r. omega arith)) ∙ o)))
      go (same l) ih =
          over x e g.numbers.by_voter vs es low (y ∷ xs) l
          (replaced {low = low} f h (q ∙ l) (not_before s era ns v (replaced {low = low} g k q b t) o) (lower s era ns (voter_of v + 1) (omega arith) t))
      go (more l) ih =
          ahead x e g.numbers.by_voter vs es low (y ∷ xs) l
          (added {low = low} f h (omega arith) (not_before s era ns v (replaced {low = low} g k q b t) o) (replaced {low = voter_of v + 1} g (omega arith) q b t))
  insert_tallied {low} {xs} (added {v = x} {e = e} {vs = vs} {es = es} g k b w t) h o = go (order (voter_of x) (voter_of v)) (insert_tallied t)
    where
      go : Order (voter_of x) (voter_of v)
          → (voter_of x + 1 ≤ voter_of v → obsolete vs v ≡ false → Tallied s era ns (voter_of x + 1) xs (insert voter_of v vs) (insert entry_voter a es))
          → Tallied s era ns low xs (insert voter_of v (x ∷ vs)) (insert entry_voter a (e ∷ es))
      go (less l) ih =
          past x e g.numbers.by_voter vs es low xs l
          (added {low = low} g k b w (ih (omega arith) (sym (other_voter x v vs (λ r. omega arith)) ∙ o)))
      go (same l) ih =
          over x e g.numbers.by_voter vs es low xs l
          (added {low = low} f h (before_too v x xs (omega arith) b) (not_before s era ns v (added {low = low} g k b w t) o) (lower s era ns (voter_of v + 1) (omega arith) t))
      go (more l) ih =
          ahead x e g.numbers.by_voter vs es low xs l
          (added {low = low} f h (before_too v x xs (omega arith) b) (not_before s era ns v (added {low = low} g k b w t) o) (added {low = voter_of v + 1} g (omega arith) b w t))

  -- votes and entries have the same voters, so both have a place for the vote or both have none
  module _ {low : ℕ} {xs vs : List SignedVoteOf} {es : List Entry} (t : Tallied s era ns low xs vs es) where
    voters : map voter_of vs ≡ map entry_voter es
    voters = tallied_voters s era ns t

    long : length es ≡ length vs
    long = sym (length-map es entry_voter) ∙ sym (ap length voters) ∙ length-map vs voter_of

    has : has_key entry_voter a.voter es ≡ has_key voter_of (voter_of v) vs
    has =
        map_has_key entry_voter (λ k. k) a.voter es ∙ ap (has_key (λ k. k) a.voter) (sym voters) ∙ sym (map_has_key voter_of (λ k. k) a.voter vs)
        ∙ ap (λ (k : ℕ). has_key voter_of k vs) f.numbers.by_voter

    takes : (limit : ℕ) → takes_place entry_voter limit a.voter es ≡ takes_place voter_of limit (voter_of v) vs
    unfolding takes_place
    takes limit = rw (has, long)

  -- the same where there is room for a limit only
  pub within_tallied : {xs vs : List SignedVoteOf} {es : List Entry} (limit : ℕ) → Tallied s era ns 0 xs vs es → obsolete vs v ≡ false
      → Tallied s era ns 0 xs (insert_within voter_of limit v vs) (insert_within entry_voter limit a es)
  within_tallied {xs} {vs} {es} limit t o = go (takes_place voter_of limit (voter_of v) vs) refl
    where
      go : (b : Bool) → takes_place voter_of limit (voter_of v) vs ≡ b → Tallied s era ns 0 xs (insert_within voter_of limit v vs) (insert_within entry_voter limit a es)
      go true e = rw (within_taken voter_of limit v vs e, within_taken entry_voter limit a es (takes t limit ∙ e)) (insert_tallied t (omega arith) o)
      go false e = rw (within_left voter_of limit v vs e, within_left entry_voter limit a es (takes t limit ∙ e)) t

  -- the board behind the vote: worked out where it took a place, and then its entry is of this batch; else as it was
  pub put_board : {low : ℕ} {xs vs : List SignedVoteOf} {es : List Entry} (limit : ℕ) → Tallied s era ns low xs vs es → (now before : List BoardRow)
      → now ≡ board_after (any_fresh es) vs before
      → board_after (takes_place voter_of limit (voter_of v) vs) (insert_within voter_of limit v vs) now
      ≡ board_after (any_fresh (insert_within entry_voter limit a es)) (insert_within voter_of limit v vs) before
  put_board {low} {xs} {vs} {es} limit t now before h = go (takes_place voter_of limit (voter_of v) vs) refl
    where
      go : (b : Bool) → takes_place voter_of limit (voter_of v) vs ≡ b
          → board_after b (insert_within voter_of limit v vs) now ≡ board_after (any_fresh (insert_within entry_voter limit a es)) (insert_within voter_of limit v vs) before
      go true e = sym (cond_yes _ before (ap any_fresh (within_taken entry_voter limit a es (takes t limit ∙ e)) ∙ put_fresh a es (marked s era ns f)))
      go false e = rw (within_left voter_of limit v vs e, within_left entry_voter limit a es (takes t limit ∙ e)) h
