-- The votes that stayed give what all votes give: put into the counter behind the loop, in order, they make the committed votes that the loop's definition has.
-- Assumes nothing.
use Prim.Native.Nat.{ℕ, ◌+◌, ◌≤◌, ◌<◌}
use mathlib.Core.Path.{◌≡◌, refl, sym, ap, ◌∙◌}
use mathlib.Core.List.{List, [], ◌∷◌, ◌++◌, append_assoc}
use mathlib.Core.Bool.{Bool, true, false, cond}
use native.Mathlib.Omega.{arith}
use lib.ListN.{length, length-append}
use borrow.Author.Tests.{lt-ltb, le-ltb, eq-eqb, ne_eqb}
use Rattle.lists.specs.Lists.{insert, has_key, insert_within, takes_place}
use Rattle.lists.proofs.ListLaws.{false_true, cond_yes, cond_no}
use Rattle.std.specs.declared.option.Option.{Option}
use Rattle.std.specs.declared.option.Option.TheVariants.{Some, None}
use Rattle.lists.proofs.SortedLaws.{within_same, within_new}
use Rattle.bincode.specs.Items.{foldl}
use Rattle.bincode.specs.Sizes.{Sizes, base}
use Rattle.network_info.specs.NetworkInfo.{key_of}
use Rattle.votes.specs.Votes.{SignedVoteOf}
use Rattle.signed_votes.specs.SignedVotes.{voter_of}
use Rattle.vote_counter.specs.VoteCounter.{CounterOf, with_committed, obsolete, is_key, valid_vote, vote_effect, stored, Added, board_after, after_committed, add_committed}
use Rattle.board.specs.declared.BoardRow.{BoardRow}
use Rattle.board.specs.Board.{worked_out}
use Rattle.steps.specs.Steps.{WorkOf}
use Rattle.commit.specs.declared.tally.Entry.{Entry}
use Rattle.commit.specs.declared.tally.Tally.{Tally}
use Rattle.commit.specs.Tally.{entries_of, is_placed, is_fresh, any_fresh, begun_with, Fresh, Before, Tallied, none, kept, replaced, added, VotesHeld}
use Rattle.commit.specs.Put.{put_read, put_placed, put_in}
use Rattle.commit.proofs.InsertLaws.{insert_over, insert_before, top, top_more, insert_behind, key_behind, lookup_behind}
use Rattle.commit.proofs.TallyLaws.{tallied_length, tallied_same, marked}

-- an entry that is not of this batch
pub put_none : (z : Sizes) (s : List ℕ) (c : CounterOf) (e : Entry) → e.place ≡ None → put_in z s c e ≡ c
unfolding put_in
put_none z s c e f = rw f

-- where none is of this batch the counter stays
pub put_nothing : (z : Sizes) (s : List ℕ) (c : CounterOf) (es : List Entry) → any_fresh es ≡ false → foldl (put_in z s) c es ≡ c
unfolding any_fresh
put_nothing z s c [] h = refl
put_nothing z s c (e ∷ es) h = go e.place refl h (put_nothing z s c es)
  where
    go : (o : Option ℕ) → e.place ≡ o → cond (is_placed o) true (any_fresh es) ≡ false → (any_fresh es ≡ false → foldl (put_in z s) c es ≡ c) → foldl (put_in z s) (put_in z s c e) es ≡ c
    go (Some place) f h ih = absurd (false_true (sym h))
    go None f h ih = ap (λ (d : CounterOf). foldl (put_in z s) d es) (put_none z s c e f) ∙ ih h

-- a vote that is not obsolete, of the era and signed, is stored
pub add_good : (z : Sizes) (c : CounterOf) (v : SignedVoteOf) → obsolete c.committed v ≡ false → v.vote.era ≡ c.era → is_key v.sig (key_of c.nodes (voter_of v)) ≡ true
    → add_committed z c v ≡ after_committed z c v stored
unfolding add_committed vote_effect valid_vote
add_good z c v o e k = rw (o, eq-eqb v.vote.era c.era e, k)

module _ (s : List ℕ) (c : CounterOf) where
  -- one of this batch, among votes against which it is not obsolete
  put_fresh : (v : SignedVoteOf) (e : Entry) (ys : List SignedVoteOf) (rs : List BoardRow) → Fresh s c.era c.nodes v e → obsolete ys v ≡ false
      → takes_place voter_of base.nodes (voter_of v) ys ≡ true
      → put_in base s (with_committed c ys rs) e ≡ with_committed c (insert_within voter_of base.nodes v ys) (worked_out (insert_within voter_of base.nodes v ys))
  unfolding put_in
  put_fresh v e ys rs f o t =
      let d = with_committed c ys rs in
      ap (put_placed base s d) f.placed
      ∙ ap (put_read base d) f.stands ∙ ap (λ (r : Added). r.counter) (add_good base d v o f.of_era f.signed)
      ∙ ap (with_committed c (insert_within voter_of base.nodes v ys)) (cond_yes (worked_out (insert_within voter_of base.nodes v ys)) rs t)

  -- the next vote, behind those passed: in place of its voter's, or before the next voter's
  module _ (v : SignedVoteOf) (p : List SignedVoteOf) (below : top voter_of p ≤ voter_of v) where
    put_over : (x : SignedVoteOf) (xs : List SignedVoteOf) → voter_of x ≡ voter_of v
        → (takes_place voter_of base.nodes (voter_of v) (p ++ (x ∷ xs)) ≡ true) × (insert_within voter_of base.nodes v (p ++ (x ∷ xs)) ≡ p ++ (v ∷ xs))
    unfolding has_key takes_place
    put_over x xs q =
        let k : has_key voter_of (voter_of v) (p ++ (x ∷ xs)) ≡ true = key_behind voter_of (voter_of v) p (x ∷ xs) below ∙ rw (le-ltb (voter_of x) (voter_of v) (omega arith)) (eq-eqb (voter_of x) (voter_of v) q) in (
          cond_yes true _ k,
          within_same voter_of base.nodes v (p ++ (x ∷ xs)) k ∙ insert_behind voter_of v p (x ∷ xs) below ∙ ap (λ (ys : List SignedVoteOf). p ++ ys) (insert_over voter_of v x xs q),
        )

    first_new : (xs : List SignedVoteOf) → Before v xs → (has_key voter_of (voter_of v) xs ≡ false) × (insert voter_of v xs ≡ v ∷ xs)
    unfolding has_key insert
    first_new [] b = (refl, refl)
    first_new (x ∷ xs) b =
        (rw (le-ltb (voter_of x) (voter_of v) (omega arith)) (ne_eqb (voter_of x) (voter_of v) (λ q. omega arith)), insert_before voter_of v x xs b)

    put_between : (xs : List SignedVoteOf) → Before v xs → length (p ++ xs) < base.nodes
        → (takes_place voter_of base.nodes (voter_of v) (p ++ xs) ≡ true) × (insert_within voter_of base.nodes v (p ++ xs) ≡ p ++ (v ∷ xs))
    unfolding takes_place
    put_between xs b l =
        let n = first_new xs b in
        let k = key_behind voter_of (voter_of v) p xs below ∙ n.0 in (
          cond_no true _ k ∙ lt-ltb (length (p ++ xs)) base.nodes l,
          within_new voter_of base.nodes v (p ++ xs) k l ∙ insert_behind voter_of v p xs below ∙ ap (λ (ys : List SignedVoteOf). p ++ ys) n.1,
        )

    not_obsolete : (xs : List SignedVoteOf) → obsolete xs v ≡ false → obsolete (p ++ xs) v ≡ false
    unfolding obsolete
    not_obsolete xs o = rw (lookup_behind voter_of (voter_of v) p xs below) o

  -- the counter behind the entries: the board is worked out from the votes then, if one of the entries is of this batch
  abbrev behind : List SignedVoteOf → List BoardRow → List Entry → CounterOf
  behind vs rs es = with_committed c vs (board_after (any_fresh es) vs rs)

  -- a vote of the batch took a place: the board of before does not count any more
  worked : (es : List Entry) (xs vs : List SignedVoteOf) (rs : List BoardRow) → (any_fresh es ≡ false → xs ≡ vs) → behind vs (worked_out xs) es ≡ with_committed c vs (worked_out vs)
  worked es xs vs rs same = go (any_fresh es) refl
    where
      go : (b : Bool) → any_fresh es ≡ b → with_committed c vs (board_after b vs (worked_out xs)) ≡ with_committed c vs (worked_out vs)
      go true e = refl
      go false e = ap (λ (us : List SignedVoteOf). with_committed c vs (worked_out us)) (same e)

  module _ (p : List SignedVoteOf) (v : SignedVoteOf) (e : Entry) (ys xs vs : List SignedVoteOf) (es : List Entry) (rs : List BoardRow) where
    abbrev at : List SignedVoteOf → List SignedVoteOf
    at us = (p ++ (v ∷ [])) ++ us

    joined : (us : List SignedVoteOf) → p ++ (v ∷ us) ≡ at us
    joined us = sym (append_assoc p (v ∷ []) us)

    -- an entry of a vote before, and one of this batch
    step_kept : e.place ≡ None → ys ≡ p ++ (v ∷ xs) → foldl (put_in base s) (with_committed c (at xs) rs) es ≡ behind (at vs) rs es
        → foldl (put_in base s) (with_committed c ys rs) (e ∷ es) ≡ behind (p ++ (v ∷ vs)) rs (e ∷ es)
    unfolding any_fresh
    step_kept f q r =
        ap (λ (d : CounterOf). foldl (put_in base s) d es) (put_none base s (with_committed c ys rs) e f ∙ ap (λ (us : List SignedVoteOf). with_committed c us rs) (q ∙ joined xs)) ∙ r
        ∙ (λ i. with_committed c (sym (joined vs) i) (board_after (sym (cond_no true (any_fresh es) (ap is_placed f)) i) (sym (joined vs) i) rs))

    step_fresh : is_fresh e ≡ true → (any_fresh es ≡ false → xs ≡ vs) → put_in base s (with_committed c ys rs) e ≡ with_committed c (p ++ (v ∷ xs)) (worked_out (p ++ (v ∷ xs)))
        → foldl (put_in base s) (with_committed c (at xs) (worked_out (at xs))) es ≡ behind (at vs) (worked_out (at xs)) es
        → foldl (put_in base s) (with_committed c ys rs) (e ∷ es) ≡ behind (p ++ (v ∷ vs)) rs (e ∷ es)
    unfolding any_fresh
    step_fresh f same q r =
        ap (λ (d : CounterOf). foldl (put_in base s) d es) (q ∙ ap (λ (us : List SignedVoteOf). with_committed c us (worked_out us)) (joined xs)) ∙ r
        ∙ worked es (at xs) (at vs) rs (λ n. ap at (same n))
        ∙ (λ i. with_committed c (sym (joined vs) i) (board_after (sym (cond_yes true (any_fresh es) f) i) (sym (joined vs) i) rs))

  -- p are the votes passed
  put_rest : {low : ℕ} {xs vs : List SignedVoteOf} {es : List Entry} → Tallied s c.era c.nodes low xs vs es → (p : List SignedVoteOf) (rs : List BoardRow) → top voter_of p ≤ low
      → length p + length es ≤ base.nodes → foldl (put_in base s) (with_committed c (p ++ xs) rs) es ≡ behind (p ++ vs) rs es
  unfolding any_fresh
  put_rest none p rs h l = refl
  put_rest (kept {v = v} {e = e} {xs = xs} {vs = vs} {es = es} f n t) p rs h l =
      step_kept p v e (p ++ (v ∷ xs)) xs vs es rs f refl (put_rest t (p ++ (v ∷ [])) rs (omega (arith, top_more voter_of p v)) (omega (arith, length-append p (v ∷ []))))
  put_rest (replaced {x = x} {v = v} {e = e} {xs = xs} {vs = vs} {es = es} f k q o t) p rs h l =
      let b : top voter_of p ≤ voter_of v = omega arith in
      let u = put_over v p b x xs q in
      step_fresh p v e (p ++ (x ∷ xs)) xs vs es rs (marked s c.era c.nodes f) (tallied_same s c.era c.nodes t)
      (put_fresh v e (p ++ (x ∷ xs)) rs f (not_obsolete v p b (x ∷ xs) o) u.0 ∙ ap (λ (us : List SignedVoteOf). with_committed c us (worked_out us)) u.1)
      (put_rest t (p ++ (v ∷ [])) (worked_out ((p ++ (v ∷ [])) ++ xs)) (omega (arith, top_more voter_of p v)) (omega (arith, length-append p (v ∷ []))))
  put_rest (added {v = v} {e = e} {xs = xs} {vs = vs} {es = es} f k q o t) p rs h l =
      let b : top voter_of p ≤ voter_of v = omega arith in
      let m = tallied_length s c.era c.nodes t in
      let r : length (p ++ xs) < base.nodes = omega (arith, length-append p xs) in
      let u = put_between v p b xs q r in
      step_fresh p v e (p ++ xs) xs vs es rs (marked s c.era c.nodes f) (tallied_same s c.era c.nodes t)
      (put_fresh v e (p ++ xs) rs f (not_obsolete v p b xs o) u.0 ∙ ap (λ (us : List SignedVoteOf). with_committed c us (worked_out us)) u.1)
      (put_rest t (p ++ (v ∷ [])) (worked_out ((p ++ (v ∷ [])) ++ xs)) (omega (arith, top_more voter_of p v)) (omega (arith, length-append p (v ∷ []))))

-- what was held of the work: the counter before the batch, with the votes that stayed, has the committed votes and the board of the work
pub put_stayed : (s : List ℕ) (c : CounterOf) (w : WorkOf) (t : Tally) → VotesHeld s (begun_with c) w c.era c.nodes t
    → foldl (put_in base s) c (entries_of t) ≡ with_committed c w.state.counter.committed w.state.counter.board
put_stayed s c w t h =
    put_rest s c h.by_entry [] c.board (omega arith) (omega (arith, h.room)) ∙ ap (with_committed c w.state.counter.committed) (sym h.by_board)
