-- That the test between two changes is the relation `Beats`, and that no two beat each other.
-- Assumes nothing.
use Prim.Native.Nat.{ℕ, ◌<◌}
use mathlib.Core.Path.{◌≡◌, refl, sym, ap, subst, ◌∙◌}
use mathlib.Core.List.{List, [], ◌∷◌, map}
use mathlib.Core.Bool.{Bool, true, false, ◌&&◌, ◌||◌}
use mathlib.Core.Logic.{◌⊎◌, inl, inr, ⊎_elim}
use native.Mathlib.Omega.{arith}
use lib.Dec.{ltb, eqb}
use borrow.Author.Tests.{ltb-true, lt-ltb, eqb-true, eq-eqb}
use Rattle.lists.proofs.ListLaws.{false_true, and_both}
use Rattle.change.specs.Change.{ChangeOf, same_change}
use Rattle.change.proofs.ChangeLaws.{change_true, change_refl}
use Rattle.votes.specs.Votes.{SignedVoteOf}
use Rattle.winner.specs.BoardTerms.{Among}
use Rattle.winner.proofs.AmongLaws.{among_map, among_filter, filter_among}
use Rattle.reference.proofs.MessageLaws.{or_right}
use Rattle.reference.specs.Winner.{choice_of, votes_for, voters_for, ids_for, below_all, has_lower, beats, Beats, more, lower}

-- what one of two tests says
pub or_either : (a b : Bool) → (a || b) ≡ true → (a ≡ true) ⊎ (b ≡ true)
or_either true b e = inl refl
or_either false b e = inr e

pub or_first : (a b : Bool) → a ≡ true → (a || b) ≡ true
or_first true b e = refl
or_first false b e = absurd (false_true e)

-- an id that is lower than all
below_is : (id : ℕ) (others : List ℕ) → below_all id others ≡ true → (o : ℕ) → Among o others → id < o
below_is id [] e o m = absurd m
below_is id (k ∷ others) e o m =
    let b = and_both (ltb id k) (below_all id others) e in
    ⊎_elim (λ (q : o ≡ k). let l = ltb-true id k b.0 in omega (arith, q)) (λ n. below_is id others b.1 o n) m

is_below : (id : ℕ) (others : List ℕ) → ((o : ℕ) → Among o others → id < o) → below_all id others ≡ true
is_below id [] h = refl
is_below id (k ∷ others) h = rw (lt-ltb id k (h k (inl refl))) (is_below id others (λ o m. h o (inr m)))

lower_is : (ids others : List ℕ) → has_lower ids others ≡ true → (id : ℕ) × Among id ids × ((o : ℕ) → Among o others → id < o)
lower_is [] others e = absurd (false_true e)
lower_is (id ∷ ids) others e =
    ⊎_elim (λ (b : below_all id others ≡ true). (id, inl refl, below_is id others b)) (λ (r : has_lower ids others ≡ true). let t = lower_is ids others r in (t.0, inr t.1, t.2))
    (or_either (below_all id others) (has_lower ids others) e)

is_lower : (ids others : List ℕ) (id : ℕ) → Among id ids → ((o : ℕ) → Among o others → id < o) → has_lower ids others ≡ true
is_lower [] others id m h = absurd m
is_lower (k ∷ ids) others id m h =
    ⊎_elim (λ (e : id ≡ k). or_first (below_all k others) (has_lower ids others) (is_below k others (λ o n. subst (λ (j : ℕ). j < o) e (h o n))))
    (λ (n : Among id ids). or_right (below_all k others) (has_lower ids others) (is_lower ids others id n h)) m

module _ (vs : List SignedVoteOf) where
  -- the ids of a change are those of the votes for it
  pub voter_listed : (c : ChangeOf) (v : SignedVoteOf) → Among v vs → v.vote.change ≡ c → Among v.voter (ids_for c vs)
  unfolding ids_for
  voter_listed c v m e =
      among_map (λ (x : SignedVoteOf). x.voter) v (votes_for c vs)
      (among_filter (λ (x : SignedVoteOf). same_change (choice_of x) c) v vs m (ap (λ (x : ChangeOf). same_change x c) e ∙ change_refl c))

  pub listed_voter : (c : ChangeOf) (id : ℕ) → Among id (ids_for c vs) → (v : SignedVoteOf) × Among v vs × (v.vote.change ≡ c) × (v.voter ≡ id)
  unfolding ids_for
  listed_voter c id m = go (votes_for c vs) m (λ v n. filter_among (λ (x : SignedVoteOf). same_change (choice_of x) c) v vs n)
    where
      go : (ws : List SignedVoteOf) → Among id (map (λ (x : SignedVoteOf). x.voter) ws) → ((v : SignedVoteOf) → Among v ws → Among v vs × (same_change (choice_of v) c ≡ true))
          → (v : SignedVoteOf) × Among v vs × (v.vote.change ≡ c) × (v.voter ≡ id)
      go [] m h = absurd m
      go (w ∷ ws) m h =
          ⊎_elim (λ (e : id ≡ w.voter). let a = h w (inl refl) in (w, a.0, change_true (choice_of w) c a.1, sym e))
          (λ (n : Among id (map (λ (x : SignedVoteOf). x.voter) ws)). go ws n (λ v k. h v (inr k))) m

  -- what passes the test beats the other, and what beats it passes
  pub beats_is : (c d : ChangeOf) → beats vs c d ≡ true → Beats vs c d
  unfolding beats
  beats_is c d e =
      ⊎_elim (λ t. more (ltb-true (voters_for d vs) (voters_for c vs) t)) by_id
      (or_either (ltb (voters_for d vs) (voters_for c vs)) (eqb (voters_for c vs) (voters_for d vs) && has_lower (ids_for c vs) (ids_for d vs)) e)
    where
      by_id : (eqb (voters_for c vs) (voters_for d vs) && has_lower (ids_for c vs) (ids_for d vs)) ≡ true → Beats vs c d
      by_id t =
          let b = and_both (eqb (voters_for c vs) (voters_for d vs)) (has_lower (ids_for c vs) (ids_for d vs)) t in
          let l = lower_is (ids_for c vs) (ids_for d vs) b.1 in
          let v = listed_voter c l.0 l.1 in
          lower (sym (eqb-true (voters_for c vs) (voters_for d vs) b.0)) v.0 v.1 v.2 (λ w m q. subst (λ (k : ℕ). k < w.voter) (sym v.3) (l.2 w.voter (voter_listed d w m q)))

  pub is_beats : (c d : ChangeOf) → Beats vs c d → beats vs c d ≡ true
  unfolding beats
  is_beats c d (more h) = or_first (ltb (voters_for d vs) (voters_for c vs)) (eqb (voters_for c vs) (voters_for d vs) && has_lower (ids_for c vs) (ids_for d vs)) (lt-ltb (voters_for d vs) (voters_for c vs) h)
  is_beats c d (lower s v m e h) =
      or_right (ltb (voters_for d vs) (voters_for c vs)) (eqb (voters_for c vs) (voters_for d vs) && has_lower (ids_for c vs) (ids_for d vs))
      (rw (eq-eqb (voters_for c vs) (voters_for d vs) (sym s)) (is_lower (ids_for c vs) (ids_for d vs) v.voter (voter_listed c v m e) others))
    where
      others : (o : ℕ) → Among o (ids_for d vs) → v.voter < o
      others o n = let w = listed_voter d o n in subst (λ (k : ℕ). v.voter < k) w.3 (h w.0 w.1 w.2)

  -- no two beat each other, and none beats itself
  pub beats_once : (c d : ChangeOf) → Beats vs c d → Beats vs d c → ⊥
  beats_once c d (more h) (more k) = omega arith
  beats_once c d (more h) (lower s v m e k) = omega arith
  beats_once c d (lower s v m e h) (more k) = omega arith
  beats_once c d (lower s v m e h) (lower t w n g k) = let a = h w n g in let b = k v m e in omega arith
