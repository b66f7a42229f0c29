-- 02, CR 8: that a change that is the relation `Wins` is the change with most support; that the change with most support is over f and none beats it, and that there is none where no change is over f.
-- Assumes nothing.
use Prim.Native.Nat.{ℕ, ◌≤◌, ◌<◌}
use mathlib.Core.Path.{◌≡◌, refl, sym, ap, subst, ◌∙◌}
use mathlib.Core.List.{List, [], ◌∷◌, ◌++◌}
use mathlib.Core.Bool.{Bool, true, false, not, cond, ◌||◌}
use mathlib.Core.Logic.{◌⊎◌, inl, inr, ⊎_elim}
use native.Mathlib.Omega.{arith}
use lib.Dec.{ltb}
use borrow.Author.Tests.{ltb-true, lt-ltb, le-ltb}
use Rattle.lists.specs.Lists.{found, nothing}
use Rattle.lists.proofs.ListLaws.{false_true, found_same, not_found, and_both}
use Rattle.bincode.specs.Stands.{All}
use Rattle.winner.specs.BoardTerms.{Among}
use Rattle.winner.proofs.SupportLaws.{denied, same_or_other, other_not}
use Rattle.change.specs.Change.{ChangeOf, same_change}
use Rattle.change.proofs.ChangeLaws.{change_true, change_refl}
use Rattle.votes.specs.Votes.{SignedVoteOf}
use Rattle.reference.specs.Winner.{choice_of, voters_for, beats, beaten_by, unbeaten, first_unbeaten, most_support, Beats, Wins}
use Rattle.reference.proofs.VotersLaws.{voter_found}
use Rattle.reference.proofs.MessageLaws.{or_right}
use Rattle.reference.proofs.BeatsLaws.{or_first, beats_is, is_beats, beats_once}

-- a change is another, or it is the same
same_or_not : (c d : ChangeOf) → (c ≡ d) ⊎ (c ≡ d → ⊥)
same_or_not c d = ⊎_elim (λ e. inl e) (λ n. inr (other_not same_change change_true change_refl c d n)) (same_or_other same_change change_true change_refl c d)

module _ (f : ℕ) (vs : List SignedVoteOf) where
  -- what is said of a change that is over f and that none beats
  abbrev pub Unbeaten : ChangeOf → Type 0
  Unbeaten c = (f < voters_for c vs) × ((v : SignedVoteOf) → Among v vs → Beats vs v.vote.change c → ⊥)

  beaten_is : (ws : List SignedVoteOf) (c : ChangeOf) → ((v : SignedVoteOf) → Among v ws → Beats vs v.vote.change c → ⊥) → beaten_by vs ws c ≡ false
  beaten_is [] c h = refl
  beaten_is (w ∷ ws) c h = go (beats vs (choice_of w) c) refl (beaten_is ws c (λ v m. h v (inr m)))
    where
      go : (b : Bool) → beats vs (choice_of w) c ≡ b → beaten_by vs ws c ≡ false → (b || beaten_by vs ws c) ≡ false
      go true e ih = absurd (h w (inl refl) (beats_is vs (choice_of w) c e))
      go false e ih = ih

  is_beaten : (ws : List SignedVoteOf) (c : ChangeOf) (v : SignedVoteOf) → Among v ws → Beats vs v.vote.change c → beaten_by vs ws c ≡ true
  is_beaten [] c v m b = absurd m
  is_beaten (w ∷ ws) c v m b =
      ⊎_elim (λ (e : v ≡ w). or_first (beats vs (choice_of w) c) (beaten_by vs ws c) (subst (λ (x : SignedVoteOf). beats vs (choice_of x) c ≡ true) e (is_beats vs (choice_of v) c b)))
      (λ (n : Among v ws). or_right (beats vs (choice_of w) c) (beaten_by vs ws c) (is_beaten ws c v n b)) m

  unbeaten_is : (c : ChangeOf) → unbeaten vs f c ≡ true → Unbeaten c
  unfolding unbeaten
  unbeaten_is c e =
      let b = and_both (ltb f (voters_for c vs)) (not (beaten_by vs vs c)) e in
      (ltb-true f (voters_for c vs) b.0, λ v m k. false_true (ap not (sym (is_beaten vs c v m k)) ∙ b.1))

  pub is_unbeaten : (c : ChangeOf) → Unbeaten c → unbeaten vs f c ≡ true
  unfolding unbeaten
  is_unbeaten c u = rw (lt-ltb f (voters_for c vs) u.0, beaten_is vs c u.1)

  -- a change that wins is unbeaten, and every other that a voter has is not
  module _ (c : ChangeOf) (w : Wins f vs c) where
    winner_unbeaten : Unbeaten c
    winner_unbeaten = (w.passes, λ v m b. ⊎_elim (λ e. itself v b e) (λ n. beats_once vs c v.vote.change (w.most v m n) b) (same_or_not v.vote.change c))
      where
        itself : (v : SignedVoteOf) → Beats vs v.vote.change c → v.vote.change ≡ c → ⊥
        itself v b e = let k : Beats vs c c = subst (λ (x : ChangeOf). Beats vs x c) e b in beats_once vs c c k k

    other_beaten : (v : SignedVoteOf) → Among v vs → (v.vote.change ≡ c → ⊥) → unbeaten vs f v.vote.change ≡ false
    other_beaten v m n =
        denied (unbeaten vs f v.vote.change) (λ e. (unbeaten_is v.vote.change e).1 behind.0 behind.1 (subst (λ (x : ChangeOf). Beats vs x v.vote.change) (sym behind.2) (w.most v m n)))
      where
        behind : (x : SignedVoteOf) × Among x vs × (x.vote.change ≡ c)
        behind = voter_found c vs (omega (arith, w.passes))

    pub wins_first : most_support f vs ≡ found c
    unfolding most_support first_unbeaten
    wins_first = go vs (λ v m. m) (voter_found c vs (omega (arith, w.passes)))
      where
        go : (ws : List SignedVoteOf) → ((v : SignedVoteOf) → Among v ws → Among v vs) → (v : SignedVoteOf) × Among v ws × (v.vote.change ≡ c) → first_unbeaten vs f ws ≡ found c
        go [] each t = absurd t.1
        go (x ∷ ws) each t = case (same_or_not (choice_of x) c) (go ws (λ v m. each v (inr m)))
          where
            case : (choice_of x ≡ c) ⊎ (choice_of x ≡ c → ⊥) → ((v : SignedVoteOf) × Among v ws × (v.vote.change ≡ c) → first_unbeaten vs f ws ≡ found c)
                → cond (unbeaten vs f (choice_of x)) (found (choice_of x)) (first_unbeaten vs f ws) ≡ found c
            case (inl e) ih = rw (subst (λ (d : ChangeOf). unbeaten vs f d ≡ true) (sym e) (is_unbeaten c winner_unbeaten)) (ap found e)
            case (inr n) ih =
                rw (other_beaten x (each x (inl refl)) n)
                (ih (⊎_elim (λ (q : t.0 ≡ x). absurd (n (ap choice_of (sym q) ∙ t.2))) (λ (m : Among t.0 ws). (t.0, m, t.2)) t.1))

  -- where no change is over f there is none
  pub none_first : ((c : ChangeOf) → voters_for c vs ≤ f) → most_support f vs ≡ nothing
  unfolding most_support first_unbeaten unbeaten
  none_first h = go vs
    where
      go : (ws : List SignedVoteOf) → first_unbeaten vs f ws ≡ nothing
      go [] = refl
      go (w ∷ ws) = rw (le-ltb f (voters_for (choice_of w) vs) (h (choice_of w))) (go ws)

  -- a change that is told stands where it is told, and each voter before has one that is not
  pub record Told (ws : List SignedVoteOf) (c : ChangeOf) : Type 0 where
    pub before : List SignedVoteOf
    pub voter : SignedVoteOf
    pub behind : List SignedVoteOf
    pub taken : ws ≡ before ++ (voter ∷ behind)
    pub choice : choice_of voter ≡ c
    pub holds : Unbeaten c
    pub earlier : All (λ (v : SignedVoteOf). unbeaten vs f (choice_of v) ≡ false) before

  pub told : (ws : List SignedVoteOf) (c : ChangeOf) → first_unbeaten vs f ws ≡ found c → Told ws c
  unfolding first_unbeaten
  told [] c e = absurd (not_found e)
  told (w ∷ ws) c e = go (unbeaten vs f (choice_of w)) refl e (told ws c)
    where
      go : (b : Bool) → unbeaten vs f (choice_of w) ≡ b → cond b (found (choice_of w)) (first_unbeaten vs f ws) ≡ found c → (first_unbeaten vs f ws ≡ found c → Told ws c) → Told (w ∷ ws) c
      go true t e ih =
          record { before = []; voter = w; behind = ws; taken = refl; choice = found_same e; holds = subst Unbeaten (found_same e) (unbeaten_is (choice_of w) t); earlier = tt }
      go false t e ih =
          let r = ih e in
          record { before = w ∷ r.before; voter = r.voter; behind = r.behind; taken = ap (λ (us : List SignedVoteOf). w ∷ us) r.taken; choice = r.choice; holds = r.holds; earlier = (t, r.earlier) }

  pub none_told : (ws : List SignedVoteOf) → first_unbeaten vs f ws ≡ nothing → All (λ (v : SignedVoteOf). unbeaten vs f (choice_of v) ≡ false) ws
  unfolding first_unbeaten
  none_told [] e = tt
  none_told (w ∷ ws) e = go (unbeaten vs f (choice_of w)) refl e (none_told ws)
    where
      go : (b : Bool) → unbeaten vs f (choice_of w) ≡ b → cond b (found (choice_of w)) (first_unbeaten vs f ws) ≡ nothing
          → (first_unbeaten vs f ws ≡ nothing → All (λ (v : SignedVoteOf). unbeaten vs f (choice_of v) ≡ false) ws)
          → (unbeaten vs f (choice_of w) ≡ false) × All (λ (v : SignedVoteOf). unbeaten vs f (choice_of v) ≡ false) ws
      go true t e ih = absurd (not_found (sym e))
      go false t e ih = (t, ih e)

  -- of any votes: what is told is over f, and no change that a voter has beats it
  pub told_unbeaten : (c : ChangeOf) → most_support f vs ≡ found c → (f < voters_for c vs) × ((v : SignedVoteOf) → Among v vs → Beats vs v.vote.change c → ⊥)
  unfolding most_support
  told_unbeaten c e = (told vs c e).holds

  -- a winner is over f
  pub winner_passes : (c : ChangeOf) → most_support f vs ≡ found c → f < voters_for c vs
  winner_passes c e = (told_unbeaten c e).0
