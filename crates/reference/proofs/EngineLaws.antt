-- 02, CR 8: that the change with most support is the engine's winner, of any votes; so nobody wins exactly where no change is over f, and of different voters the two cover all votes.
-- Assumes nothing.
use Prim.Native.Nat.{ℕ, ◌≤◌, ◌<◌}
use mathlib.Core.Path.{◌≡◌, refl, sym, ap, subst, ◌∙◌}
use mathlib.Core.List.{List, [], ◌∷◌, ◌++◌, map}
use mathlib.Core.Bool.{Bool, true, false}
use mathlib.Core.Logic.{◌↔◌, ◌⊎◌, inl, inr, ⊎_elim}
use native.Mathlib.Omega.{arith}
use Rattle.lists.specs.Lists.{Found, found, nothing}
use Rattle.lists.proofs.ListLaws.{false_true}
use Rattle.bincode.specs.Stands.{All}
use Rattle.winner.specs.Support.{Cast, choices, voters, support, supporters, lowest}
use Rattle.winner.specs.Board.{row_for}
use Rattle.winner.specs.BoardTerms.{Among, Unrepeated, Before}
use Rattle.winner.specs.Winner.{ahead, winner}
use Rattle.winner.proofs.AmongLaws.{all_one, all_follows}
use Rattle.winner.proofs.SupportLaws.{among_supported, denied, not_other}
use Rattle.winner.proofs.SupporterLaws.{lowest_supporter}
use Rattle.winner.proofs.AheadLaws.{ahead_before, before_ahead, ahead_past, no_more}
use Rattle.winner.proofs.BoardLaws.{rows_apart}
use Rattle.winner.proofs.WinnerLaws.{winner_is as first_foremost, winner_passes as engine_passes, winner_none}
use Rattle.change.specs.Change.{ChangeOf, same_change}
use Rattle.change.proofs.ChangeLaws.{change_true, change_refl}
use Rattle.votes.specs.Votes.{SignedVoteOf}
use Rattle.reference.specs.Winner.{choice_of, voters_for, unbeaten, first_unbeaten, most_support, Beats, more, lower, Wins}
use Rattle.reference.proofs.VotersLaws.{cast_ref, voters_are, ids_are, choices_append, voter_among, among_voter, all_choices}
use Rattle.reference.proofs.BeatsLaws.{voter_listed, listed_voter}
use Rattle.reference.proofs.WinnerLaws.{Unbeaten, Told, told, none_told, told_unbeaten, none_first, is_unbeaten}

-- who stands behind is one of all
behind_among : (w : SignedVoteOf) (us : List SignedVoteOf) (v : SignedVoteOf) (ws : List SignedVoteOf) → Among w ws → Among w (us ++ (v ∷ ws))
behind_among w [] v ws m = inr m
behind_among w (u ∷ us) v ws m = inr (behind_among w us v ws m)

each_behind : {P : SignedVoteOf → Type 0} (ws : List SignedVoteOf) → ((w : SignedVoteOf) → Among w ws → P w) → All P ws
each_behind [] h = tt
each_behind (w ∷ ws) h = (h w (inl refl), each_behind ws (λ x m. h x (inr m)))

module _ (f : ℕ) (vs : List SignedVoteOf) where
  -- the engine's order is the same
  abbrev casts : List (Cast ChangeOf)
  casts = map cast_ref vs

  module _ (c d : ChangeOf) (h : 0 < support same_change c (choices (map cast_ref vs))) (k : 0 < support same_change d (choices (map cast_ref vs))) where
    beats_before : Beats vs c d → Before (row_for same_change casts c) (row_for same_change casts d)
    beats_before (more l) = inl (omega (arith, l, voters_are c vs, voters_are d vs))
    beats_before (lower s v m e l) = inr (omega (arith, s, voters_are c vs, voters_are d vs), lower_ids)
      where
        lower_ids : lowest same_change c casts < lowest same_change d casts
        lower_ids =
            let i = lowest_supporter same_change c casts h in
            let j = lowest_supporter same_change d casts k in
            let w = listed_voter vs d (lowest same_change d casts) (subst (Among (lowest same_change d casts)) (sym (ids_are d vs)) j.0) in
            let a = all_one (λ (n : ℕ). lowest same_change c casts ≤ n) (supporters same_change c casts) i.1 v.voter (subst (Among v.voter) (ids_are c vs) (voter_listed vs c v m e)) in
            omega (arith, a, l w.0 w.1 w.2, w.3)

    before_beats : Before (row_for same_change casts c) (row_for same_change casts d) → Beats vs c d
    before_beats (inl l) = more (omega (arith, l, voters_are c vs, voters_are d vs))
    before_beats (inr l) = lower (omega (arith, l.0, voters_are c vs, voters_are d vs)) v.0 v.1 v.2 others
      where
        v : (x : SignedVoteOf) × Among x vs × (x.vote.change ≡ c) × (x.voter ≡ lowest same_change c casts)
        v = listed_voter vs c (lowest same_change c casts) (subst (Among (lowest same_change c casts)) (sym (ids_are c vs)) (lowest_supporter same_change c casts h).0)

        others : (w : SignedVoteOf) → Among w vs → w.vote.change ≡ d → v.0.voter < w.voter
        others w m e =
            let a = all_one (λ (n : ℕ). lowest same_change d casts ≤ n) (supporters same_change d casts) (lowest_supporter same_change d casts k).1 w.voter (subst (Among w.voter) (ids_are d vs) (voter_listed vs d w m e)) in
            omega (arith, a, l.1, v.3)

  supported : (v : SignedVoteOf) → Among v vs → 0 < support same_change (choice_of v) (choices (map cast_ref vs))
  supported v m = among_supported same_change change_refl (choice_of v) (choices casts) (voter_among v vs m)

  -- none is ahead of an unbeaten change
  none_ahead : (c : ChangeOf) → Unbeaten f vs c → (v : SignedVoteOf) → Among v vs → ahead same_change casts (choice_of v) c ≡ false
  none_ahead c u v m =
      denied (ahead same_change casts (choice_of v) c)
      (λ e. u.1 v m (before_beats (choice_of v) c (supported v m) (omega (arith, u.0, voters_are c vs)) (ahead_before same_change casts (choice_of v) c e)))

  -- and a change of which none is ahead is unbeaten, if it is over f
  unbeaten_ahead : (c : ChangeOf) → f < voters_for c vs → ((v : SignedVoteOf) → Among v vs → ahead same_change casts (choice_of v) c ≡ false) → Unbeaten f vs c
  unbeaten_ahead c h a =
      (h, λ v m b. false_true (sym (a v m) ∙ before_ahead same_change casts (choice_of v) c (beats_before (choice_of v) c (supported v m) (omega (arith, h, voters_are c vs)) b)))

  -- the first unbeaten change is ahead of each that is not
  ahead_earlier : (c : ChangeOf) → Unbeaten f vs c → (v : SignedVoteOf) → unbeaten vs f (choice_of v) ≡ false → ahead same_change casts c (choice_of v) ≡ true
  ahead_earlier c u v n = go (ahead same_change casts c (choice_of v)) refl
    where
      go : (b : Bool) → ahead same_change casts c (choice_of v) ≡ b → b ≡ true
      go true e = refl
      go false e =
          let l = no_more same_change casts c (choice_of v) e in
          absurd (false_true (sym n ∙ is_unbeaten f vs (choice_of v) (unbeaten_ahead (choice_of v) (omega (arith, l, u.0, voters_are c vs, voters_are (choice_of v) vs)) others)))
        where
          others : (w : SignedVoteOf) → Among w vs → ahead same_change casts (choice_of w) (choice_of v) ≡ false
          others w m =
              denied (ahead same_change casts (choice_of w) (choice_of v)) (λ q. false_true (sym (none_ahead c u w m) ∙ ahead_past same_change casts (choice_of w) (choice_of v) c q e))

  -- it is the engine's winner, of any votes
  pub winner_is : most_support f vs ≡ winner same_change f (map cast_ref vs)
  unfolding most_support
  winner_is = go (first_unbeaten vs f vs) refl
    where
      go : (r : Found ChangeOf) → first_unbeaten vs f vs ≡ r → r ≡ winner same_change f casts
      go (found c) e = sym (first t.voter t.before t.behind t.taken t.earlier (subst (Unbeaten f vs) (sym t.choice) t.holds) ∙ ap found t.choice)
        where
          t : Told f vs vs c
          t = told f vs vs c e

          first : (v : SignedVoteOf) (us ws : List SignedVoteOf) → vs ≡ us ++ (v ∷ ws) → All (λ (u : SignedVoteOf). unbeaten vs f (choice_of u) ≡ false) us → Unbeaten f vs (choice_of v)
              → winner same_change f casts ≡ found (choice_of v)
          first v us ws q a u =
              first_foremost same_change f casts (choices (map cast_ref us)) (choice_of v) (choices (map cast_ref ws))
              (ap (λ (xs : List SignedVoteOf). choices (map cast_ref xs)) q ∙ choices_append us v ws)
              (omega (arith, u.0, voters_are (choice_of v) vs))
              (all_choices (λ (d : ChangeOf). ahead same_change casts (choice_of v) d ≡ true) us (all_follows _ _ (λ w n. ahead_earlier (choice_of v) u w n) us a))
              (all_choices (λ (d : ChangeOf). ahead same_change casts d (choice_of v) ≡ false) ws (each_behind ws (λ w m. none_ahead (choice_of v) u w (rw q (behind_among w us v ws m)))))
      go nothing e = sym (nobody (winner same_change f casts) refl)
        where
          nobody : (r : Found ChangeOf) → winner same_change f casts ≡ r → r ≡ nothing
          nobody (found x) w =
              let p = engine_passes same_change f casts x w in
              let v = among_voter x vs p.1 in
              let u : Unbeaten f vs x = unbeaten_ahead x (omega (arith, p.0, voters_are x vs)) (λ y m. p.2 (choice_of y) (voter_among y vs m)) in
              absurd (false_true (sym (all_one (λ (y : SignedVoteOf). unbeaten vs f (choice_of y) ≡ false) vs (none_told f vs vs e) v.0 v.1) ∙ is_unbeaten f vs (choice_of v.0) (subst (Unbeaten f vs) (sym v.2) u)))
          nobody nothing w = refl

  -- nobody wins exactly where no change has more than f voters
  pub nobody_passes : (most_support f vs ≡ nothing) ↔ ((c : ChangeOf) → voters_for c vs ≤ f)
  nobody_passes = (λ e c. omega (arith, voters_are c vs, (winner_none same_change f casts change_true).0 (sym winner_is ∙ e) c), none_first f vs)

  -- of different voters: what is told wins, so the two cover all votes
  module _ (apart : Unrepeated (voters (map cast_ref vs))) where
    pub first_wins : (c : ChangeOf) → most_support f vs ≡ found c → Wins f vs c
    first_wins c e = record { passes = u.0; most = λ v m n. most v m n }
      where
        u : Unbeaten f vs c
        u = told_unbeaten f vs c e

        most : (v : SignedVoteOf) → Among v vs → (v.vote.change ≡ c → ⊥) → Beats vs c v.vote.change
        most v m n =
            let h : 0 < support same_change c (choices casts) = omega (arith, u.0, voters_are c vs) in
            ⊎_elim (λ b. before_beats c v.vote.change h (supported v m) b) (λ b. absurd (u.1 v m (before_beats v.vote.change c (supported v m) h b)))
            (rows_apart same_change change_true change_refl casts apart c v.vote.change h (supported v m) (not_other same_change change_true change_refl c v.vote.change (λ q. n (sym q))))

    pub wins_or_none : ((c : ChangeOf) × Wins f vs c) ⊎ ((c : ChangeOf) → voters_for c vs ≤ f)
    wins_or_none = go (most_support f vs) refl
      where
        go : (r : Found ChangeOf) → most_support f vs ≡ r → ((c : ChangeOf) × Wins f vs c) ⊎ ((c : ChangeOf) → voters_for c vs ≤ f)
        go (found c) e = inl (c, first_wins c e)
        go nothing e = inr (nobody_passes.0 e)
