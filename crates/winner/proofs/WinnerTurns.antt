-- Turns of a loop that looks for the winner: choices by their place, and the best so far.
-- Assumes nothing.
use Prim.Native.Nat.{ℕ, ◌+◌, ◌≤◌, ◌<◌}
use mathlib.Core.Path.{◌≡◌, ap, subst}
use mathlib.Core.List.{List, [], ◌∷◌}
use mathlib.Core.Bool.{Bool, true, false}
use native.Mathlib.Omega.{arith}
use native.Mathlib.Numerals.{add-one}
use lib.ListN.{length, take, get_or}
use lib.Seq.{take-suc, take_all}
use Rattle.lists.specs.Lists.{found, nothing, map_found}
use Rattle.bincode.specs.Stands.{All}
use Rattle.winner.specs.Support.{Cast, choices, support}
use Rattle.winner.specs.BoardTerms.{Among}
use Rattle.winner.specs.Winner.{ahead, winner_place}
use Rattle.winner.proofs.AmongLaws.{all_one, all_follows, all_both, among_place}
use Rattle.winner.proofs.SupportLaws.{supported_among, at_most}
use Rattle.winner.proofs.AheadLaws.{never_itself, never_both, ahead_past, fewer_ahead, no_more}
use Rattle.winner.proofs.WinnerLaws.{nobody_wins}
use Rattle.winner.proofs.WinnerPlaces.{place_is}

module _ {A : Type 0} (eq : A → A → Bool) (f : ℕ) (vs : List (Cast A)) (z : A) where
  abbrev at : ℕ → A
  at i = get_or (choices vs) i z

  -- none of the first i votes is for a choice that passes f
  abbrev pub NoneYet : ℕ → Type 0
  NoneYet i = All (λ (y : A). support eq y (choices vs) ≤ f) (take i (choices vs))

  -- the choice at place p is the best of theirs, and that is its first place
  abbrev pub Leading : ℕ → ℕ → Type 0
  Leading i p =
      (p < i) × (f < support eq (at p) (choices vs)) × All (λ (u : A). ahead eq vs (at p) u ≡ true) (take p (choices vs))
      × All (λ (y : A). ahead eq vs y (at p) ≡ false) (take i (choices vs))

  -- the vote at place i
  module _ (i : ℕ) (l : i < length (choices vs)) where
    with_next : (P : A → Type 0) → All P (take i (choices vs)) → P (at i) → All P (take (i + 1) (choices vs))
    with_next P a p = rw (add-one, take-suc (choices vs) i z l) (all_both P (take i (choices vs)) (at i ∷ []) a (p, tt))

    pub none_on : NoneYet i → support eq (at i) (choices vs) ≤ f → NoneYet (i + 1)
    none_on n h = with_next (λ (y : A). support eq y (choices vs) ≤ f) n h

    pub none_leads : NoneYet i → f < support eq (at i) (choices vs) → Leading (i + 1) i
    none_leads n h =
        let a = all_follows (λ (y : A). support eq y (choices vs) ≤ f) (λ (u : A). ahead eq vs (at i) u ≡ true) (λ u k. fewer_ahead eq vs (at i) u (omega arith)) (take i (choices vs)) n in
        (omega arith, h, a, behind a)
      where
        behind : All (λ (u : A). ahead eq vs (at i) u ≡ true) (take i (choices vs)) → All (λ (y : A). ahead eq vs y (at i) ≡ false) (take (i + 1) (choices vs))
        behind a =
            with_next (λ (y : A). ahead eq vs y (at i) ≡ false)
            (all_follows (λ (u : A). ahead eq vs (at i) u ≡ true) (λ (y : A). ahead eq vs y (at i) ≡ false) (λ u e. never_both eq vs (at i) u e) (take i (choices vs)) a)
            (never_itself eq vs (at i))

    module _ (p : ℕ) (b : Leading i p) where
      pub leads_on : ahead eq vs (at i) (at p) ≡ false → Leading (i + 1) p
      leads_on e = (omega (arith, b.0), b.1, b.2, with_next (λ (y : A). ahead eq vs y (at p) ≡ false) b.3 e)

      pub leads_over : ahead eq vs (at i) (at p) ≡ true → Leading (i + 1) i
      leads_over e = (omega arith, over, a, behind)
        where
          over : f < support eq (at i) (choices vs)
          over = let k = no_more eq vs (at p) (at i) (never_both eq vs (at i) (at p) e) in omega (arith, b.1)

          a : All (λ (u : A). ahead eq vs (at i) u ≡ true) (take i (choices vs))
          a = all_follows (λ (y : A). ahead eq vs y (at p) ≡ false) (λ (u : A). ahead eq vs (at i) u ≡ true) (λ u n. ahead_past eq vs (at i) (at p) u e n) (take i (choices vs)) b.3

          behind : All (λ (y : A). ahead eq vs y (at i) ≡ false) (take (i + 1) (choices vs))
          behind =
              with_next (λ (y : A). ahead eq vs y (at i) ≡ false)
              (all_follows (λ (u : A). ahead eq vs (at i) u ≡ true) (λ (y : A). ahead eq vs y (at i) ≡ false) (λ u q. never_both eq vs (at i) u q) (take i (choices vs)) a)
              (never_itself eq vs (at i))

    -- it is for a choice for which an earlier one was, so nothing is new
    module _ (k : ℕ) (h : k < i) (e : at k ≡ at i) where
      again : Among (at i) (take i (choices vs))
      again = subst (λ (x : A). Among x (take i (choices vs))) e (among_place (choices vs) k i z h (omega (arith, l)))

      pub none_again : NoneYet i → NoneYet (i + 1)
      none_again n = none_on n (all_one (λ (y : A). support eq y (choices vs) ≤ f) (take i (choices vs)) n (at i) again)

      pub leads_again : (p : ℕ) → Leading i p → Leading (i + 1) p
      leads_again p b = leads_on p b (all_one (λ (y : A). ahead eq vs y (at p) ≡ false) (take i (choices vs)) b.3 (at i) again)

  module _ (eq-true : (x y : A) → eq x y ≡ true → x ≡ y) (eq_refl : (x : A) → eq x x ≡ true) (i : ℕ) (end : length (choices vs) ≤ i) where
    whole : (P : A → Type 0) → All P (take i (choices vs)) → All P (choices vs)
    whole P a = subst (All P) (take_all i (choices vs) end) a

    pub none_end : NoneYet i → winner_place eq f vs ≡ nothing
    unfolding winner_place
    none_end n =
        ap (map_found _)
        (nobody_wins eq f vs
        (λ x. at_most (support eq x (choices vs)) f
        (λ h. all_one (λ (y : A). support eq y (choices vs) ≤ f) (choices vs) (whole (λ (y : A). support eq y (choices vs) ≤ f) n) x (supported_among eq eq-true x (choices vs) h))))

    pub leads_end : (p : ℕ) → p < length (choices vs) → Leading i p → winner_place eq f vs ≡ found p
    leads_end p l b = place_is eq eq-true eq_refl f vs z p l b.1 b.2 (whole (λ (y : A). ahead eq vs y (at p) ≡ false) b.3)
