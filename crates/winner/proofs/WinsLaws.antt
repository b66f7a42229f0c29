-- 02, CR 8, in its own words: x wins exactly if more than f voters have it and every other choice has fewer voters, or as many and a higher lowest voter; at most one does.
-- Assumes nothing.
use Prim.Native.Nat.{ℕ, ◌<◌}
use mathlib.Core.Path.{◌≡◌, refl, sym, ap}
use mathlib.Core.List.{List}
use mathlib.Core.Bool.{Bool, true, false}
use mathlib.Core.Logic.{◌↔◌, ◌⊎◌, inl, inr, ⊎_elim}
use native.Mathlib.Omega.{arith}
use Rattle.lists.specs.Lists.{Found, found, nothing}
use Rattle.winner.specs.Support.{Cast, choices, voters, support, supporters, lowest}
use Rattle.winner.specs.Board.{row_for}
use Rattle.winner.specs.BoardTerms.{Among, Unrepeated, Before}
use Rattle.winner.specs.Winner.{ahead, winner}
use Rattle.winner.specs.WinnerTerms.{Beats, Wins}
use Rattle.winner.proofs.AmongLaws.{lowest_one}
use Rattle.winner.proofs.SupporterLaws.{lowest_supporter}
use Rattle.winner.proofs.SupportLaws.{supported_among, same_or_other, other_not}
use Rattle.winner.proofs.AheadLaws.{no_ahead}
use Rattle.winner.proofs.BoardRows.{row_counts}
use Rattle.winner.proofs.BoardLaws.{rows_apart}
use Rattle.winner.proofs.WinnerLaws.{winner_passes, winner_none}

module _ {A : Type 0} (eq : A → A → Bool) (eq-true : (x y : A) → eq x y ≡ true → x ≡ y) (eq_refl : (x : A) → eq x x ≡ true) (vs : List (Cast A)) where
  -- a row that stands before another beats it
  pub before_beats : (x y : A) → 0 < support eq x (choices vs) → 0 < support eq y (choices vs) → Before (row_for eq vs x) (row_for eq vs y) → Beats eq vs x y
  before_beats x y h k (inl b) = inl (omega (arith, b, row_counts eq vs x, row_counts eq vs y))
  before_beats x y h k (inr b) = inr (
    omega (arith, b.0, row_counts eq vs x, row_counts eq vs y),
    λ n m l o.
        let p = lowest_one n (lowest eq x vs) (supporters eq x vs) l (lowest_supporter eq x vs h) in
        let q = lowest_one m (lowest eq y vs) (supporters eq y vs) o (lowest_supporter eq y vs k) in
        omega (arith, p, q, b.1),
  )

  -- no two beat each other
  beats_once : (x y : A) → 0 < support eq x (choices vs) → 0 < support eq y (choices vs) → Beats eq vs x y → Beats eq vs y x → ⊥
  beats_once x y h k (inl b) (inl c) = omega arith
  beats_once x y h k (inl b) (inr c) = omega (arith, c.0)
  beats_once x y h k (inr b) (inl c) = omega (arith, b.0)
  beats_once x y h k (inr b) (inr c) =
      let i = lowest_supporter eq x vs h in
      let j = lowest_supporter eq y vs k in
      omega (arith, b.1 (lowest eq x vs) (lowest eq y vs) i j, c.1 (lowest eq y vs) (lowest eq x vs) j i)

  module _ (f : ℕ) where
    -- at most one choice wins
    pub wins_once : (x y : A) → Wins eq vs f x → Wins eq vs f y → x ≡ y
    wins_once x y w u = ⊎_elim (λ e. e) (λ n. absurd (clash (other_not eq eq-true eq_refl x y n))) (same_or_other eq eq-true eq_refl x y)
      where
        clash : (x ≡ y → ⊥) → ⊥
        clash n =
            let h : 0 < support eq x (choices vs) = omega (arith, w.passes) in
            let k : 0 < support eq y (choices vs) = omega (arith, u.passes) in
            beats_once x y h k (w.beats y (λ e. n (sym e)) k) (u.beats x n h)

    module _ (apart : Unrepeated (voters vs)) where
      winner_wins : (x : A) → winner eq f vs ≡ found x → Wins eq vs f x
      winner_wins x e = record { passes = w.0; beats = λ y n h. beaten y n h }
        where
          w : (f < support eq x (choices vs)) × Among x (choices vs) × ((y : A) → Among y (choices vs) → ahead eq vs y x ≡ false)
          w = winner_passes eq f vs x e

          beaten : (y : A) → (y ≡ x → ⊥) → 0 < support eq y (choices vs) → Beats eq vs x y
          beaten y n h =
              let k : 0 < support eq x (choices vs) = omega (arith, w.0) in
              ⊎_elim (λ q. absurd (n (sym q)))
              (λ q. ⊎_elim (before_beats x y k h) (λ b. absurd (no_ahead eq vs y x (w.2 y (supported_among eq eq-true y (choices vs) h)) b)) (rows_apart eq eq-true eq_refl vs apart x y k h q))
              (same_or_other eq eq-true eq_refl x y)

      -- where no voter is repeated, for every f
      pub winner_exactly : (x : A) → (winner eq f vs ≡ found x) ↔ Wins eq vs f x
      winner_exactly x = (winner_wins x, back)
        where
          back : Wins eq vs f x → winner eq f vs ≡ found x
          back w = go (winner eq f vs) refl
            where
              go : (r : Found A) → winner eq f vs ≡ r → r ≡ found x
              go (found z) e = ap found (wins_once z x (winner_wins z e) w)
              go nothing e = absurd (let l = (winner_none eq f vs eq-true).0 e x in let p = w.passes in let y : ⊥ = omega arith in y)

      -- somebody wins, or no choice passes f
      pub wins_or_none : ((x : A) × Wins eq vs f x) ⊎ ((x : A) → f < support eq x (choices vs) → ⊥)
      wins_or_none = go (winner eq f vs) refl
        where
          go : (r : Found A) → winner eq f vs ≡ r → ((x : A) × Wins eq vs f x) ⊎ ((x : A) → f < support eq x (choices vs) → ⊥)
          go (found x) e = inl (x, winner_wins x e)
          go nothing e = inr (λ x h. let l = (winner_none eq f vs eq-true).0 e x in let y : ⊥ = omega arith in y)
