-- 02, CR 3 and CR 8: the winner is the choice of the board's first row, where its count passes f; else nobody wins.
-- Assumes nothing.
use Prim.Native.Nat.{ℕ, ◌≤◌, ◌<◌}
use mathlib.Core.Path.{◌≡◌, refl, ap, subst}
use mathlib.Core.List.{List, [], ◌∷◌}
use mathlib.Core.Bool.{Bool, true, false, cond}
use mathlib.Core.Logic.{◌⊎◌, inl, inr, ⊎_elim}
use native.Mathlib.Omega.{arith}
use lib.Dec.{ltb}
use borrow.Author.Tests.{ltb-true, ltb-false}
use Rattle.bincode.specs.Stands.{All}
use Rattle.lists.specs.Lists.{found, nothing}
use Rattle.winner.specs.Support.{Cast, choices, voters, support}
use Rattle.winner.specs.Board.{Row, row_for, board}
use Rattle.winner.specs.BoardTerms.{Among, Unrepeated, Before, RowOf}
use Rattle.winner.specs.Winner.{winner}
use Rattle.winner.specs.WinnerTerms.{Beats, Wins, first_over}
use Rattle.winner.proofs.SupportLaws.{at_most}
use Rattle.winner.proofs.BoardRows.{row_for_of, row_one, row_supported}
use Rattle.winner.proofs.BoardLaws.{board_rows, first_greatest}
use Rattle.winner.proofs.WinnerLaws.{nobody_wins}
use Rattle.winner.proofs.WinsLaws.{before_beats, winner_exactly}

module _ {A : Type 0} (eq : A → A → Bool) (eq-true : (x y : A) → eq x y ≡ true → x ≡ y) (eq_refl : (x : A) → eq x x ≡ true) (f : ℕ) (vs : List (Cast A)) (apart : Unrepeated (voters vs)) where
  -- without rows there is no choice
  no_rows : board eq vs ≡ [] → winner eq f vs ≡ nothing
  no_rows e = nobody_wins eq f vs (λ x. at_most (support eq x (choices vs)) f (λ h. absurd (none x h)))
    where
      none : (x : A) → 0 < support eq x (choices vs) → ⊥
      none x h = let r = (board_rows eq eq-true eq_refl vs).each x h in subst (Among r.0) e r.2

  module _ (r : Row A) (rs : List (Row A)) (e : board eq vs ≡ r ∷ rs) where
    own : RowOf eq vs r
    own = (subst (λ (qs : List (Row A)). All (RowOf eq vs) qs) e (board_rows eq eq-true eq_refl vs).only).0

    counted : r.count ≡ support eq r.choice (choices vs)
    counted = own.counts

    is_row : r ≡ row_for eq vs r.choice
    is_row = row_one eq vs r (row_for eq vs r.choice) own (row_for_of eq vs r.choice (row_supported eq vs r own)) refl

    -- the first row's choice beats every other
    first_wins : f < r.count → Wins eq vs f r.choice
    first_wins h = record { passes = omega (arith, counted); beats = λ y n k. beaten y n k }
      where
        beaten : (y : A) → (y ≡ r.choice → ⊥) → 0 < support eq y (choices vs) → Beats eq vs r.choice y
        beaten y n k =
            ⊎_elim (λ q. absurd (n q))
            (λ b. before_beats eq eq-true eq_refl vs r.choice y (row_supported eq vs r own) k (subst (λ (q : Row A). Before q (row_for eq vs y)) is_row b))
            (first_greatest eq eq-true eq_refl vs apart r rs e y k)

    -- and where it does not pass f none does
    none_over : r.count ≤ f → (x : A) → support eq x (choices vs) ≤ f
    none_over h x = at_most (support eq x (choices vs)) f (λ k. no_larger (first_greatest eq eq-true eq_refl vs apart r rs e x k))
      where
        no_larger : (x ≡ r.choice) ⊎ Before r (row_for eq vs x) → support eq x (choices vs) ≤ f
        no_larger (inl q) = let p = ap (λ (y : A). support eq y (choices vs)) q in omega (arith, counted, h, p)
        no_larger (inr (inl b)) = omega (arith, h, b)
        no_larger (inr (inr b)) = omega (arith, h, b.0)

  pub winner_first_row : winner eq f vs ≡ first_over f (board eq vs)
  winner_first_row = go (board eq vs) refl
    where
      go : (qs : List (Row A)) → board eq vs ≡ qs → winner eq f vs ≡ first_over f qs
      go [] e = no_rows e
      go (r ∷ rs) e = test (ltb f r.count) refl
        where
          test : (b : Bool) → ltb f r.count ≡ b → winner eq f vs ≡ cond b (found r.choice) nothing
          test true t = (winner_exactly eq eq-true eq_refl vs f apart r.choice).1 (first_wins r rs e (ltb-true f r.count t))
          test false t = nobody_wins eq f vs (none_over r rs e (ltb-false f r.count t))
