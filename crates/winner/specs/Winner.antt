-- 02, CR 8: of the choices that more than f voters have, the one with most voters wins, and among equals the one with the lowest supporting voter.
use Rattle.std.specs.Prelude.{ℕ, suc, List, [], ◌∷◌, Bool, cond, ltb}
use Rattle.lists.specs.Lists.{Found, found, nothing, map_found, filter}
use Rattle.winner.specs.Support.{Cast, choices, support}
use Rattle.winner.specs.Board.{is_before, row_for}

-- over any kind of choice with an equality test
module _ {A : Type 0} (eq : A → A → Bool) where
  -- the choices that more than f voters have, one for each of those voters
  unfoldable pub passing : ℕ → List (Cast A) → List A
  passing f vs = filter (λ x. ltb f (support eq x (choices vs))) (choices vs)

  module _ (vs : List (Cast A)) where
    -- a choice is ahead of another: it has more voters, or as many and a lower one than all of the other's
    abbrev pub ahead : A → A → Bool
    ahead x y = is_before (λ r. r.count) (λ r. r.lowest) (row_for eq vs x) (row_for eq vs y)

    -- the one that is ahead: x, unless one of the others is ahead of it
    unfoldable pub foremost : A → List A → A
    foremost x [] = x
    foremost x (y ∷ ys) = foremost (cond (ahead y x) y x) ys

    abbrev pub foremost_of : List A → Found A
    foremost_of [] = nothing
    foremost_of (x ∷ xs) = found (foremost x xs)

  -- who wins, nobody where no choice passes f
  unfoldable pub winner : ℕ → List (Cast A) → Found A
  winner f vs = foremost_of vs (passing f vs)

  -- the first place of a choice, 0 first
  unfoldable pub place_of : A → List A → ℕ
  place_of x [] = 0
  place_of x (y ∷ ys) = cond (eq y x) 0 (suc (place_of x ys))

  -- the place of the winner's lowest voter: the first that has it, since votes stand by ascending voter
  unfoldable pub winner_place : ℕ → List (Cast A) → Found ℕ
  winner_place f vs = map_found (λ x. place_of x (choices vs)) (winner f vs)
