-- Laws of what is handed out by place.
-- Assumes nothing.
use Prim.Native.Nat.{ℕ, zero, suc, ◌≤◌}
use mathlib.Core.Path.{◌≡◌, refl}
use mathlib.Core.List.{List, [], ◌∷◌, ◌++◌, map}
use native.Mathlib.Omega.{arith}
use lib.ListN.{length}
use Rattle.lists.specs.Lists.{found, nothing, map_found, at_place}

module _ {A : Type 0} where
  -- past the last nothing stands
  pub at_past : (xs : List A) (i : ℕ) → length xs ≤ i → at_place i xs ≡ nothing
  unfolding at_place
  at_past [] i h = refl
  at_past (x ∷ xs) zero h = absurd (let y : ⊥ = omega arith in y)
  at_past (x ∷ xs) (suc i) h = at_past xs i (omega arith)

  -- an element with as many before it as its place says
  pub at_between : (before behind : List A) (x : A) → at_place (length before) (before ++ (x ∷ behind)) ≡ found x
  unfolding at_place
  at_between [] behind x = refl
  at_between (y ∷ before) behind x = at_between before behind x

-- what the elements stand for
module _ {A B : Type 0} (f : A → B) where
  pub at_map : (n : ℕ) (xs : List A) → at_place n (map f xs) ≡ map_found f (at_place n xs)
  unfolding at_place
  at_map n [] = refl
  at_map zero (x ∷ xs) = refl
  at_map (suc n) (x ∷ xs) = at_map n xs
