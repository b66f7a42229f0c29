-- Laws of what the elements of an array below a count stand for.
-- Assumes nothing.
use Prim.Native.Nat.{ℕ, zero, suc, ◌<◌}
use mathlib.Core.Path.{◌≡◌, refl, ap, ◌∙◌}
use mathlib.Core.List.{List, [], ◌∷◌, map}
use native.Mathlib.Omega.{arith}
use lib.ListN.{length, take, get_or, length-take, length-map}
use lib.Seq.{get_or-take}

module _ {A B : Type 0} (f : A → B) (xs : List A) (n i : ℕ) (l : i < length (map f (take n xs))) where
  -- the place lies below the count and in the array
  pub place_within : (i < n) × (i < length xs)
  place_within = (omega (arith, length-map (take n xs) f, length-take n xs), omega (arith, length-map (take n xs) f, length-take n xs))

  -- the one at a place, whatever the default
  pub view_at : (z : A) (y : B) → get_or (map f (take n xs)) i y ≡ f (get_or xs i z)
  view_at z y = other (take n xs) i (omega (arith, length-map (take n xs) f)) ∙ ap f (get_or-take n xs i z place_within.0)
    where
      other : (ys : List A) (k : ℕ) → k < length ys → get_or (map f ys) k y ≡ f (get_or ys k z)
      other [] k h = absurd (let w : ⊥ = omega arith in w)
      other (x ∷ ys) zero h = refl
      other (x ∷ ys) (suc k) h = other ys k (omega arith)
