-- Laws of lists that a test filters.
-- Assumes nothing.
use Prim.Native.Nat.{suc, ◌≤◌}
use mathlib.Core.Path.{◌≡◌, refl, ap}
use mathlib.Core.List.{List, [], ◌∷◌, ◌++◌, map}
use mathlib.Core.Bool.{Bool, true, false, cond}
use native.Mathlib.Omega.{arith}
use lib.ListN.{length}
use Rattle.lists.specs.Lists.{filter}

module _ {A : Type 0} (p : A → Bool) where
  -- two lists one after the other, filtered
  pub filter_append : (xs ys : List A) → filter p (xs ++ ys) ≡ filter p xs ++ filter p ys
  unfolding filter
  filter_append [] ys = refl
  filter_append (x ∷ xs) ys = go (p x) (filter_append xs ys)
    where
      go : (b : Bool) → filter p (xs ++ ys) ≡ filter p xs ++ filter p ys → cond b (x ∷ filter p (xs ++ ys)) (filter p (xs ++ ys)) ≡ cond b (x ∷ filter p xs) (filter p xs) ++ filter p ys
      go true e = ap (λ (zs : List A). x ∷ zs) e
      go false e = e

  -- no more are left than there were
  pub filter_length : (xs : List A) → length (filter p xs) ≤ length xs
  unfolding filter
  filter_length [] = omega arith
  filter_length (x ∷ xs) = go (p x) (filter_length xs)
    where
      go : (b : Bool) → length (filter p xs) ≤ length xs → length (cond b (x ∷ filter p xs) (filter p xs)) ≤ suc (length xs)
      go true h = omega arith
      go false h = omega arith

-- filtered by what the elements stand for
module _ {A B : Type 0} (f : A → B) (p : B → Bool) where
  pub filter_map : (xs : List A) → filter p (map f xs) ≡ map f (filter (λ x. p (f x)) xs)
  unfolding filter
  filter_map [] = refl
  filter_map (x ∷ xs) = go (p (f x)) (filter_map xs)
    where
      go : (b : Bool) → filter p (map f xs) ≡ map f (filter (λ x. p (f x)) xs)
          → cond b (f x ∷ filter p (map f xs)) (filter p (map f xs)) ≡ map f (cond b (x ∷ filter (λ x. p (f x)) xs) (filter (λ x. p (f x)) xs))
      go true e = ap (λ (ys : List B). f x ∷ ys) e
      go false e = e
