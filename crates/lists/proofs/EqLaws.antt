-- `==` of slices is equality place by place.
-- Assumes nothing.
use mathlib.Core.Path.{◌≡◌, refl}
use mathlib.Core.List.{List, [], ◌∷◌}
use mathlib.Core.Bool.{Bool, ◌&&◌}
use lib.Pointwise.{pointwise}
use Rattle.lists.specs.Lists.{eq_list}

-- where `==` of elements is what a definition calls the same
module _ {A : Type 0} (eq same : A → A → Bool) (each : (x y : A) → eq x y ≡ same x y) where
  pub eq_slices : (xs ys : List A) → pointwise eq xs ys ≡ eq_list same xs ys
  unfolding eq_list
  eq_slices [] [] = refl
  eq_slices [] (y ∷ ys) = refl
  eq_slices (x ∷ xs) [] = refl
  eq_slices (x ∷ xs) (y ∷ ys) = λ i. each x y i && eq_slices xs ys i

-- and where it is `==` itself
module _ {A : Type 0} (eq : A → A → Bool) where
  pub pointwise_list : (xs ys : List A) → pointwise eq xs ys ≡ eq_list eq xs ys
  pointwise_list = eq_slices eq eq (λ x y. refl)
