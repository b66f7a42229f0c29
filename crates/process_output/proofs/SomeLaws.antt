-- Whether a test holds of some element, as `any` answers it.
-- Assumes nothing.
use mathlib.Core.Path.{◌≡◌, refl, ap}
use mathlib.Core.List.{List, [], ◌∷◌}
use mathlib.Core.Bool.{Bool, ◌||◌}
use Rattle.std.specs.List.{list_any}
use Rattle.process_output.specs.Refusals.{some}

pub some_any : {A : Type 0} (p : A → Bool) (xs : List A) → list_any p xs ≡ some p xs
unfolding some
some_any p [] = refl
some_any p (x ∷ xs) = ap (λ (b : Bool). p x || b) (some_any p xs)
