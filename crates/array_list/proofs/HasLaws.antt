-- Whether a list that is sorted by key has one: what stands in the place of the key says it.
-- Assumes nothing.
use Prim.Native.Nat.{ℕ, suc}
use mathlib.Core.Path.{◌≡◌, refl}
use mathlib.Core.List.{List, [], ◌∷◌}
use mathlib.Core.Bool.{Bool, true, false, cond}
use lib.Dec.{ltb, eqb}
use Rattle.std.specs.Prelude.{slice_get}
use Rattle.std.specs.Option.{option_map, unwrap_or}
use Rattle.lists.specs.Lists.{below, has_key}

pub has_got : {A : Type 0} (key : A → ℕ) (k : ℕ) (xs : List A) → unwrap_or (option_map (λ x. eqb (key x) k) (slice_get xs (below key k xs))) false ≡ has_key key k xs
unfolding has_key below
has_got key k [] = refl
has_got key k (x ∷ xs) = go (ltb (key x) k) (has_got key k xs)
  where
    go : (b : Bool) → unwrap_or (option_map (λ x. eqb (key x) k) (slice_get xs (below key k xs))) false ≡ has_key key k xs
        → unwrap_or (option_map (λ x. eqb (key x) k) (slice_get (x ∷ xs) (cond b (suc (below key k xs)) 0))) false ≡ cond b (has_key key k xs) (eqb (key x) k)
    go true h = h
    go false h = refl
