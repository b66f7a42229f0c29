-- The values of a list as code holds it, and what is left of a value that comes to a full one.
use Rattle.std.specs.Prelude.{ℕ, ◌≡◌, List, [], ◌∷◌, ◌++◌, Bool, not, ◌&&◌, take, drop, length, cond, ltb}
use Rattle.array_list.specs.declared.ArrayList.{ArrayList}

module _ {T : Type 0} {N : ℕ} where
  -- those below the count, as far as the array reaches
  abbrev pub items_in : ArrayList T N → List T
  items_in l = take l.count l.items

module _ {T : Type 0} where
  -- a value behind the others, where there is room
  unfoldable pub pushed : ℕ → T → List T → List T
  pushed limit x xs = cond (ltb (length xs) limit) (xs ++ x ∷ []) xs

  -- a value at a place, those from there on behind it, where there is such a place and room
  unfoldable pub put_at : ℕ → ℕ → T → List T → List T
  put_at limit at x xs = cond (ltb (length xs) limit && not (ltb (length xs) at)) (take at xs ++ x ∷ drop at xs) xs

  -- a test that code makes decides as p does
  abbrev pub Decides : (T → Bool → Type 0) → (T → Bool) → Type 0
  Decides says p = (x : T) (r : Bool) → says x r → r ≡ p x
