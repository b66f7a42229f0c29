-- A lent list that is filled from its first place on.
use Rattle.std.specs.Prelude.{ℕ, ◌≡◌, List, ◌++◌, cond, length, take, drop, ltb}

-- as many as there are places; places past those filled are unchanged
module _ {A : Type 0} where
  unfoldable pub filled : List A → List A → List A
  filled xs old = take (length old) xs ++ drop (length xs) old

-- the shorter of two lengths
abbrev pub shorter : ℕ → ℕ → ℕ
shorter a b = cond (ltb a b) a b

-- code says h of each value
module _ {A B : Type 0} where
  abbrev pub Says : (A → B → Type 0) → (A → B) → Type 0
  Says says h = (x : A) (y : B) → says x y → y ≡ h x
