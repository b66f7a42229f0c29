-- Voters with their choices: how many have a choice, who they are, and the lowest of them.
use Rattle.std.specs.Prelude.{ℕ, ◌+◌, min, List, [], ◌∷◌, map, Bool, cond}

-- a voter and its choice
pub record Cast (A : Type 0) : Type 0 where
  pub voter : ℕ
  pub choice : A

module _ {A : Type 0} where
  abbrev pub choices : List (Cast A) → List A
  choices vs = map (λ v. v.choice) vs

  abbrev pub voters : List (Cast A) → List ℕ
  voters vs = map (λ v. v.voter) vs

-- the lowest of some numbers, 0 where there is none
abbrev pub least_with : ℕ → List ℕ → ℕ
least_with n [] = n
least_with n (m ∷ ms) = least_with (min n m) ms

abbrev pub least : List ℕ → ℕ
least [] = 0
least (n ∷ ns) = least_with n ns

-- over any kind of choice with an equality test
module _ {A : Type 0} (eq : A → A → Bool) where
  -- how many of the choices are for x
  unfoldable pub support : A → List A → ℕ
  support x [] = 0
  support x (y ∷ ys) = cond (eq y x) 1 0 + support x ys

  -- the voters that have a choice, in the order of the list
  unfoldable pub supporters : A → List (Cast A) → List ℕ
  supporters x [] = []
  supporters x (v ∷ vs) = cond (eq v.choice x) (v.voter ∷ supporters x vs) (supporters x vs)

  -- the lowest of them, 0 where there is none
  unfoldable pub lowest : A → List (Cast A) → ℕ
  lowest x vs = least (supporters x vs)
