-- The terms in which the laws of the winner are said, as propositions; the winner's definition uses none of them.
use Rattle.std.specs.Prelude.{ℕ, ◌<◌, ◌≡◌, List, [], ◌∷◌, Bool, ◌⊎◌, cond, ltb}
use Rattle.lists.specs.Lists.{Found, found, nothing}
use Rattle.bincode.specs.Stands.{All}
use Rattle.winner.specs.Support.{Cast, choices, support, supporters}
use Rattle.winner.specs.Board.{Row}
use Rattle.winner.specs.BoardTerms.{Among, Lowest}

module _ {A : Type 0} (eq : A → A → Bool) (vs : List (Cast A)) where
  -- x beats y: y has "either fewer voters, or as many and a higher lowest voter"
  abbrev pub Beats : A → A → Type 0
  Beats x y =
      (support eq y (choices vs) < support eq x (choices vs))
      ⊎ ((support eq y (choices vs) ≡ support eq x (choices vs)) × ((n m : ℕ) → Lowest n (supporters eq x vs) → Lowest m (supporters eq y vs) → n < m))

  -- x wins: it passes f, and beats every other choice that a voter has
  pub record Wins (f : ℕ) (x : A) : Type 0 where
    pub passes : f < support eq x (choices vs)
    pub beats : (y : A) → (y ≡ x → ⊥) → 0 < support eq y (choices vs) → Beats x y

-- 02, CR 3: the choice of the board's first row, where its count passes f
abbrev pub first_over : {A : Type 0} → ℕ → List (Row A) → Found A
first_over f [] = nothing
first_over f (r ∷ rs) = cond (ltb f r.count) (found r.choice) nothing

-- numbers that ascend
abbrev pub Ascending : List ℕ → Type 0
Ascending [] = Unit {0}
Ascending (n ∷ ns) = All (λ (m : ℕ). n < m) ns × Ascending ns

-- 02, CR 7: the list of a choice: its voters, all of them and no other, in ascending order
pub record ListOf {A : Type 0} (eq : A → A → Bool) (vs : List (Cast A)) (x : A) (ns : List ℕ) : Type 0 where
  pub ascend : Ascending ns
  pub each : (n : ℕ) → Among n ns → Among n (supporters eq x vs)
  pub all : (n : ℕ) → Among n (supporters eq x vs) → Among n ns

-- the same elements in any order
pub data Reordered {A : Type 0} : List A → List A → Type 0 where
  none : Reordered [] []
  same : (x : A) {xs ys : List A} → Reordered xs ys → Reordered (x ∷ xs) (x ∷ ys)
  swap : (x y : A) (xs : List A) → Reordered (x ∷ y ∷ xs) (y ∷ x ∷ xs)
  then : {xs ys zs : List A} → Reordered xs ys → Reordered ys zs → Reordered xs zs
