-- The terms in which the laws of the board are said, as propositions; the board's definition uses none of them.
use Rattle.std.specs.Prelude.{ℕ, ◌≤◌, ◌<◌, ◌≡◌, List, [], ◌∷◌, Bool, ◌⊎◌}
use Rattle.bincode.specs.Stands.{All}
use Rattle.winner.specs.Support.{support, Cast, choices, supporters}
use Rattle.winner.specs.Board.{Row}

-- x is one of a list
abbrev pub Among : {A : Type 0} → A → List A → Type 0
Among x [] = ⊥
Among x (y ∷ ys) = (x ≡ y) ⊎ Among x ys

-- no number stands twice
abbrev pub Unrepeated : List ℕ → Type 0
Unrepeated [] = Unit {0}
Unrepeated (n ∷ ns) = (Among n ns → ⊥) × Unrepeated ns

-- n is the lowest of some numbers
abbrev pub Lowest : ℕ → List ℕ → Type 0
Lowest n ns = Among n ns × All (λ (m : ℕ). n ≤ m) ns

module _ {A : Type 0} where
  -- a row stands before another: a larger count, or an equal one and a lower voter
  abbrev pub Before : Row A → Row A → Type 0
  Before r q = (q.count < r.count) ⊎ ((q.count ≡ r.count) × (r.lowest < q.lowest))

  -- each row stands before all that are behind it
  abbrev pub Ordered : List (Row A) → Type 0
  Ordered [] = Unit {0}
  Ordered (r ∷ rs) = All (Before r) rs × Ordered rs

module _ {A : Type 0} (eq : A → A → Bool) (vs : List (Cast A)) where
  -- a row of the votes: its choice has a voter, its count is the number of those that have it, and its voter the lowest of them
  pub record RowOf (r : Row A) : Type 0 where
    pub some : 0 < r.count
    pub counts : r.count ≡ support eq r.choice (choices vs)
    pub least_voter : Lowest r.lowest (supporters eq r.choice vs)

  -- the rows of the votes: one for each choice that a voter has, and none for another
  pub record RowsOf (rs : List (Row A)) : Type 0 where
    pub each : (x : A) → 0 < support eq x (choices vs) → (r : Row A) × (r.choice ≡ x) × Among r rs
    pub only : All (RowOf) rs

  -- the board of the votes, as 02 says it
  pub record IsBoard (rs : List (Row A)) : Type 0 where
    pub rows : RowsOf rs
    pub ordered : Ordered rs
