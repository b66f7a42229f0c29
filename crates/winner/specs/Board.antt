-- 02, CR 3: the board. One row for each choice that a voter has, with the number of its voters; largest number first, equal numbers by lowest supporting voter.
use Rattle.std.specs.Prelude.{ℕ, ◌+◌, List, [], ◌∷◌, ◌++◌, map, Bool, true, false, cond, ltb, eqb}
use Rattle.winner.specs.Support.{Cast, choices, support, lowest}

-- a row of the board: a choice, how many voters have it, and the lowest of them
pub record Row (A : Type 0) : Type 0 where
  pub choice : A
  pub count : ℕ
  pub lowest : ℕ

-- numbers added up
abbrev pub sum : List ℕ → ℕ
sum [] = 0
sum (n ∷ ns) = n + sum ns

-- the order of rows, whatever else a row holds
module _ {R : Type 0} (count lowest : R → ℕ) where
  -- a row stands before another: a larger count, or an equal one and a lower voter
  abbrev pub is_before : R → R → Bool
  is_before r q = cond (ltb (count q) (count r)) true (cond (eqb (count q) (count r)) (ltb (lowest r) (lowest q)) false)

  -- a row put before the first that it stands before
  unfoldable pub placed : R → List R → List R
  placed r [] = r ∷ []
  placed r (q ∷ qs) = cond (is_before r q) (r ∷ q ∷ qs) (q ∷ placed r qs)

  -- rows put in one after the other, behind those that are in
  unfoldable pub in_order : List R → List R → List R
  in_order done [] = done
  in_order done (r ∷ rs) = in_order (placed r done) rs

-- over any kind of choice with an equality test
module _ {A : Type 0} (eq : A → A → Bool) where
  -- each choice once: where nobody before has it
  unfoldable pub first_choices : List A → List A → List A
  first_choices seen [] = []
  first_choices seen (x ∷ xs) = cond (eqb (support eq x seen) 0) (x ∷ first_choices (seen ++ (x ∷ [])) xs) (first_choices (seen ++ (x ∷ [])) xs)

  -- the row of a choice
  abbrev pub row_for : List (Cast A) → A → Row A
  row_for vs x = record { choice = x; count = support eq x (choices vs); lowest = lowest eq x vs }

  -- the board of some votes: the rows of all choices, in order
  unfoldable pub board : List (Cast A) → List (Row A)
  board vs = in_order (λ r. r.count) (λ r. r.lowest) [] (map (row_for vs) (first_choices [] (choices vs)))
