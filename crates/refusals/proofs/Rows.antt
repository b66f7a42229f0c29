-- How a call's tests become the rows of its table.
-- Assumes nothing.
use Prim.Native.Nat.{ℕ}
use mathlib.Core.Path.{◌≡◌, refl, ◌∙◌}
use mathlib.Core.Logic.{◌⊎◌, inl, inr}
use mathlib.Core.List.{List, [], ◌∷◌}
use mathlib.Core.Bool.{Bool, true, false, cond}
use lib.Dec.{eqb}
use Rattle.lists.specs.Lists.{Found, found, nothing}
use Rattle.bincode.specs.Read.{Read, value, refuse}
use Rattle.agreement.proofs.ReadingLaws.{Answers}
use Rattle.refusals.specs.Table.{Row, row, first_row, reads_to}

-- a test that refuses is a row; the rows behind it are those of the other case
module _ {R : Type 0} (f : R → Found ℕ) where
  pub by_row : (n : ℕ) (b : Bool) (x y : R) (rs : List Row) → f x ≡ found n → f y ≡ first_row rs → f (cond b x y) ≡ first_row (row n b ∷ rs)
  unfolding first_row
  by_row n true x y rs p q = p
  by_row n false x y rs p q = q

-- a row without a condition refuses nothing
pub unasked_row : {x : Found ℕ} (n : ℕ) (rs : List Row) → x ≡ first_row rs → x ≡ first_row (row n false ∷ rs)
unfolding first_row
unasked_row n rs e = e

-- no row is left
pub no_row : nothing ≡ first_row []
unfolding first_row
no_row = refl

-- reading is two rows; the rows behind them are those of what was read
module _ {A : Type 0} {P : A → Type 0} (f : Read A → Found ℕ) (rs : Read A → List Row) where
  pub by_read : (x : Read A) → Answers P x → ((n : ℕ) → f (refuse n) ≡ found n) → ((a : A) (c : ℕ) → P a → f (value a c) ≡ first_row (rs (value a c)))
      → f x ≡ first_row (row 2 (reads_to 2 x) ∷ row 3 (reads_to 3 x) ∷ rs x)
  unfolding first_row
  by_read (value a c) p stop on = on a c p
  by_read (refuse n) p stop on = stop n ∙ go p
    where
      go : (n ≡ 2) ⊎ (n ≡ 3) → found n ≡ first_row (row 2 (eqb n 2) ∷ row 3 (eqb n 3) ∷ rs (refuse n))
      go (inl e) = rw e
      go (inr e) = rw e
