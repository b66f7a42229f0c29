-- Rows 2 and 3 by their cause: a row about reading holds exactly where a cause with its number is in the bytes; and the first of rows about inputs that are looked
-- at one after the other has the number of a cause of the first input that has one.
-- Assumes nothing.
use Prim.Native.Nat.{ℕ, ◌≤◌, ◌<◌}
use mathlib.Core.Path.{◌≡◌, refl, sym, ap, ◌∙◌}
use mathlib.Core.Logic.{◌⊎◌, inl, inr, ◌↔◌}
use mathlib.Core.List.{List, [], ◌∷◌}
use mathlib.Core.Bool.{Bool, true, false, cond}
use native.Mathlib.Omega.{arith}
use lib.Dec.{eqb}
use borrow.Author.Tests.{eqb-true, eqb-false, eq-eqb}
use Rattle.lists.specs.Lists.{Found, found}
use Rattle.bincode.specs.Read.{Read, value, refuse}
use Rattle.bincode.specs.Stands.{Bytes, All}
use Rattle.bincode.specs.Causes.{Cause, key_zero, cause_number, Caused}
use Rattle.bincode.proofs.ReadLaws.{clash}
use Rattle.refusals.specs.Table.{Row, row, first_row, reads_to}
use Rattle.refusals.specs.Causes.{Causing, By, NoCause, Then, in_first, in_next, KeyWrong}
use Rattle.refusals.proofs.FirstRow.{never}

-- a row about reading holds exactly where a cause with its number is in the bytes
module _ {A : Type 0} {s : List ℕ} {W : Causing} where
  pub row_caused : (x : Read A) → Caused s x W → Bytes s → (n : ℕ) → (reads_to n x ≡ true) ↔ By n W
  row_caused x k b n = (to x refl, λ w. rw (k.refuses w.0 w.1) (eq-eqb (cause_number w.0) n w.2))
    where
      to : (y : Read A) → x ≡ y → reads_to n y ≡ true → By n W
      to (value a d) e p = let z : ◌≡◌ {A = ℕ} 0 1 = ap (λ (t : Bool). cond t 1 0) p in absurd (let y : ⊥ = omega arith in y)
      to (refuse m) e p = k.cause b n (e ∙ ap refuse (eqb-true m n p))

-- The first row that holds. What comes behind a row is asked for where the row does not hold.
module _ (n : ℕ) where
  -- reading, which refuses with 2 or 3
  pub read_rows : {A : Type 0} {s : List ℕ} {W X : Causing} (x : Read A) → Caused s x W → ((i : ℕ) → x ≡ refuse i → (i ≡ 2) ⊎ (i ≡ 3)) → Bytes s
      → (rs : List Row) → (first_row rs ≡ found n) ↔ By n X
      → (first_row (row 2 (reads_to 2 x) ∷ row 3 (reads_to 3 x) ∷ rs) ≡ found n) ↔ By n (Then W X)
  unfolding first_row
  read_rows {A} {s} {W} {X} (value a d) k two_or_three b rs r = (λ e. let w = r.0 e in (w.0, in_next none w.1, w.2), λ w. r.1 (w.0, from w.0 w.1, w.2))
    where
      none : (c : Cause) → W c → ⊥
      none c w = clash (value a d) refl (k.refuses c w)

      from : (c : Cause) → Then W X c → X c
      from c (in_first w) = absurd (none c w)
      from c (in_next no-w w) = w
  read_rows {A} {s} {W} {X} (refuse m) k two_or_three b rs r = (λ e. to (sym (answer m here) ∙ e), λ w. answer m here ∙ ap found (from w.0 w.1 ∙ w.2))
    where
      here : By m W
      here = k.cause b m refl

      answer : (i : ℕ) → By i W → first_row (row 2 (eqb i 2) ∷ row 3 (eqb i 3) ∷ rs) ≡ found i
      answer i w = go (two_or_three i (k.refuses w.0 w.1 ∙ ap refuse w.2))
        where
          go : (i ≡ 2) ⊎ (i ≡ 3) → first_row (row 2 (eqb i 2) ∷ row 3 (eqb i 3) ∷ rs) ≡ found i
          go (inl q) = rw q
          go (inr q) = rw q

      to : found m ≡ found n → By n (Then W X)
      to e = let q : m ≡ n = cc in (here.0, in_first here.1, here.2 ∙ q)

      from : (c : Cause) → Then W X c → m ≡ cause_number c
      from c (in_first w) = let e = k.refuses c w in cc
      from c (in_next no-w w) = absurd (no-w here.0 here.1)

  -- key 0
  pub key_rows : {X : Causing} (key : ℕ) (rs : List Row) → (first_row rs ≡ found n) ↔ By n X → (first_row (row 2 (eqb key 0) ∷ rs) ≡ found n) ↔ By n (Then (KeyWrong key) X)
  unfolding first_row
  key_rows {X} key rs r = go (eqb key 0) refl
    where
      zero : eqb key 0 ≡ true → (c : Cause) → Then (KeyWrong key) X c → cause_number c ≡ n → found 2 ≡ found n
      zero e c (in_first w) q = ap found (ap cause_number (sym w.1) ∙ q)
      zero e c (in_next no-w w) q = absurd (no-w key_zero (eqb-true key 0 e, refl))

      other : eqb key 0 ≡ false → (c : Cause) → Then (KeyWrong key) X c → X c
      other e c (in_first w) = absurd (eqb-false key 0 e w.0)
      other e c (in_next no-w w) = w

      go : (t : Bool) → eqb key 0 ≡ t → (cond t (found 2) (first_row rs) ≡ found n) ↔ By n (Then (KeyWrong key) X)
      go true e = (λ p. let q : 2 ≡ n = cc in (key_zero, in_first (eqb-true key 0 e, refl), q), λ w. zero e w.0 w.1 w.2)
      go false e =
          (λ p. let w = r.0 p in (w.0, in_next (λ c k. eqb-false key 0 e k.0) w.1, w.2), λ w. r.1 (w.0, other e w.0 w.1, w.2))

  -- rows with higher numbers have no cause
  pub higher_rows : n ≤ 3 → (rs : List Row) → All (λ (r : Row). 3 < r.number) rs → (first_row rs ≡ found n) ↔ By n NoCause
  unfolding first_row
  higher_rows l rs h = (λ e. absurd (go rs h e), λ w. absurd w.1)
    where
      go : (rs : List Row) → All (λ (r : Row). 3 < r.number) rs → first_row rs ≡ found n → ⊥
      go [] h e = never e
      go (r ∷ rs) h e = pick r.holds (go rs h.1) e
        where
          pick : (t : Bool) → (first_row rs ≡ found n → ⊥) → cond t (found r.number) (first_row rs) ≡ found n → ⊥
          pick true rest p = let q : r.number ≡ n = cc in omega (arith, h.0)
          pick false rest p = rest p

  -- nothing is looked at behind the last input
  pub last_rows : {W : Causing} {P : Type 0} → P ↔ By n (Then W NoCause) → P ↔ By n W
  last_rows {W} r = (λ p. let w = r.0 p in (w.0, from w.0 w.1, w.2), λ w. r.1 (w.0, in_first w.1, w.2))
    where
      from : (c : Cause) → Then W NoCause c → W c
      from c (in_first w) = w
      from c (in_next no-w w) = absurd w

  -- a row that does not hold is passed over
  pub passed_row : {W : Causing} (k : ℕ) (b : Bool) → b ≡ false → (rs : List Row) → (first_row rs ≡ found n) ↔ By n W → (first_row (row k b ∷ rs) ≡ found n) ↔ By n W
  unfolding first_row
  passed_row k b e rs r = rw e r

  -- an answer that its rows give
  pub by_rows : {P : Type 0} {x y : Found ℕ} → x ≡ y → (y ≡ found n) ↔ P → (x ≡ found n) ↔ P
  by_rows q r = (λ e. r.0 (sym q ∙ e), λ p. q ∙ r.1 p)
