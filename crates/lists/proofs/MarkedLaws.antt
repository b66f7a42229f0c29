-- Laws of arrays whose marked elements are a list by ascending place.
-- Assumes nothing.
use Prim.Native.Nat.{ℕ, zero, suc, ◌+◌, ◌≤◌, ◌<◌}
use mathlib.Core.Path.{◌≡◌, refl, sym, ap}
use mathlib.Core.List.{List, [], ◌∷◌}
use mathlib.Core.Bool.{Bool, true, false, cond}
use native.Mathlib.Omega.{arith}
use native.Mathlib.Nat.{add-zero}
use lib.ListN.{length, get_or, set}
use borrow.Author.Tests.{lt-ltb, le-ltb, eq-eqb, ne_eqb}
use Rattle.lists.specs.Lists.{found, nothing, lookup, insert, marked}

module _ {A B : Type 0} (mark : A → Bool) (view : ℕ → A → B) (key : B → ℕ) (keyed : (i : ℕ) (x : A) → key (view i x) ≡ i) where
  -- no place before the first
  lookup_low : (xs : List A) (i j : ℕ) → j < i → lookup key (marked mark view i xs) j ≡ nothing
  unfolding marked lookup
  lookup_low [] i j h = refl
  lookup_low (x ∷ xs) i j h = go (mark x) (lookup_low xs (suc i) j (omega arith))
    where
      go : (b : Bool) → lookup key (marked mark view (suc i) xs) j ≡ nothing → lookup key (cond b (view i x ∷ marked mark view (suc i) xs) (marked mark view (suc i) xs)) j ≡ nothing
      go true e = rw (keyed i x, ne_eqb i j (λ q. let z : ⊥ = omega arith in z)) e
      go false e = e

  insert_low : (xs : List A) (i : ℕ) (b : B) → key b < i → insert key b (marked mark view i xs) ≡ b ∷ marked mark view i xs
  unfolding marked insert
  insert_low [] i b h = refl
  insert_low (x ∷ xs) i b h = go (mark x) (insert_low xs (suc i) b (omega arith))
    where
      go : (t : Bool) → insert key b (marked mark view (suc i) xs) ≡ b ∷ marked mark view (suc i) xs
          → insert key b (cond t (view i x ∷ marked mark view (suc i) xs) (marked mark view (suc i) xs)) ≡ b ∷ cond t (view i x ∷ marked mark view (suc i) xs) (marked mark view (suc i) xs)
      go true e = rw (keyed i x, le-ltb i (key b) (omega arith), ne_eqb i (key b) (λ q. let z : ⊥ = omega arith in z))
      go false e = e

  -- what stands at a place
  pub marked_lookup : (xs : List A) (i k : ℕ) (z : A) → k < length xs
      → lookup key (marked mark view i xs) (i + k) ≡ cond (mark (get_or xs k z)) (found (view (i + k) (get_or xs k z))) nothing
  unfolding marked lookup
  marked_lookup [] i k z h = absurd (let y : ⊥ = omega arith in y)
  marked_lookup (x ∷ xs) i zero z h = rw add-zero (go (mark x) (lookup_low xs (suc i) i (omega arith)))
    where
      go : (b : Bool) → lookup key (marked mark view (suc i) xs) i ≡ nothing → lookup key (cond b (view i x ∷ marked mark view (suc i) xs) (marked mark view (suc i) xs)) i ≡ cond b (found (view i x)) nothing
      go true e = rw (keyed i x, eq-eqb i i refl)
      go false e = e
  marked_lookup (x ∷ xs) i (suc k) z h =
      let s : i + suc k ≡ suc i + k = omega arith in
      rw s (go (mark x) (marked_lookup xs (suc i) k z (omega arith)))
    where
      go : (b : Bool) → lookup key (marked mark view (suc i) xs) (suc i + k) ≡ cond (mark (get_or xs k z)) (found (view (suc i + k) (get_or xs k z))) nothing
          → lookup key (cond b (view i x ∷ marked mark view (suc i) xs) (marked mark view (suc i) xs)) (suc i + k) ≡ cond (mark (get_or xs k z)) (found (view (suc i + k) (get_or xs k z))) nothing
      go true e = rw (keyed i x, ne_eqb i (suc i + k) (λ q. let z : ⊥ = omega arith in z)) e
      go false e = e

  pub marked_past : (xs : List A) (i k : ℕ) → length xs ≤ k → lookup key (marked mark view i xs) (i + k) ≡ nothing
  unfolding marked lookup
  marked_past [] i k h = refl
  marked_past (x ∷ xs) i zero h = absurd (let y : ⊥ = omega arith in y)
  marked_past (x ∷ xs) i (suc k) h =
      let s : i + suc k ≡ suc i + k = omega arith in
      rw s (go (mark x) (marked_past xs (suc i) k (omega arith)))
    where
      go : (b : Bool) → lookup key (marked mark view (suc i) xs) (suc i + k) ≡ nothing
          → lookup key (cond b (view i x ∷ marked mark view (suc i) xs) (marked mark view (suc i) xs)) (suc i + k) ≡ nothing
      go true e = rw (keyed i x, ne_eqb i (suc i + k) (λ q. let z : ⊥ = omega arith in z)) e
      go false e = e

  -- a marked element stored at a place
  pub marked_set : (xs : List A) (i k : ℕ) (a : A) → k < length xs → mark a ≡ true
      → marked mark view i (set xs k a) ≡ insert key (view (i + k) a) (marked mark view i xs)
  unfolding marked insert
  marked_set [] i k a h m = absurd (let y : ⊥ = omega arith in y)
  marked_set (x ∷ xs) i zero a h m = rw (m, add-zero) (go (mark x))
    where
      go : (b : Bool) → view i a ∷ marked mark view (suc i) xs ≡ insert key (view i a) (cond b (view i x ∷ marked mark view (suc i) xs) (marked mark view (suc i) xs))
      go true = rw (keyed i x, keyed i a, le-ltb i i (omega arith), eq-eqb i i refl)
      go false = sym (insert_low xs (suc i) (view i a) (rw (keyed i a) (omega arith)))
  marked_set (x ∷ xs) i (suc k) a h m =
      let s : i + suc k ≡ suc i + k = omega arith in
      rw s (go (mark x) (marked_set xs (suc i) k a (omega arith) m))
    where
      go : (b : Bool) → marked mark view (suc i) (set xs k a) ≡ insert key (view (suc i + k) a) (marked mark view (suc i) xs)
          → cond b (view i x ∷ marked mark view (suc i) (set xs k a)) (marked mark view (suc i) (set xs k a))
          ≡ insert key (view (suc i + k) a) (cond b (view i x ∷ marked mark view (suc i) xs) (marked mark view (suc i) xs))
      go true e = rw (keyed i x, keyed (suc i + k) a, lt-ltb i (suc i + k) (omega arith)) (ap (λ (ys : List B). view i x ∷ ys) e)
      go false e = e
