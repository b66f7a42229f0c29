-- Laws of arrays whose taken places are a list by ascending place.
-- Assumes nothing.
use Prim.Native.Nat.{ℕ, zero, suc, ◌+◌, ◌≤◌, ◌<◌}
use mathlib.Core.Path.{◌≡◌, refl, sym, ap, ◌∙◌}
use mathlib.Core.List.{List, [], ◌∷◌}
use mathlib.Core.Bool.{Bool, true, false, cond}
use native.Mathlib.Omega.{arith}
use native.Mathlib.Nat.{add-zero}
use lib.ListN.{length, get_or, set, replicate}
use borrow.Author.Tests.{lt-ltb, le-ltb, eq-eqb, ne_eqb}
use Rattle.std.specs.Prelude.{fold, Some, None}
use Rattle.std.specs.declared.option.Option.{Option}
use Rattle.lists.specs.Lists.{found, nothing, lookup, insert, present, filter, option_as_found}

-- nothing stands in an empty array
pub none_present : {A B : Type 0} (view : ℕ → A → B) (n i : ℕ) → present view i (replicate n None) ≡ []
unfolding present
none_present view zero i = refl
none_present view (suc n) i = none_present view n (suc i)

module _ {A B : Type 0} (view : ℕ → A → B) (key : B → ℕ) (keyed : (i : ℕ) (x : A) → key (view i x) ≡ i) where
  -- no place before the first
  lookup_low : (xs : List (Option A)) (i j : ℕ) → j < i → lookup key (present view i xs) j ≡ nothing
  unfolding present lookup
  lookup_low [] i j h = refl
  lookup_low (Some x ∷ xs) i j h = rw (keyed i x, ne_eqb i j (λ q. let z : ⊥ = omega arith in z)) (lookup_low xs (suc i) j (omega arith))
  lookup_low (None ∷ xs) i j h = lookup_low xs (suc i) j (omega arith)

  insert_low : (xs : List (Option A)) (i : ℕ) (b : B) → key b < i → insert key b (present view i xs) ≡ b ∷ present view i xs
  unfolding present insert
  insert_low [] i b h = refl
  insert_low (Some x ∷ xs) i b h = rw (keyed i x, le-ltb i (key b) (omega arith), ne_eqb i (key b) (λ q. let z : ⊥ = omega arith in z)) refl
  insert_low (None ∷ xs) i b h = insert_low xs (suc i) b (omega arith)

  -- what stands at a place; nothing past the last
  pub present_lookup : (xs : List (Option A)) (i k j : ℕ) → j ≡ i + k → lookup key (present view i xs) j ≡ option_as_found (view j) (get_or xs k None)
  unfolding present lookup
  present_lookup [] i k j h = refl
  present_lookup (Some x ∷ xs) i zero j h =
      let e : i ≡ j = omega arith in
      rw (keyed i x, eq-eqb i j e) (ap (λ (n : ℕ). found (view n x)) e)
  present_lookup (None ∷ xs) i zero j h = lookup_low xs (suc i) j (omega arith)
  present_lookup (Some x ∷ xs) i (suc k) j h = rw (keyed i x, ne_eqb i j (λ q. let z : ⊥ = omega arith in z)) (present_lookup xs (suc i) k j (omega arith))
  present_lookup (None ∷ xs) i (suc k) j h = present_lookup xs (suc i) k j (omega arith)

  -- an element stored at a place
  pub present_set : (xs : List (Option A)) (i k j : ℕ) (a : A) → j ≡ i + k → k < length xs → present view i (set xs k (Some a)) ≡ insert key (view j a) (present view i xs)
  unfolding present insert
  present_set [] i k j a h l = absurd (let y : ⊥ = omega arith in y)
  present_set (Some x ∷ xs) i zero j a h l =
      let e : i ≡ j = omega arith in
      rw (keyed i x, keyed j a, le-ltb i j (omega arith), eq-eqb i j e) (ap (λ (n : ℕ). view n a ∷ present view (suc i) xs) e)
  present_set (None ∷ xs) i zero j a h l =
      let e : i ≡ j = omega arith in
      ap (λ (n : ℕ). view n a ∷ present view (suc i) xs) e ∙ sym (insert_low xs (suc i) (view j a) (rw (keyed j a) (omega arith)))
  present_set (Some x ∷ xs) i (suc k) j a h l = rw (keyed i x, keyed j a, lt-ltb i j (omega arith)) (ap (λ (ys : List B). view i x ∷ ys) (present_set xs (suc i) k j a (omega arith) (omega arith)))
  present_set (None ∷ xs) i (suc k) j a h l = present_set xs (suc i) k j a (omega arith) (omega arith)

module _ {A B : Type 0} (view : ℕ → A → B) (p : B → Bool) (test : Option A → Bool) (none : test None ≡ false) (some : (i : ℕ) (x : A) → test (Some x) ≡ p (view i x)) where
  -- what a chain counts from a on: those of which the test holds
  pub present_counted : (xs : List (Option A)) (i a : ℕ) → fold (λ n x. n + cond (test x) 1 0) a xs ≡ a + length (filter p (present view i xs))
  unfolding present filter
  present_counted [] i a = omega arith
  present_counted (None ∷ xs) i a = rw (none, add-zero) (present_counted xs (suc i) a)
  present_counted (Some x ∷ xs) i a = rw (some i x) (go (p (view i x)) (present_counted xs (suc i) (a + cond (p (view i x)) 1 0)))
    where
      go : (b : Bool) {n : ℕ} → n ≡ a + cond b 1 0 + length (filter p (present view (suc i) xs)) → n ≡ a + length (cond b (view i x ∷ filter p (present view (suc i) xs)) (filter p (present view (suc i) xs)))
      go true e = omega (arith, e)
      go false e = omega (arith, e)

  pub present_within : (xs : List (Option A)) (i : ℕ) → length (filter p (present view i xs)) ≤ length xs
  unfolding present filter
  present_within [] i = omega arith
  present_within (None ∷ xs) i = omega (arith, present_within xs (suc i))
  present_within (Some x ∷ xs) i = go (p (view i x)) (present_within xs (suc i))
    where
      go : (b : Bool) → length (filter p (present view (suc i) xs)) ≤ length xs → length (cond b (view i x ∷ filter p (present view (suc i) xs)) (filter p (present view (suc i) xs))) ≤ suc (length xs)
      go true e = omega arith
      go false e = omega arith
