-- An element put into a list that is sorted by a key, one step at a time, and behind elements whose keys are below its own.
-- Assumes nothing.
use Prim.Native.Nat.{ℕ, ◌+◌, ◌≤◌, ◌<◌, max}
use mathlib.Core.Path.{◌≡◌, refl, ap, ◌∙◌}
use mathlib.Core.List.{List, [], ◌∷◌, ◌++◌}
use mathlib.Core.Bool.{Bool, true, false}
use native.Mathlib.Omega.{arith}
use lib.Dec.{ltb, eqb}
use borrow.Author.Tests.{lt-ltb, le-ltb, ltb-true, ltb-false, eq-eqb, ne_eqb, eqb-true, eqb-false}
use Rattle.lists.specs.Lists.{lookup, insert, has_key}

-- how two numbers compare
pub data Order (m n : ℕ) : Type 0 where
  less : m < n → Order m n
  same : m ≡ n → Order m n
  more : n < m → Order m n

pub order : (m n : ℕ) → Order m n
order m n = go (ltb m n) refl (eqb m n) refl
  where
    go : (p : Bool) → ltb m n ≡ p → (q : Bool) → eqb m n ≡ q → Order m n
    go true e q f = less (ltb-true m n e)
    go false e true f = same (eqb-true m n f)
    go false e false f =
        let g : m ≡ n → ⊥ = eqb-false m n f in
        more (omega (arith, ltb-false m n e))

module _ {A : Type 0} (key : A → ℕ) where
  module _ (a x : A) (xs : List A) where
    pub insert_past : key x < key a → insert key a (x ∷ xs) ≡ x ∷ insert key a xs
    unfolding insert
    insert_past h = rw (lt-ltb (key x) (key a) h)

    pub insert_over : key x ≡ key a → insert key a (x ∷ xs) ≡ a ∷ xs
    unfolding insert
    insert_over e = rw (le-ltb (key x) (key a) (omega arith), eq-eqb (key x) (key a) e)

    pub insert_before : key a < key x → insert key a (x ∷ xs) ≡ a ∷ x ∷ xs
    unfolding insert
    insert_before h = rw (le-ltb (key x) (key a) (omega arith), ne_eqb (key x) (key a) (λ e. omega arith))

  -- one more than the greatest key
  abbrev pub top : List A → ℕ
  top [] = 0
  top (x ∷ xs) = max (key x + 1) (top xs)

  pub top_more : (p : List A) (a : A) → top (p ++ (a ∷ [])) ≡ max (top p) (key a + 1)
  top_more [] a = omega arith
  top_more (x ∷ p) a = let e = top_more p a in omega arith

  -- behind keys that are below
  pub insert_behind : (a : A) (p xs : List A) → top p ≤ key a → insert key a (p ++ xs) ≡ p ++ insert key a xs
  insert_behind a [] xs h = refl
  insert_behind a (x ∷ p) xs h = insert_past a x (p ++ xs) (omega arith) ∙ ap (λ (ys : List A). x ∷ ys) (insert_behind a p xs (omega arith))

  pub key_behind : (k : ℕ) (p xs : List A) → top p ≤ k → has_key key k (p ++ xs) ≡ has_key key k xs
  unfolding has_key
  key_behind k [] xs h = refl
  key_behind k (x ∷ p) xs h = rw (lt-ltb (key x) k (omega arith)) (key_behind k p xs (omega arith))

  pub lookup_behind : (k : ℕ) (p xs : List A) → top p ≤ k → lookup key (p ++ xs) k ≡ lookup key xs k
  unfolding lookup
  lookup_behind k [] xs h = refl
  lookup_behind k (x ∷ p) xs h = rw (ne_eqb (key x) k (λ e. omega arith)) (lookup_behind k p xs (omega arith))
