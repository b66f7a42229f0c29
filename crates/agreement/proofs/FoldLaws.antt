-- Folds whose work grows by no more than the items weigh.
-- Assumes nothing.
use Prim.Native.Nat.{ℕ, ◌+◌, ◌≤◌}
use mathlib.Core.Path.{◌≡◌, refl, ap, ◌∙◌}
use mathlib.Core.List.{List, [], ◌∷◌}
use native.Mathlib.Omega.{arith}
use lib.ListN.{length}
use Rattle.bincode.specs.Items.{foldl}

-- what the items of a list weigh together
module _ {A : Type 0} (weight : A → ℕ) where
  abbrev pub total : List A → ℕ
  total [] = 0
  total (x ∷ xs) = weight x + total xs

module _ {A : Type 0} where
  pub total_one : (xs : List A) → total (λ x. 1) xs ≡ length xs
  total_one [] = refl
  total_one (x ∷ xs) = omega (arith, total_one xs)

  pub total_none : (xs : List A) → total (λ x. 0) xs ≡ 0
  total_none [] = refl
  total_none (x ∷ xs) = omega (arith, total_none xs)

module _ {A B : Type 0} (weight : A → ℕ) (size : B → ℕ) (f : B → A → B) (grows : (b : B) (a : A) → size (f b a) ≤ size b + weight a) where
  -- a fold grows by no more than its items weigh
  pub fold_grows : (b : B) (xs : List A) → size (foldl f b xs) ≤ size b + total weight xs
  fold_grows b [] = omega arith
  fold_grows b (x ∷ xs) = omega (arith, grows b x, fold_grows (f b x) xs)

  -- seen through h it is the fold of g, where each step with room is a step of g, and the whole has room
  module _ {C : Type 0} (limit : ℕ) (h : B → C) (g : C → A → C) (one : (b : B) (a : A) → size b + weight a ≤ limit → h (f b a) ≡ g (h b) a) where
    pub fold_seen : (b : B) (xs : List A) → size b + total weight xs ≤ limit → h (foldl f b xs) ≡ foldl g (h b) xs
    fold_seen b [] r = refl
    fold_seen b (x ∷ xs) r = fold_seen (f b x) xs (omega (arith, grows b x)) ∙ ap (λ (c : C). foldl g c xs) (one b x (omega arith))
