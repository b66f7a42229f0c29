-- How many have a choice: in two parts of a list, at most as many as there are, and some exactly where it is one of the list.
-- Assumes nothing.
use Prim.Native.Nat.{ℕ, suc, ◌+◌, ◌≤◌, ◌<◌}
use mathlib.Core.Path.{◌≡◌, refl, sym, ap, ◌∙◌}
use mathlib.Core.List.{List, [], ◌∷◌, ◌++◌}
use mathlib.Core.Bool.{Bool, true, false, cond}
use mathlib.Core.Logic.{◌⊎◌, inl, inr, ⊎_elim}
use native.Mathlib.Omega.{arith}
use lib.Dec.{ltb}
use lib.ListN.{length}
use borrow.Author.Tests.{ltb-true, ltb-false}
use Rattle.lists.proofs.ListLaws.{false_true}
use Rattle.winner.specs.Support.{support}
use Rattle.winner.specs.BoardTerms.{Among}

module _ {A : Type 0} (eq : A → A → Bool) where
  pub support_append : (x : A) (xs ys : List A) → support eq x (xs ++ ys) ≡ support eq x xs + support eq x ys
  unfolding support
  support_append x [] ys = omega arith
  support_append x (y ∷ xs) ys = rw (support_append x xs ys) (omega arith)

  -- no choice has more supporters than there are choices
  pub support_few : (x : A) (xs : List A) → support eq x xs ≤ length xs
  unfolding support
  support_few x [] = omega arith
  support_few x (y ∷ xs) = go (eq y x) (support_few x xs)
    where
      go : (b : Bool) → support eq x xs ≤ length xs → cond b 1 0 + support eq x xs ≤ suc (length xs)
      go true h = omega arith
      go false h = omega arith

  -- where equality is equality, a choice that somebody has is one of the list
  pub supported_among : ((x y : A) → eq x y ≡ true → x ≡ y) → (x : A) (xs : List A) → 0 < support eq x xs → Among x xs
  unfolding support
  supported_among eq-true x [] h = absurd (let y : ⊥ = omega arith in y)
  supported_among eq-true x (y ∷ xs) h = go (eq y x) refl h (supported_among eq-true x xs)
    where
      go : (b : Bool) → eq y x ≡ b → 0 < cond b 1 0 + support eq x xs → (0 < support eq x xs → Among x xs) → (x ≡ y) ⊎ Among x xs
      go true e h ih = inl (sym (eq-true y x e))
      go false e h ih = inr (ih (omega arith))

  -- and one of the list is had by somebody
  pub among_supported : ((x : A) → eq x x ≡ true) → (x : A) (xs : List A) → Among x xs → 0 < support eq x xs
  unfolding support
  among_supported eq_refl x [] m = absurd m
  among_supported eq_refl x (y ∷ xs) m =
      ⊎_elim (λ (e : x ≡ y). rw (sym e, eq_refl x) (omega arith)) (λ (n : Among x xs). let h = among_supported eq_refl x xs n in omega arith) m

-- a number that is at most f where it is not 0 is at most f
pub at_most : (n f : ℕ) → (0 < n → n ≤ f) → n ≤ f
at_most n f h = go (ltb 0 n) refl
  where
    go : (b : Bool) → ltb 0 n ≡ b → n ≤ f
    go true t = h (ltb-true 0 n t)
    go false t = let l = ltb-false 0 n t in omega arith

-- what cannot be so is not
pub denied : (b : Bool) → (b ≡ true → ⊥) → b ≡ false
denied true n = absurd (n refl)
denied false n = refl

-- where equality is equality, a choice is the same as another, or it is not
module _ {A : Type 0} (eq : A → A → Bool) (eq-true : (x y : A) → eq x y ≡ true → x ≡ y) (eq_refl : (x : A) → eq x x ≡ true) where
  pub same_or_other : (x y : A) → (x ≡ y) ⊎ (eq x y ≡ false)
  same_or_other x y = go (eq x y) refl
    where
      go : (b : Bool) → eq x y ≡ b → (x ≡ y) ⊎ (b ≡ false)
      go true e = inl (eq-true x y e)
      go false e = inr refl

  pub other_not : (x y : A) → eq x y ≡ false → x ≡ y → ⊥
  other_not x y n e = false_true (sym n ∙ ap (λ (z : A). eq z y) e ∙ eq_refl y)

  pub not_other : (x y : A) → (x ≡ y → ⊥) → eq x y ≡ false
  not_other x y n = denied (eq x y) (λ e. n (eq-true x y e))
