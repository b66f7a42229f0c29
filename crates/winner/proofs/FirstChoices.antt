-- Each choice once, where nobody before has it: these are the choices with support, none twice, and no more than there are.
-- Assumes nothing.
use Prim.Native.Nat.{suc, ◌+◌, ◌≤◌, ◌<◌}
use mathlib.Core.Path.{◌≡◌, refl, sym, ◌∙◌}
use mathlib.Core.List.{List, [], ◌∷◌, ◌++◌}
use mathlib.Core.Bool.{Bool, true, false, cond}
use mathlib.Core.Logic.{inl, inr}
use native.Mathlib.Omega.{arith}
use lib.Dec.{eqb}
use lib.ListN.{length}
use borrow.Author.Tests.{eqb-true, eq-eqb}
use Rattle.bincode.specs.Stands.{All}
use Rattle.winner.specs.Support.{support}
use Rattle.winner.specs.Board.{first_choices}
use Rattle.winner.specs.BoardTerms.{Among}
use Rattle.winner.proofs.AmongLaws.{all_follows}
use Rattle.winner.proofs.SupportLaws.{support_append}

module _ {A : Type 0} (eq : A → A → Bool) where
  -- no more than there are
  pub first_few : (seen xs : List A) → length (first_choices eq seen xs) ≤ length xs
  unfolding first_choices
  first_few seen [] = omega arith
  first_few seen (x ∷ xs) = go (eqb (support eq x seen) 0) (first_few (seen ++ (x ∷ [])) xs)
    where
      go : (b : Bool) → length (first_choices eq (seen ++ (x ∷ [])) xs) ≤ length xs
          → length (cond b (x ∷ first_choices eq (seen ++ (x ∷ [])) xs) (first_choices eq (seen ++ (x ∷ [])) xs)) ≤ suc (length xs)
      go true h = omega arith
      go false h = omega arith

  -- nobody before has one, with one more choice before: nobody had it, and that choice is another
  one_less : (seen : List A) (x y : A) → support eq y (seen ++ (x ∷ [])) ≡ 0 → (support eq y seen ≡ 0) × (eq x y ≡ false)
  unfolding support
  one_less seen x y e = go (eq x y) (sym (support_append eq y seen (x ∷ [])) ∙ e)
    where
      go : (b : Bool) → support eq y seen + (cond b 1 0 + 0) ≡ 0 → (support eq y seen ≡ 0) × (b ≡ false)
      go true f = absurd (let z : ⊥ = omega arith in z)
      go false f = (omega arith, refl)

  -- nobody before has one of them
  pub first_new : (seen xs : List A) → All (λ (y : A). support eq y seen ≡ 0) (first_choices eq seen xs)
  unfolding first_choices
  first_new seen [] = tt
  first_new seen (x ∷ xs) =
      go (eqb (support eq x seen) 0) refl
      (all_follows (λ (y : A). support eq y (seen ++ (x ∷ [])) ≡ 0) (λ (y : A). support eq y seen ≡ 0) (λ y e. (one_less seen x y e).0) (first_choices eq (seen ++ (x ∷ [])) xs)
      (first_new (seen ++ (x ∷ [])) xs))
    where
      go : (b : Bool) → eqb (support eq x seen) 0 ≡ b → All (λ (y : A). support eq y seen ≡ 0) (first_choices eq (seen ++ (x ∷ [])) xs)
          → All (λ (y : A). support eq y seen ≡ 0) (cond b (x ∷ first_choices eq (seen ++ (x ∷ [])) xs) (first_choices eq (seen ++ (x ∷ [])) xs))
      go true t h = (eqb-true (support eq x seen) 0 t, h)
      go false t h = h

  -- behind a choice it does not come again
  pub first_other : (seen : List A) (x : A) (xs : List A) → All (λ (y : A). eq x y ≡ false) (first_choices eq (seen ++ (x ∷ [])) xs)
  first_other seen x xs =
      all_follows (λ (y : A). support eq y (seen ++ (x ∷ [])) ≡ 0) (λ (y : A). eq x y ≡ false) (λ y e. (one_less seen x y e).1) (first_choices eq (seen ++ (x ∷ [])) xs)
      (first_new (seen ++ (x ∷ [])) xs)

  -- each differs from all behind it
  abbrev pub Different : List A → Type 0
  Different [] = Unit {0}
  Different (x ∷ xs) = All (λ (y : A). eq x y ≡ false) xs × Different xs

  -- none comes twice
  pub first_different : (seen xs : List A) → Different (first_choices eq seen xs)
  unfolding first_choices
  first_different seen [] = tt
  first_different seen (x ∷ xs) = go (eqb (support eq x seen) 0) (first_different (seen ++ (x ∷ [])) xs)
    where
      go : (b : Bool) → Different (first_choices eq (seen ++ (x ∷ [])) xs) → Different (cond b (x ∷ first_choices eq (seen ++ (x ∷ [])) xs) (first_choices eq (seen ++ (x ∷ [])) xs))
      go true h = (first_other seen x xs, h)
      go false h = h

  -- each has support
  pub first_supported : ((x : A) → eq x x ≡ true) → (seen xs : List A) → All (λ (y : A). 0 < support eq y xs) (first_choices eq seen xs)
  unfolding first_choices support
  first_supported eq_refl seen [] = tt
  first_supported eq_refl seen (x ∷ xs) =
      go (eqb (support eq x seen) 0)
      (all_follows (λ (y : A). 0 < support eq y xs) (λ (y : A). 0 < support eq y (x ∷ xs)) (λ y h. omega arith) (first_choices eq (seen ++ (x ∷ [])) xs)
      (first_supported eq_refl (seen ++ (x ∷ [])) xs))
    where
      own : 0 < support eq x (x ∷ xs)
      own = rw (eq_refl x) (omega arith)

      go : (b : Bool) → All (λ (y : A). 0 < support eq y (x ∷ xs)) (first_choices eq (seen ++ (x ∷ [])) xs)
          → All (λ (y : A). 0 < support eq y (x ∷ xs)) (cond b (x ∷ first_choices eq (seen ++ (x ∷ [])) xs) (first_choices eq (seen ++ (x ∷ [])) xs))
      go true h = (own, h)
      go false h = h

  -- each with support that nobody before has is one of them
  pub first_among : ((x y : A) → eq x y ≡ true → x ≡ y) → (seen xs : List A) (y : A) → support eq y seen ≡ 0 → 0 < support eq y xs → Among y (first_choices eq seen xs)
  unfolding first_choices support
  first_among eq-true seen [] y e h = absurd (let z : ⊥ = omega arith in z)
  first_among eq-true seen (x ∷ xs) y e h = go (eq x y) refl h (first_among eq-true (seen ++ (x ∷ [])) xs y)
    where
      behind : (b : Bool) → Among y (first_choices eq (seen ++ (x ∷ [])) xs) → Among y (cond b (x ∷ first_choices eq (seen ++ (x ∷ [])) xs) (first_choices eq (seen ++ (x ∷ [])) xs))
      behind true m = inr m
      behind false m = m

      go : (b : Bool) → eq x y ≡ b → 0 < cond b 1 0 + support eq y xs
          → (support eq y (seen ++ (x ∷ [])) ≡ 0 → 0 < support eq y xs → Among y (first_choices eq (seen ++ (x ∷ [])) xs))
          → Among y (cond (eqb (support eq x seen) 0) (x ∷ first_choices eq (seen ++ (x ∷ [])) xs) (first_choices eq (seen ++ (x ∷ [])) xs))
      go true t h ih = let q = eq-true x y t in rw (eq-eqb (support eq x seen) 0 (rw q e)) (inl (sym q))
      go false t h ih = behind (eqb (support eq x seen) 0) (ih (rw (support_append eq y seen (x ∷ []), t, e)) (omega arith))
