-- The counts of the board add up to the number of votes, and it has no more rows than there are votes.
-- Assumes nothing.
use Prim.Native.Nat.{ℕ, ◌+◌, ◌≤◌}
use mathlib.Core.Path.{◌≡◌, refl, sym, ap, ◌∙◌}
use mathlib.Core.List.{List, [], ◌∷◌, ◌++◌, map, map-map}
use mathlib.Core.Bool.{Bool, true, false, cond}
use native.Mathlib.Omega.{arith}
use lib.Dec.{eqb}
use lib.ListN.{length, length-map}
use borrow.Author.Tests.{eqb-true, eqb-false, ne_eqb}
use Rattle.lists.proofs.ListLaws.{false_true}
use Rattle.bincode.specs.Stands.{All}
use Rattle.winner.specs.Support.{support, Cast, choices}
use Rattle.winner.specs.Board.{Row, sum, first_choices, row_for, board}
use Rattle.winner.proofs.SupportLaws.{support_append}
use Rattle.winner.proofs.BoardOrder.{length_in_order, in_order_sum}
use Rattle.winner.proofs.FirstChoices.{first_few, first_other}

module _ {A : Type 0} (eq : A → A → Bool) where
  -- no more rows than votes
  pub rows_few : (vs : List (Cast A)) → length (board eq vs) ≤ length vs
  unfolding board
  rows_few vs =
      let xs = first_choices eq [] (choices vs) in
      omega (
        arith,
        length_in_order (λ (r : Row A). r.count) (λ (r : Row A). r.lowest) [] (map (row_for eq vs) xs),
        length-map xs (row_for eq vs),
        first_few eq [] (choices vs),
        length-map vs (λ (v : Cast A). v.choice),
      )

  -- how many of the choices are such that nobody before has them
  unfoldable fresh : List A → List A → ℕ
  fresh seen [] = 0
  fresh seen (x ∷ xs) = cond (eqb (support eq x seen) 0) 1 0 + fresh seen xs

  -- a vote for another choice changes no sum of support
  sum_other : (x : A) (xs ys : List A) → All (λ (y : A). eq x y ≡ false) ys → sum (map (λ (y : A). support eq y (x ∷ xs)) ys) ≡ sum (map (λ (y : A). support eq y xs) ys)
  unfolding support
  sum_other x xs [] ps = refl
  sum_other x xs (y ∷ ys) ps = rw ps.0 (omega (arith, sum_other x xs ys ps.1))

  -- behind nothing all are new
  fresh_all : (xs : List A) → fresh [] xs ≡ length xs
  unfolding fresh support
  fresh_all [] = refl
  fresh_all (x ∷ xs) = omega (arith, fresh_all xs)

  -- a vote for another choice before changes no support
  support_other : (seen : List A) (x y : A) → eq x y ≡ false → support eq y (seen ++ (x ∷ [])) ≡ support eq y seen
  unfolding support
  support_other seen x y e = rw (support_append eq y seen (x ∷ []), e) (omega arith)

  module _ (eq-true : (x y : A) → eq x y ≡ true → x ≡ y) (eq_refl : (x : A) → eq x x ≡ true) where
    -- the test does not depend on the order of the two
    eq_swap : (x y : A) → eq x y ≡ false → eq y x ≡ false
    eq_swap x y e = go (eq y x) refl
      where
        go : (b : Bool) → eq y x ≡ b → b ≡ false
        go true t = absurd (false_true (sym e ∙ rw (eq-true y x t) (eq_refl x)))
        go false t = refl

    -- a vote for the choice itself before is one more
    support_own : (seen : List A) (x : A) → support eq x (seen ++ (x ∷ [])) ≡ support eq x seen + 1
    unfolding support
    support_own seen x = rw (support_append eq x seen (x ∷ []), eq_refl x)

    -- with a vote before for a choice that nobody had, its votes are no longer new
    fresh_first : (seen : List A) (x : A) (xs : List A) → support eq x seen ≡ 0 → fresh seen xs ≡ support eq x xs + fresh (seen ++ (x ∷ [])) xs
    unfolding fresh support
    fresh_first seen x [] e = refl
    fresh_first seen x (y ∷ ys) e = go (eq y x) refl (fresh_first seen x ys e)
      where
        go : (b : Bool) → eq y x ≡ b → fresh seen ys ≡ support eq x ys + fresh (seen ++ (x ∷ [])) ys
            → cond (eqb (support eq y seen) 0) 1 0 + fresh seen ys ≡ (cond b 1 0 + support eq x ys) + (cond (eqb (support eq y (seen ++ (x ∷ []))) 0) 1 0 + fresh (seen ++ (x ∷ [])) ys)
        go true t ih = rw (eq-true y x t, support_own seen x, e) (omega arith)
        go false t ih = rw (support_other seen x y (eq_swap y x t)) (omega arith)

    -- with one for a choice that somebody had, the same are new
    fresh_again : (seen : List A) (x : A) (xs : List A) → (support eq x seen ≡ 0 → ⊥) → fresh seen xs ≡ fresh (seen ++ (x ∷ [])) xs
    unfolding fresh
    fresh_again seen x [] n = refl
    fresh_again seen x (y ∷ ys) n = go (eq y x) refl (fresh_again seen x ys n)
      where
        go : (b : Bool) → eq y x ≡ b → fresh seen ys ≡ fresh (seen ++ (x ∷ [])) ys
            → cond (eqb (support eq y seen) 0) 1 0 + fresh seen ys ≡ cond (eqb (support eq y (seen ++ (x ∷ []))) 0) 1 0 + fresh (seen ++ (x ∷ [])) ys
        go true t ih = rw (eq-true y x t, support_own seen x, ne_eqb (support eq x seen) 0 n, ne_eqb (support eq x seen + 1) 0 (λ (f : support eq x seen + 1 ≡ 0). omega arith)) (omega arith)
        go false t ih = rw (support_other seen x y (eq_swap y x t)) (omega arith)

    -- the support of the first choices adds up to the number of new votes
    first_sum : (seen xs : List A) → sum (map (λ (y : A). support eq y xs) (first_choices eq seen xs)) ≡ fresh seen xs
    unfolding first_choices fresh support
    first_sum seen [] = refl
    first_sum seen (x ∷ xs) =
        go (eqb (support eq x seen) 0) refl (sum_other x xs (first_choices eq (seen ++ (x ∷ [])) xs) (first_other eq seen x xs) ∙ first_sum (seen ++ (x ∷ [])) xs)
      where
        go : (b : Bool) → eqb (support eq x seen) 0 ≡ b
            → sum (map (λ (y : A). support eq y (x ∷ xs)) (first_choices eq (seen ++ (x ∷ [])) xs)) ≡ fresh (seen ++ (x ∷ [])) xs
            → sum (map (λ (y : A). support eq y (x ∷ xs)) (cond b (x ∷ first_choices eq (seen ++ (x ∷ [])) xs) (first_choices eq (seen ++ (x ∷ [])) xs))) ≡ cond b 1 0 + fresh seen xs
        go true t ih = rw (eq_refl x) (omega (arith, ih, fresh_first seen x xs (eqb-true (support eq x seen) 0 t)))
        go false t ih = omega (arith, ih, fresh_again seen x xs (eqb-false (support eq x seen) 0 t))

    -- the counts of the board add up to the number of votes
    pub counts_add_up : (vs : List (Cast A)) → sum (map (λ (r : Row A). r.count) (board eq vs)) ≡ length vs
    unfolding board
    counts_add_up vs =
        let xs = first_choices eq [] (choices vs) in
        let same : map (λ (r : Row A). r.count) (map (row_for eq vs) xs) ≡ map (λ (y : A). support eq y (choices vs)) xs = map-map (λ (r : Row A). r.count) (row_for eq vs) xs in
        omega (
          arith,
          in_order_sum (λ (r : Row A). r.count) (λ (r : Row A). r.lowest) (λ (r : Row A). r.count) [] (map (row_for eq vs) xs),
          ap sum same,
          first_sum [] (choices vs),
          fresh_all (choices vs),
          length-map vs (λ (v : Cast A). v.choice),
        )
