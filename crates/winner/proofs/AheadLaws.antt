-- Which choice is ahead of another: none of itself, no two of each other, and one that is ahead of a second is ahead of each that is not ahead of the second.
-- Assumes nothing.
use Prim.Native.Nat.{◌≤◌, ◌<◌}
use mathlib.Core.Path.{◌≡◌, refl, sym, ◌∙◌}
use mathlib.Core.List.{List}
use mathlib.Core.Bool.{Bool, true, false}
use mathlib.Core.Logic.{inl, inr}
use native.Mathlib.Omega.{arith}
use lib.Dec.{ltb}
use borrow.Author.Tests.{ltb-true, ltb-false}
use Rattle.lists.proofs.ListLaws.{false_true}
use Rattle.winner.specs.Support.{Cast, choices, support}
use Rattle.winner.specs.Board.{Row, row_for}
use Rattle.winner.specs.BoardTerms.{Before}
use Rattle.winner.specs.Winner.{ahead}
use Rattle.winner.proofs.SupportLaws.{denied}
use Rattle.winner.proofs.BoardRows.{row_counts}
use Rattle.winner.proofs.OrderedLaws.{before_once, before_then, before_test, before_tested}

-- a row before one that a third is not before stands before the third
before_past : {A : Type 0} (r q p : Row A) → Before r q → (Before p q → ⊥) → Before r p
before_past r q p b n = go (ltb p.count r.count) refl (ltb q.count p.count) refl (ltb p.lowest q.lowest) refl b
  where
    go : (x : Bool) → ltb p.count r.count ≡ x → (y : Bool) → ltb q.count p.count ≡ y → (z : Bool) → ltb p.lowest q.lowest ≡ z → Before r q → Before r p
    go true s y t z u b = inl (ltb-true p.count r.count s)
    go false s true t z u b = absurd (n (inl (ltb-true q.count p.count t)))
    go false s false t z u (inl h) = absurd (let l = ltb-false p.count r.count s in let k = ltb-false q.count p.count t in let w : ⊥ = omega arith in w)
    go false s false t true u (inr h) =
        let l = ltb-false p.count r.count s in
        let k = ltb-false q.count p.count t in
        absurd (n (inr (omega (arith, h.0), ltb-true p.lowest q.lowest u)))
    go false s false t false u (inr h) =
        let l = ltb-false p.count r.count s in
        let k = ltb-false q.count p.count t in
        let m = ltb-false p.lowest q.lowest u in
        inr (omega (arith, h.0), omega (arith, h.1))

module _ {A : Type 0} (eq : A → A → Bool) (vs : List (Cast A)) where
  pub ahead_before : (x y : A) → ahead eq vs x y ≡ true → Before (row_for eq vs x) (row_for eq vs y)
  ahead_before x y e = before_tested (row_for eq vs x) (row_for eq vs y) e

  pub before_ahead : (x y : A) → Before (row_for eq vs x) (row_for eq vs y) → ahead eq vs x y ≡ true
  before_ahead x y b = before_test (row_for eq vs x) (row_for eq vs y) b

  pub ahead_no : (x y : A) → (Before (row_for eq vs x) (row_for eq vs y) → ⊥) → ahead eq vs x y ≡ false
  ahead_no x y n = denied (ahead eq vs x y) (λ e. n (ahead_before x y e))

  pub no_ahead : (x y : A) → ahead eq vs x y ≡ false → Before (row_for eq vs x) (row_for eq vs y) → ⊥
  no_ahead x y e b = false_true (sym e ∙ before_ahead x y b)

  pub never_itself : (x : A) → ahead eq vs x x ≡ false
  never_itself x = ahead_no x x (λ b. before_once (row_for eq vs x) (row_for eq vs x) b b)

  pub never_both : (x y : A) → ahead eq vs x y ≡ true → ahead eq vs y x ≡ false
  never_both x y e = ahead_no y x (λ b. before_once (row_for eq vs x) (row_for eq vs y) (ahead_before x y e) b)

  pub ahead_then : (x y z : A) → ahead eq vs x y ≡ true → ahead eq vs y z ≡ true → ahead eq vs x z ≡ true
  ahead_then x y z e f = before_ahead x z (before_then (row_for eq vs x) (row_for eq vs y) (row_for eq vs z) (ahead_before x y e) (ahead_before y z f))

  pub ahead_past : (x y z : A) → ahead eq vs x y ≡ true → ahead eq vs z y ≡ false → ahead eq vs x z ≡ true
  ahead_past x y z e f = before_ahead x z (before_past (row_for eq vs x) (row_for eq vs y) (row_for eq vs z) (ahead_before x y e) (no_ahead z y f))

  -- one with more voters is ahead, and one with fewer is not
  pub fewer_ahead : (x y : A) → support eq y (choices vs) < support eq x (choices vs) → ahead eq vs x y ≡ true
  fewer_ahead x y h = before_ahead x y (inl (omega (arith, h, row_counts eq vs x, row_counts eq vs y)))

  pub fewer_behind : (x y : A) → support eq y (choices vs) < support eq x (choices vs) → ahead eq vs y x ≡ false
  fewer_behind x y h = never_both x y (fewer_ahead x y h)

  -- one that is not ahead of another has no more voters
  pub no_more : (x y : A) → ahead eq vs x y ≡ false → support eq x (choices vs) ≤ support eq y (choices vs)
  no_more x y e = go (ltb (support eq y (choices vs)) (support eq x (choices vs))) refl
    where
      go : (b : Bool) → ltb (support eq y (choices vs)) (support eq x (choices vs)) ≡ b → support eq x (choices vs) ≤ support eq y (choices vs)
      go true t = absurd (no_ahead x y e (inl (omega (arith, ltb-true (support eq y (choices vs)) (support eq x (choices vs)) t, row_counts eq vs x, row_counts eq vs y))))
      go false t = ltb-false (support eq y (choices vs)) (support eq x (choices vs)) t
