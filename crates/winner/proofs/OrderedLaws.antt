-- Rows in order: no row stands before itself, rows that can be told apart come into order, and rows come into no other order.
-- Assumes nothing.
use Prim.Native.Nat.{ℕ}
use mathlib.Core.Path.{◌≡◌, refl, sym, subst, ◌∙◌}
use mathlib.Core.List.{List, [], ◌∷◌}
use mathlib.Core.Bool.{Bool, true, false, cond}
use mathlib.Core.Logic.{◌⊎◌, inl, inr, ⊎_elim}
use native.Mathlib.Omega.{arith}
use lib.Dec.{ltb, eqb}
use borrow.Author.Tests.{ltb-true, lt-ltb, le-ltb, eqb-true, eq-eqb}
use Rattle.bincode.specs.Stands.{All}
use Rattle.winner.specs.Board.{Row, is_before, placed, in_order}
use Rattle.winner.specs.BoardTerms.{Among, Before, Ordered}
use Rattle.lists.proofs.ListLaws.{false_true}
use Rattle.winner.proofs.AmongLaws.{all_one, all_follows}
use Rattle.winner.proofs.BoardOrder.{placed_all}

module _ {A : Type 0} where
  -- the count and the voter by which the board is ordered
  abbrev counted : Row A → ℕ
  counted r = r.count

  abbrev held : Row A → ℕ
  held r = r.lowest

  -- no row stands before one that stands before it
  pub before_once : (r q : Row A) → Before r q → Before q r → ⊥
  before_once r q (inl h) (inl k) = omega arith
  before_once r q (inl h) (inr k) = omega arith
  before_once r q (inr h) (inl k) = omega arith
  before_once r q (inr h) (inr k) = omega arith

  -- a row before one that stands before a third stands before the third
  pub before_then : (r q p : Row A) → Before r q → Before q p → Before r p
  before_then r q p (inl h) (inl k) = inl (omega arith)
  before_then r q p (inl h) (inr k) = inl (omega arith)
  before_then r q p (inr h) (inl k) = inl (omega arith)
  before_then r q p (inr h) (inr k) = inr (omega arith, omega arith)

  -- a row that stands before another passes the board's test
  pub before_test : (r q : Row A) → Before r q → is_before counted held r q ≡ true
  before_test r q (inl h) = rw (lt-ltb q.count r.count h)
  before_test r q (inr h) = rw (le-ltb q.count r.count (omega arith), eq-eqb q.count r.count h.0, lt-ltb r.lowest q.lowest h.1)

  -- and what passes it stands before the other
  pub before_tested : (r q : Row A) → is_before counted held r q ≡ true → Before r q
  before_tested r q e = go (ltb q.count r.count) refl (eqb q.count r.count) refl e
    where
      go : (b : Bool) → ltb q.count r.count ≡ b → (c : Bool) → eqb q.count r.count ≡ c → cond b true (cond c (ltb r.lowest q.lowest) false) ≡ true → Before r q
      go true t c u e = inl (ltb-true q.count r.count t)
      go false t true u e = inr (eqb-true q.count r.count u, ltb-true r.lowest q.lowest e)
      go false t false u e = absurd (false_true e)

  -- one of two rows stands before the other
  abbrev pub Apart : Row A → Row A → Type 0
  Apart r q = Before r q ⊎ Before q r

  -- each row can be told from all that are behind it
  abbrev pub AllApart : List (Row A) → Type 0
  AllApart [] = Unit {0}
  AllApart (r ∷ rs) = All (Apart r) rs × AllApart rs

  -- a row that can be told from those in order comes into order
  pub placed_ordered : (r : Row A) (rs : List (Row A)) → All (Apart r) rs → Ordered rs → Ordered (placed counted held r rs)
  unfolding placed
  placed_ordered r [] ws o = (tt, tt)
  placed_ordered r (q ∷ qs) ws o = go (is_before counted held r q) refl (placed_ordered r qs ws.1 o.1)
    where
      go : (b : Bool) → is_before counted held r q ≡ b → Ordered (placed counted held r qs) → Ordered (cond b (r ∷ q ∷ qs) (q ∷ placed counted held r qs))
      go true t p = let k = before_tested r q t in ((k, all_follows (Before q) (Before r) (λ s. before_then r q s k) qs o.0), o)
      go false t p =
          let k : Before q r = ⊎_elim (λ (h : Before r q). absurd (false_true (sym t ∙ before_test r q h))) (λ (h : Before q r). h) ws.0 in
          (placed_all counted held (Before q) r qs k o.0, p)

  -- so do many, one after the other
  pub in_order_ordered : (done rs : List (Row A)) → All (λ (r : Row A). All (Apart r) done) rs → AllApart rs → Ordered done → Ordered (in_order counted held done rs)
  unfolding in_order
  in_order_ordered done [] ws bs o = o
  in_order_ordered done (r ∷ rs) ws bs o = in_order_ordered (placed counted held r done) rs (both rs ws.1 bs.0) bs.1 (placed_ordered r done ws.0 o)
    where
      both : (qs : List (Row A)) → All (λ (q : Row A). All (Apart q) done) qs → All (Apart r) qs → All (λ (q : Row A). All (Apart q) (placed counted held r done)) qs
      both [] ws bs = tt
      both (q ∷ qs) ws bs = (placed_all counted held (Apart q) r done (⊎_elim (λ (h : Before r q). inr h) (λ (h : Before q r). inl h) bs.0) ws.0, both qs ws.1 bs.1)

  -- two lists in order with the same rows are equal
  pub ordered_one : (rs qs : List (Row A)) → Ordered rs → Ordered qs → ((r : Row A) → Among r rs → Among r qs) → ((r : Row A) → Among r qs → Among r rs) → rs ≡ qs
  ordered_one [] [] o u f g = refl
  ordered_one [] (q ∷ qs) o u f g = absurd (g q (inl refl))
  ordered_one (r ∷ rs) [] o u f g = absurd (f r (inl refl))
  ordered_one (r ∷ rs) (q ∷ qs) o u f g = rw (heads, ordered_one rs qs o.1 u.1 (λ s m. tail_in s m) (λ s m. tail_out s m))
    where
      behind_r : (s : Row A) → Among s rs → Before r s
      behind_r s m = all_one (Before r) rs o.0 s m

      behind_q : (s : Row A) → Among s qs → Before q s
      behind_q s m = all_one (Before q) qs u.0 s m

      heads : r ≡ q
      heads =
          ⊎_elim (λ (e : r ≡ q). e)
          (λ (m : Among r qs). ⊎_elim (λ (e : q ≡ r). sym e) (λ (n : Among q rs). absurd (before_once r q (behind_r q n) (behind_q r m))) (g q (inl refl)))
          (f r (inl refl))

      tail_in : (s : Row A) → Among s rs → Among s qs
      tail_in s m =
          ⊎_elim (λ (e : s ≡ q). let h : Before r r = subst (Before r) (e ∙ sym heads) (behind_r s m) in absurd (before_once r r h h)) (λ (n : Among s qs). n) (f s (inr m))

      tail_out : (s : Row A) → Among s qs → Among s rs
      tail_out s m =
          ⊎_elim (λ (e : s ≡ r). let h : Before q q = subst (Before q) (e ∙ heads) (behind_q s m) in absurd (before_once q q h h)) (λ (n : Among s rs). n) (g s (inr m))
