-- Rows put in order: what is put in is there, nothing else is, and each stands at its place.
-- Assumes nothing.
use Prim.Native.Nat.{ℕ, suc, ◌+◌}
use mathlib.Core.Path.{◌≡◌, refl, ap, ◌∙◌}
use mathlib.Core.List.{List, [], ◌∷◌, map}
use mathlib.Core.Bool.{Bool, true, false, cond}
use mathlib.Core.Logic.{◌⊎◌, inl, inr, ⊎_elim}
use native.Mathlib.Omega.{arith}
use lib.ListN.{length}
use Rattle.bincode.specs.Stands.{All}
use Rattle.winner.specs.Board.{is_before, placed, in_order, sum}
use Rattle.winner.specs.BoardTerms.{Among}

-- rows that stand for others with the same counts and voters
module _ {R Q : Type 0} (f : R → Q) (count lowest : R → ℕ) (count' lowest' : Q → ℕ) (same_count : (r : R) → count r ≡ count' (f r)) (same-lowest : (r : R) → lowest r ≡ lowest' (f r)) where
  -- they stand before each other as the others do
  pub is_before_map : (r q : R) → is_before count lowest r q ≡ is_before count' lowest' (f r) (f q)
  is_before_map r q = rw (same_count r, same_count q, same-lowest r, same-lowest q)

  -- one of them is put in at the same place
  pub placed_map : (r : R) (rs : List R) → map f (placed count lowest r rs) ≡ placed count' lowest' (f r) (map f rs)
  unfolding placed
  placed_map r [] = refl
  placed_map r (q ∷ qs) = rw (is_before_map r q) (go (is_before count' lowest' (f r) (f q)) (placed_map r qs))
    where
      go : (b : Bool) → map f (placed count lowest r qs) ≡ placed count' lowest' (f r) (map f qs)
          → map f (cond b (r ∷ q ∷ qs) (q ∷ placed count lowest r qs)) ≡ cond b (f r ∷ f q ∷ map f qs) (f q ∷ placed count' lowest' (f r) (map f qs))
      go true e = refl
      go false e = ap (λ (zs : List Q). f q ∷ zs) e

  -- they come into the same order
  pub in_order_map : (done rs : List R) → map f (in_order count lowest done rs) ≡ in_order count' lowest' (map f done) (map f rs)
  unfolding in_order
  in_order_map done [] = refl
  in_order_map done (r ∷ rs) = in_order_map (placed count lowest r done) rs ∙ ap (λ (ds : List Q). in_order count' lowest' ds (map f rs)) (placed_map r done)

module _ {R : Type 0} (count lowest : R → ℕ) where
  -- one row more
  pub length_placed : (r : R) (rs : List R) → length (placed count lowest r rs) ≡ length rs + 1
  unfolding placed
  length_placed r [] = refl
  length_placed r (q ∷ qs) = go (is_before count lowest r q) (length_placed r qs)
    where
      go : (b : Bool) → length (placed count lowest r qs) ≡ length qs + 1 → length (cond b (r ∷ q ∷ qs) (q ∷ placed count lowest r qs)) ≡ suc (length qs) + 1
      go true e = omega arith
      go false e = omega arith

  -- as many rows as were in and are put in
  pub length_in_order : (done rs : List R) → length (in_order count lowest done rs) ≡ length done + length rs
  unfolding in_order
  length_in_order done [] = omega arith
  length_in_order done (r ∷ rs) = omega (arith, length_in_order (placed count lowest r done) rs, length_placed r done)

  -- what holds of a row and of each that is in holds of each when it is put in
  pub placed_all : (P : R → Type 0) (r : R) (rs : List R) → P r → All P rs → All P (placed count lowest r rs)
  unfolding placed
  placed_all P r [] p ps = (p, tt)
  placed_all P r (q ∷ qs) p ps = go (is_before count lowest r q) (placed_all P r qs p ps.1)
    where
      go : (b : Bool) → All P (placed count lowest r qs) → All P (cond b (r ∷ q ∷ qs) (q ∷ placed count lowest r qs))
      go true a = (p, ps)
      go false a = (ps.0, a)

  -- what holds of each that is in and of each that is put in holds of each at the end
  pub in_order_all : (P : R → Type 0) (done rs : List R) → All P done → All P rs → All P (in_order count lowest done rs)
  unfolding in_order
  in_order_all P done [] ds ps = ds
  in_order_all P done (r ∷ rs) ds ps = in_order_all P (placed count lowest r done) rs (placed_all P r done ps.0 ds) ps.1

  -- a row that is put in is in
  pub placed_new : (r : R) (rs : List R) → Among r (placed count lowest r rs)
  unfolding placed
  placed_new r [] = inl refl
  placed_new r (q ∷ qs) = go (is_before count lowest r q) (placed_new r qs)
    where
      go : (b : Bool) → Among r (placed count lowest r qs) → Among r (cond b (r ∷ q ∷ qs) (q ∷ placed count lowest r qs))
      go true m = inl refl
      go false m = inr m

  -- one that was in stays in
  pub placed_old : (r p : R) (rs : List R) → Among p rs → Among p (placed count lowest r rs)
  unfolding placed
  placed_old r p [] m = absurd m
  placed_old r p (q ∷ qs) m = go (is_before count lowest r q) (placed_old r p qs)
    where
      go : (b : Bool) → (Among p qs → Among p (placed count lowest r qs)) → Among p (cond b (r ∷ q ∷ qs) (q ∷ placed count lowest r qs))
      go true ih = inr m
      go false ih = ⊎_elim (λ (e : p ≡ q). inl e) (λ (n : Among p qs). inr (ih n)) m

  -- one that was in, or is one of those put in, is in at the end
  pub in_order_among : (p : R) (done rs : List R) → Among p done ⊎ Among p rs → Among p (in_order count lowest done rs)
  unfolding in_order
  in_order_among p done [] m = ⊎_elim (λ (d : Among p done). d) (λ (n : ⊥). absurd n) m
  in_order_among p done (r ∷ rs) m = in_order_among p (placed count lowest r done) rs (⊎_elim old (λ (n : (p ≡ r) ⊎ Among p rs). ⊎_elim new (λ (k : Among p rs). inr k) n) m)
    where
      old : Among p done → Among p (placed count lowest r done) ⊎ Among p rs
      old d = inl (placed_old r p done d)

      new : p ≡ r → Among p (placed count lowest r done) ⊎ Among p rs
      new e = inl (rw e (placed_new r done))

  -- a number of each row, added up, with one row more
  pub placed_sum : (f : R → ℕ) (r : R) (rs : List R) → sum (map f (placed count lowest r rs)) ≡ f r + sum (map f rs)
  unfolding placed
  placed_sum f r [] = refl
  placed_sum f r (q ∷ qs) = go (is_before count lowest r q) (placed_sum f r qs)
    where
      go : (b : Bool) → sum (map f (placed count lowest r qs)) ≡ f r + sum (map f qs) → sum (map f (cond b (r ∷ q ∷ qs) (q ∷ placed count lowest r qs))) ≡ f r + (f q + sum (map f qs))
      go true e = refl
      go false e = omega arith

  -- the same with many rows more
  pub in_order_sum : (f : R → ℕ) (done rs : List R) → sum (map f (in_order count lowest done rs)) ≡ sum (map f done) + sum (map f rs)
  unfolding in_order
  in_order_sum f done [] = omega arith
  in_order_sum f done (r ∷ rs) = omega (arith, in_order_sum f (placed count lowest r done) rs, placed_sum f r done)
