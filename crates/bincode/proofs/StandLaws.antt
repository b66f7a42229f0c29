-- Bytes that stand at a position, in parts.
-- Assumes nothing.
use Prim.Native.Nat.{ℕ, zero, suc, ◌+◌, ◌≤◌}
use mathlib.Core.Path.{◌≡◌, refl, sym, ap, ◌∙◌}
use mathlib.Core.List.{List, [], ◌∷◌, ◌++◌}
use native.Mathlib.Omega.{arith}
use lib.ListN.{length, take, drop, length-append}
use lib.Seq.{take-add, take-take, drop-drop, take-append_seam, drop_at, take_all, take-length}
use Rattle.bincode.specs.Stands.{Bytes, Stands}

module _ (s : List ℕ) where
  pub stands_left : (at : ℕ) (xs ys : List ℕ) → Stands s at (xs ++ ys) → Stands s at xs
  stands_left at xs ys p =
      let q : take (length xs + length ys) (drop at s) ≡ xs ++ ys = rw length-append at p in
      sym (take-take (length xs) (length xs + length ys) (drop at s) (omega arith)) ∙ ap (take (length xs)) q ∙ take-append_seam xs ys

  pub stands_right : (at : ℕ) (xs ys : List ℕ) → Stands s at (xs ++ ys) → Stands s (at + length xs) ys
  stands_right at xs ys p =
      let a = stands_left at xs ys p in
      let q : take (length xs + length ys) (drop at s) ≡ xs ++ ys = rw length-append at p in
      let b : take (length xs) (drop at s) ++ take (length ys) (drop (length xs) (drop at s)) ≡ xs ++ ys = sym (take-add (length xs) (length ys) (drop at s)) ∙ q in
      rw drop-drop at
      (sym (drop_at (take (length xs) (drop at s)) (take (length ys) (drop (length xs) (drop at s))) (length xs) (ap length a))
      ∙ ap (drop (length xs)) b ∙ drop_at xs ys (length xs) refl)

  pub stands_both : (at : ℕ) (xs ys : List ℕ) → Stands s at xs → Stands s (at + length xs) ys → Stands s at (xs ++ ys)
  stands_both at xs ys p q = rw (length-append, take-add, p, drop-drop, q)

-- bytes stand in themselves, and what stands from the first byte to the last is all of them
pub stands_self : (bs : List ℕ) → Stands bs 0 bs
stands_self bs = take-length bs

pub stands_all : (s bs : List ℕ) → Stands s 0 bs → length s ≤ length bs → s ≡ bs
stands_all s bs p h = sym (take_all (length bs) s h) ∙ p

-- two lists of bytes, one after the other
pub bytes_append : (xs ys : List ℕ) → Bytes xs → Bytes ys → Bytes (xs ++ ys)
bytes_append [] ys h k i = k i
bytes_append (x ∷ xs) ys h k zero = h 0
bytes_append (x ∷ xs) ys h k (suc i) = bytes_append xs ys (λ j. h (suc j)) k i
