-- Elements moved up by one, with another in the place that becomes free.
-- Assumes nothing.
use Prim.Native.Nat.{ℕ, ◌+◌, ◌-◌, ◌≤◌, ◌<◌}
use mathlib.Core.Path.{◌≡◌, sym, ap, ◌∙◌}
use mathlib.Core.List.{List, [], ◌∷◌, ◌++◌, append_assoc}
use native.Mathlib.Omega.{arith}
use native.Mathlib.Numerals.{add-one}
use lib.ListN.{length, take, drop, get_or, set, length-drop}
use lib.Seq.{paste, set_at, take-suc, length-take-le, take-take, take-set-lt}
use Rattle.std.proofs.lemmas.List.{drop-take}
use Rattle.std.proofs.lemmas.List.Edits.{take-paste}

module _ {A : Type 0} (xs : List A) (at n : ℕ) (z x : A) (l : at ≤ n) (h : n < length xs) where
  -- the elements below n from `at` on, copied to behind it
  abbrev copied : List A
  copied = paste xs (at + 1) (drop at xs) (n - at)

  behind : take (n - at) (drop at xs) ≡ drop at (take n xs)
  behind = let e : at + (n - at) ≡ n = omega arith in sym (drop-take at (n - at) xs) ∙ ap (λ (k : ℕ). drop at (take k xs)) e

  front : take (n + 1) copied ≡ take at xs ++ (get_or xs at z ∷ drop at (take n xs))
  front =
      let e : n + 1 ≡ (at + 1) + (n - at) = omega arith in
      let p = take-paste xs (at + 1) (drop at xs) (n - at) (omega arith) (rw length-drop (omega arith)) in
      let one : take (at + 1) xs ≡ take at xs ++ (get_or xs at z ∷ []) = rw (add-one, take-suc xs at z (omega arith)) in
      ap (λ (k : ℕ). take k copied) e ∙ p ∙ rw (one, behind, append_assoc)

  pub moved_up : take (n + 1) (set copied at x) ≡ take at (take n xs) ++ (x ∷ drop at (take n xs))
  moved_up = rw (take-set-lt (n + 1) copied at x (omega arith), front, take-take at n xs l) (set_at (take at xs) (get_or xs at z) (drop at (take n xs)) x at (length-take-le at xs (omega arith)))
