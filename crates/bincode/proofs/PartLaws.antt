-- Items that are read into the first places of an array of the same value: a loop over these places, by their count.
-- Assumes nothing.
use Prim.Native.Nat.{ℕ, ◌-◌, ◌≤◌, ◌<◌}
use mathlib.Core.Path.{◌≡◌, ap, ◌∙◌}
use mathlib.Core.List.{List, [], ◌++◌, append-nil}
use native.Mathlib.Omega.{arith}
use native.Mathlib.Nat.{sub-zero}
use lib.ListN.{length, take, drop, replicate, length-replicate}
use Rattle.std.proofs.lemmas.List.{take-replicate, drop-replicate}
use Rattle.lists.specs.Lists.{padded}

module _ {A : Type 0} (none : A) (n limit : ℕ) (few : n ≤ limit) where
  -- before the first the places are empty
  pub part_empty : take n (replicate limit none) ≡ padded n none []
  unfolding padded
  part_empty = rw sub-zero (take-replicate n limit none few)

  -- there are as many as the count says
  pub part_places : length (take n (replicate limit none)) ≡ n
  part_places = ap length (take-replicate n limit none few) ∙ length-replicate n none

  -- a turn is at one of them, and behind the last turn there were as many
  pub part_turn : (i : ℕ) → i < length (take n (replicate limit none)) → i < n
  part_turn i h = omega (arith, h, part_places)

  pub part_done : (i : ℕ) → length (take n (replicate limit none)) ≤ i → i ≤ length (take n (replicate limit none)) → i ≡ n
  part_done i h k = omega (arith, h, k, part_places)

  -- behind the last, the places with those that were left as they are
  pub part_filled : (xs : List A) → length xs ≡ n → padded n none xs ++ drop n (replicate limit none) ≡ padded limit none xs
  unfolding padded
  part_filled xs e =
      let z : n - length xs ≡ 0 = omega arith in
      rw (z, append-nil, drop-replicate, e)
