-- One value more in a list with a limit: what is put behind the others is cut at the limit.
-- Assumes nothing.
use Prim.Native.Nat.{ℕ, ◌≤◌, ◌<◌}
use mathlib.Core.Path.{◌≡◌, refl, sym, ◌∙◌}
use mathlib.Core.List.{List, [], ◌∷◌, ◌++◌}
use mathlib.Core.Bool.{Bool, true, false, cond}
use native.Mathlib.Omega.{arith}
use lib.Dec.{ltb}
use lib.ListN.{length, take, drop, length-append}
use lib.Seq.{take_all, take_at}
use borrow.Author.Tests.{ltb-true, ltb-false, lt-ltb, le-ltb}
use Rattle.lists.specs.Lists.{insert_within}
use Rattle.lists.proofs.SortedLaws.{NewAt, held_new, held_full}
use Rattle.array_list.specs.ArrayList.{pushed, put_at}

module _ {A : Type 0} where
  pub pushed_cut : (limit : ℕ) (x : A) (xs : List A) → length xs ≤ limit → pushed limit x xs ≡ take limit (xs ++ (x ∷ []))
  unfolding pushed
  pushed_cut limit x xs h = go (ltb (length xs) limit) refl
    where
      go : (b : Bool) → ltb (length xs) limit ≡ b → cond b (xs ++ (x ∷ [])) xs ≡ take limit (xs ++ (x ∷ []))
      go true e = let l = ltb-true (length xs) limit e in sym (take_all limit (xs ++ (x ∷ [])) (simp length-append (omega arith)))
      go false e = let l = ltb-false (length xs) limit e in sym (take_at xs (x ∷ []) limit (omega arith))

  -- a value comes to a place that there is, where there is room
  module _ (limit at : ℕ) (x : A) (xs : List A) where
    pub put_within : length xs < limit → at ≤ length xs → put_at limit at x xs ≡ take at xs ++ (x ∷ drop at xs)
    unfolding put_at
    put_within l h = rw (lt-ltb (length xs) limit l, le-ltb (length xs) at h)

    pub put_full : limit ≤ length xs → put_at limit at x xs ≡ xs
    unfolding put_at
    put_full h = rw (le-ltb (length xs) limit h)

    pub put_past : length xs < limit → length xs < at → put_at limit at x xs ≡ xs
    unfolding put_at
    put_past l h = rw (lt-ltb (length xs) limit l, lt-ltb (length xs) at h)

  -- where none has the key, a value that comes to the place of its key is put in by it
  module _ (key : A → ℕ) (a : A) (xs : List A) (n p limit : ℕ) where
    pub put_new : NewAt key a (take n xs) p → p ≤ length (take n xs) → put_at limit p a (take n xs) ≡ insert_within key limit a (take n xs)
    put_new s h = go (ltb (length (take n xs)) limit) refl
      where
        go : (b : Bool) → ltb (length (take n xs)) limit ≡ b → put_at limit p a (take n xs) ≡ insert_within key limit a (take n xs)
        go true e = let l = ltb-true (length (take n xs)) limit e in put_within limit p a (take n xs) l h ∙ held_new key a xs n p s limit l
        go false e = let l = ltb-false (length (take n xs)) limit e in put_full limit p a (take n xs) l ∙ held_full key a xs n p s limit l
