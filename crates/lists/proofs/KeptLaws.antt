-- Laws of an array in which a loop keeps, moved to the front, the elements of which a test holds.
-- Assumes nothing.
use Prim.Native.Nat.{ℕ, ◌+◌, ◌≤◌, ◌<◌}
use mathlib.Core.Path.{◌≡◌, refl, sym, ap, ◌∙◌}
use mathlib.Core.List.{List, [], ◌∷◌, ◌++◌, append_assoc, append-nil, map}
use mathlib.Core.Bool.{Bool, true, false, cond}
use native.Mathlib.Omega.{arith}
use native.Mathlib.Numerals.{add-one}
use lib.ListN.{length, take, drop, get_or, set, length-take, length-set, length-map}
use lib.Seq.{take-suc-set, take-set-lt, drop-set-lt}
use Rattle.lists.specs.Lists.{filter}
use Rattle.lists.proofs.ListLaws.{rest_more, rest_none, take_live}

module _ {A : Type 0} (p : A → Bool) (n : ℕ) where
  -- with `kept` elements kept among the first `i`: these, and those of the rest that pass
  abbrev pub kept_and : List A → ℕ → ℕ → List A
  kept_and ys kept i = take kept ys ++ filter p (drop i (take n ys))

  -- a turn of the loop: the element passes and is stored behind those kept, or it does not
  module _ (ys : List A) (kept i : ℕ) (z : A) (k : kept ≤ i) (l : i < n) (h : n ≤ length ys) where
    next : drop i (take n ys) ≡ get_or ys i z ∷ drop (i + 1) (take n ys)
    next = rest_more ys n i z (simp length-take (omega arith))

    pub kept_yes : p (get_or ys i z) ≡ true → kept_and ys kept i ≡ kept_and (set ys kept (get_or ys i z)) (kept + 1) (i + 1)
    unfolding filter
    kept_yes e =
        let x = get_or ys i z in
        let front : take (kept + 1) (set ys kept x) ≡ take kept ys ++ (x ∷ []) = rw add-one (take-suc-set ys kept x (omega arith)) in
        let rest : drop (i + 1) (take n (set ys kept x)) ≡ drop (i + 1) (take n ys) = rw (take-set-lt n ys kept x (omega arith)) (drop-set-lt (i + 1) (take n ys) kept x (omega arith)) in
        rw (next, e, front, rest, append_assoc)

    pub kept_no : p (get_or ys i z) ≡ false → kept_and ys kept i ≡ kept_and ys kept (i + 1)
    unfolding filter
    kept_no e = rw (next, e)

  -- nothing is left
  pub kept_end : (ys : List A) (kept i : ℕ) → n ≤ i → kept_and ys kept i ≡ take kept ys
  unfolding filter
  kept_end ys kept i h = rw (rest_none (take n ys) i (omega (arith, length-take n ys)), append-nil)

-- the same of what the elements stand for, where the test is on that
module _ {A B : Type 0} (f : A → B) (q : B → Bool) where
  pub map_filter : (xs : List A) → map f (filter (λ x. q (f x)) xs) ≡ filter q (map f xs)
  unfolding filter
  map_filter [] = refl
  map_filter (x ∷ xs) = go (q (f x)) (map_filter xs)
    where
      go : (b : Bool) → map f (filter (λ x. q (f x)) xs) ≡ filter q (map f xs)
          → map f (cond b (x ∷ filter (λ x. q (f x)) xs) (filter (λ x. q (f x)) xs)) ≡ cond b (f x ∷ filter q (map f xs)) (filter q (map f xs))
      go true e = ap (λ (ys : List B). f x ∷ ys) e
      go false e = e

-- A loop over the elements below a count, n of them, in an array of `limit` places: where it stands, and how it goes on. What it keeps stands for what passes the test.
module _ {A B : Type 0} (f : A → B) (q : B → Bool) (xs : List A) (count limit n : ℕ) where
  abbrev pub Keeping : List A → ℕ → ℕ → Type 0
  Keeping ys kept i =
      (kept ≤ i) × (i ≤ n) × (n ≤ limit) × (length ys ≡ limit) × (kept_and (λ x. q (f x)) n ys kept i ≡ filter (λ x. q (f x)) (take count xs))

  pub keep_start : length xs ≡ limit → n ≡ length (map f (take count xs)) → n ≤ limit → Keeping xs 0 0
  keep_start l e h =
      let live : take n xs ≡ take count xs = ap (λ (k : ℕ). take k xs) (e ∙ length-map (take count xs) f) ∙ take_live count xs in
      (omega arith, omega arith, h, l, ap (filter (λ x. q (f x))) live)

  -- a turn: the element passes and is stored behind those kept, or it does not
  module _ (ys : List A) (kept i : ℕ) (z : A) (v : Keeping ys kept i) (l : i < n) where
    pub keep_yes : q (f (get_or ys i z)) ≡ true → Keeping (set ys kept (get_or ys i z)) (kept + 1) (i + 1)
    keep_yes e =
        (omega (arith, v.0), omega arith, v.2, length-set ys kept (get_or ys i z) ∙ v.3, sym (kept_yes (λ x. q (f x)) n ys kept i z v.0 l (omega (arith, v.2, v.3)) e) ∙ v.4)

    pub keep_no : q (f (get_or ys i z)) ≡ false → Keeping ys kept (i + 1)
    keep_no e = (omega (arith, v.0), omega arith, v.2, v.3, sym (kept_no (λ x. q (f x)) n ys kept i z v.0 l (omega (arith, v.2, v.3)) e) ∙ v.4)

  -- nothing is left: the elements kept, and what they stand for
  pub keep_held : (ys : List A) (kept i : ℕ) → Keeping ys kept i → n ≤ i → take kept ys ≡ filter (λ x. q (f x)) (take count xs)
  keep_held ys kept i v h = sym (kept_end (λ x. q (f x)) n ys kept i h) ∙ v.4
