-- Laws of lists that code holds as an array with a count.
-- Assumes nothing.
use Prim.Native.Nat.{ℕ, zero, suc, ◌+◌, ◌-◌, ◌≤◌, ◌<◌}
use mathlib.Core.Path.{◌≡◌, refl, sym, ap, ◌∙◌}
use mathlib.Core.List.{List, [], ◌∷◌, ◌++◌, append_assoc}
use mathlib.Core.Bool.{Bool, true, false, cond, ◌&&◌}
use native.Mathlib.Omega.{arith}
use native.Mathlib.Numerals.{add-one}
use lib.ListN.{length, take, drop, get_or, set, replicate, length-append, length-take, length-replicate, drop_of_length-le}
use lib.Seq.{drop-cons, get_or-take, set_at, take_at, take-suc-set}
use Rattle.lists.specs.Lists.{found, nothing, padded, eq_list}

-- a test does not come out both ways
pub false_true : ◌≡◌ {A = Bool} false true → ⊥
false_true e = let z : ◌≡◌ {A = ℕ} 0 1 = ap (λ (b : Bool). cond b 1 0) e in omega arith

module _ {A : Type 0} {a : A} where
  -- what is found is one value
  pub found_same : {b : A} → found a ≡ found b → a ≡ b
  found_same e = cc

  -- and nothing is not found
  pub not_found : nothing ≡ found a → ⊥
  not_found e = let z : ◌≡◌ {A = ℕ} 0 1 = cc in omega arith

-- what two tests in a row say
pub and_both : (a b : Bool) → (a && b) ≡ true → (a ≡ true) × (b ≡ true)
and_both true b e = (refl, e)
and_both false b e = absurd (false_true e)

-- which of two a test picks, where the test is a field or an element and not to be rewritten elsewhere
module _ {A : Type 0} {b : Bool} (x y : A) where
  pub cond_yes : b ≡ true → cond b x y ≡ x
  cond_yes e = rw e

  pub cond_no : b ≡ false → cond b x y ≡ y
  cond_no e = rw e

module _ {A : Type 0} where
  -- what is left from place i on: the element there, and what is left behind it
  pub rest_more : (xs : List A) (n i : ℕ) (z : A) → i < length (take n xs) → drop i (take n xs) ≡ get_or xs i z ∷ drop (i + 1) (take n xs)
  rest_more xs n i z l =
      let h : i < n = omega (arith, length-take n xs) in
      rw (add-one, drop-cons (take n xs) i z l, get_or-take n xs i z h)

  -- nothing is left
  pub rest_none : (xs : List A) (i : ℕ) → length xs ≤ i → drop i xs ≡ []
  rest_none xs i h = drop_of_length-le xs h

  -- cut to its own length, what was cut stays as it is
  pub take_live : (n : ℕ) (xs : List A) → take (length (take n xs)) xs ≡ take n xs
  take_live zero xs = refl
  take_live (suc n) [] = refl
  take_live (suc n) (x ∷ xs) = ap (λ (ys : List A). x ∷ ys) (take_live n xs)

  -- one element more behind those below a count, in an array of `limit` places
  module _ (xs : List A) (count limit n : ℕ) (x : A) (l : length xs ≡ limit) (e : n ≡ length (take count xs)) where
    -- stored at the next place, it stands behind them
    pub append_live : n < limit → take (n + 1) (set xs n x) ≡ take count xs ++ (x ∷ [])
    append_live h =
        let live : take n xs ≡ take count xs = ap (λ (k : ℕ). take k xs) e ∙ take_live count xs in
        rw (add-one, take-suc-set xs n x (omega arith), live)

  -- a list held in an array of n places
  module _ (n : ℕ) (none : A) where
    pub length_padded : (xs : List A) → length xs ≤ n → length (padded n none xs) ≡ n
    unfolding padded
    length_padded xs h = simp (length-append, length-replicate) (omega arith)

    pub take_padded : (xs : List A) → take (length xs) (padded n none xs) ≡ xs
    unfolding padded
    take_padded xs = take_at xs (replicate (n - length xs) none) (length xs) refl

    -- one element more, stored at the next place
    pub padded_set : (xs : List A) (i : ℕ) (x : A) → i ≡ length xs → i < n → set (padded n none xs) i x ≡ padded n none (xs ++ (x ∷ []))
    unfolding padded
    padded_set xs i x e h =
        let l : length (xs ++ (x ∷ [])) ≡ length xs + 1 = length-append xs (x ∷ []) in
        let f : n - length xs ≡ suc (n - length (xs ++ (x ∷ []))) = omega arith in
        rw (f, set_at xs none (replicate (n - length (xs ++ (x ∷ []))) none) x i (sym e), append_assoc)

  -- equality of lists says what its name says, where equality of elements does
  module _ (eq : A → A → Bool) where
    pub eq_lengths : (xs ys : List A) → (length xs ≡ length ys → ⊥) → eq_list eq xs ys ≡ false
    unfolding eq_list
    eq_lengths [] [] h = absurd (h refl)
    eq_lengths [] (y ∷ ys) h = refl
    eq_lengths (x ∷ xs) [] h = refl
    eq_lengths (x ∷ xs) (y ∷ ys) h = rw (eq_lengths xs ys (λ e. h (ap suc e))) (go (eq x y))
      where
        go : (b : Bool) → (b && false) ≡ false
        go true = refl
        go false = refl

    pub eq_list_true : ((x y : A) → eq x y ≡ true → x ≡ y) → (xs ys : List A) → eq_list eq xs ys ≡ true → xs ≡ ys
    unfolding eq_list
    eq_list_true one [] [] e = refl
    eq_list_true one [] (y ∷ ys) e = absurd (false_true e)
    eq_list_true one (x ∷ xs) [] e = absurd (false_true e)
    eq_list_true one (x ∷ xs) (y ∷ ys) e = go (eq x y) refl e (eq_list_true one xs ys)
      where
        go : (b : Bool) → eq x y ≡ b → (b && eq_list eq xs ys) ≡ true → (eq_list eq xs ys ≡ true → xs ≡ ys) → x ∷ xs ≡ y ∷ ys
        go true e f ih = rw (one x y e, ih f)
        go false e f ih = absurd (false_true f)

    pub eq_list_refl : ((x : A) → eq x x ≡ true) → (xs : List A) → eq_list eq xs xs ≡ true
    unfolding eq_list
    eq_list_refl one [] = refl
    eq_list_refl one (x ∷ xs) = rw (one x) (eq_list_refl one xs)
