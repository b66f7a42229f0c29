-- What the searches of `place` and `get` answer, by the definitions of sorted lists.
-- Assumes nothing.
use Prim.Native.Nat.{ℕ, zero, suc}
use mathlib.Core.Path.{◌≡◌, refl, sym, ap}
use mathlib.Core.List.{List, [], ◌∷◌}
use mathlib.Core.Bool.{Bool, true, false, cond}
use native.Mathlib.Omega.{arith}
use lib.Dec.{ltb, leb, eqb}
use lib.ListN.{length, get_or}
use denote.Ref.{Bor}
use Rattle.std.specs.Prelude.{position, find, slice_get, Some, None}
use Rattle.std.specs.declared.option.Option.{Option}
use Rattle.std.specs.List.{position_or_len}
use Rattle.std.specs.Option.{unwrap_or, is_some, IfSome, option_copied}
use borrow.Author.Tests.{lt-ltb, le-ltb, lt-leb, ltb-true, ltb-false, le-leb, true-ltb, false-ltb}
use Rattle.lists.specs.Lists.{found, option_as_found, at_place, lookup, below}
use Rattle.lists.proofs.SortedLaws.{below_le}

module _ {A : Type 0} (key : A → ℕ) (k : ℕ) where
  -- before the first whose key is not below this one
  below_first : (xs : List A) → position_or_len (λ x. leb k (key x)) xs ≡ below key k xs
  unfolding below
  below_first [] = refl
  below_first (x ∷ xs) = go (ltb (key x) k) refl (below_first xs)
    where
      go : (b : Bool) → ltb (key x) k ≡ b → position_or_len (λ x. leb k (key x)) xs ≡ below key k xs → position_or_len (λ x. leb k (key x)) (x ∷ xs) ≡ below key k (x ∷ xs)
      go true e h = rw (e, lt-leb k (key x) (ltb-true (key x) k e)) (omega (arith, h))
      go false e h = rw (e, le-leb k (key x) (ltb-false (key x) k e)) refl

  pub place_found : (xs : List A) → unwrap_or (position (λ x. leb k (key x)) xs) (length xs) ≡ below key k xs
  place_found xs = go (ltb (position_or_len (λ x. leb k (key x)) xs) (length xs)) refl
    where
      go : (b : Bool) → ltb (position_or_len (λ x. leb k (key x)) xs) (length xs) ≡ b → unwrap_or (cond b (Some (position_or_len (λ x. leb k (key x)) xs)) None) (length xs) ≡ below key k xs
      go true e = below_first xs
      go false e = let l = ltb-false (position_or_len (λ x. leb k (key x)) xs) (length xs) e in omega (arith, below_first xs, below_le key k xs)

  -- the first with the key
  pub get_found : (xs : List A) → option_as_found (λ (x : A). x) (find (λ x. eqb (key x) k) xs) ≡ lookup key xs k
  unfolding lookup
  get_found [] = refl
  get_found (x ∷ xs) = go (eqb (key x) k) (get_found xs)
    where
      go : (b : Bool) → option_as_found (λ (x : A). x) (find (λ x. eqb (key x) k) xs) ≡ lookup key xs k
          → option_as_found (λ (x : A). x) (cond b (Some x) (find (λ x. eqb (key x) k) xs)) ≡ cond b (found x) (lookup key xs k)
      go true h = refl
      go false h = h

-- what `get` lends is the value at the place
pub item_got : {A : Type 0} (xs : List A) (i : ℕ) (r : Option (Bor A)) → is_some r ≡ ltb i (length xs) → IfSome r (λ x. x.now ≡ get_or xs i x.now) → option_copied r ≡ slice_get xs i
item_got [] i None e h = refl
item_got [] i (Some x) e h = let l = true-ltb i 0 e in absurd (omega arith)
item_got (y ∷ xs) zero None e h = let l = false-ltb 0 (suc (length xs)) e in absurd (omega arith)
item_got (y ∷ xs) zero (Some x) e h = ap Some h
item_got (y ∷ xs) (suc i) None e h = let l = false-ltb (suc i) (suc (length xs)) e in item_got xs i None (sym (le-ltb i (length xs) (omega arith))) h
item_got (y ∷ xs) (suc i) (Some x) e h = let l = true-ltb (suc i) (suc (length xs)) e in item_got xs i (Some x) (sym (lt-ltb i (length xs) (omega arith))) h

pub at_got : {A : Type 0} (xs : List A) (i : ℕ) → option_as_found (λ (x : A). x) (slice_get xs i) ≡ at_place i xs
unfolding at_place
at_got [] i = refl
at_got (x ∷ xs) zero = refl
at_got (x ∷ xs) (suc i) = at_got xs i
