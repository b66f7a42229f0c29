-- What holds of each element of a list holds of each after a step on the list; and lists that are sorted by a key.
-- Assumes nothing.
use Prim.Native.Nat.{ℕ, zero, suc, ◌+◌, ◌≤◌}
use mathlib.Core.Path.{◌≡◌, refl, ap, subst}
use mathlib.Core.List.{List, [], ◌∷◌, ◌++◌}
use mathlib.Core.Bool.{Bool, true, false, cond}
use native.Mathlib.Omega.{arith}
use lib.Dec.{ltb, eqb}
use lib.ListN.{length, get_or, set, replicate}
use borrow.Author.Tests.{ltb-true}
use Rattle.lists.specs.Lists.{found, lookup, insert, has_key, insert_within, filter}
use Rattle.lists.proofs.ListLaws.{not_found}
use Rattle.bincode.specs.Items.{foldl}
use Rattle.bincode.specs.Stands.{All}
use Rattle.signed_votes.proofs.VotesLaws.{AscendsFrom}

module _ {A : Type 0} (P : A → Type 0) where
  -- what is found by a key is one of the elements
  pub all_lookup : (key : A → ℕ) (xs : List A) (k : ℕ) (a : A) → All P xs → lookup key xs k ≡ found a → P a
  unfolding lookup
  all_lookup key [] k a ps e = absurd (not_found e)
  all_lookup key (x ∷ xs) k a ps e = go (eqb (key x) k) e (all_lookup key xs k a ps.1)
    where
      go : (b : Bool) → cond b (found x) (lookup key xs k) ≡ found a → (lookup key xs k ≡ found a → P a) → P a
      go true e ih = let q : x ≡ a = cc in subst P q ps.0
      go false e ih = ih e

  -- one element more at the end
  pub all_more : (xs : List A) (a : A) → All P xs → P a → All P (xs ++ (a ∷ []))
  all_more [] a ps p = (p, tt)
  all_more (x ∷ xs) a ps p = (ps.0, all_more xs a ps.1 p)

  -- one element stored in place of another
  pub all_set : (xs : List A) (i : ℕ) (a : A) → All P xs → P a → All P (set xs i a)
  all_set [] i a ps p = tt
  all_set (x ∷ xs) zero a ps p = (p, ps.1)
  all_set (x ∷ xs) (suc i) a ps p = (ps.0, all_set xs i a ps.1 p)

  -- the same element over and over
  pub all_replicate : (n : ℕ) (a : A) → P a → All P (replicate n a)
  all_replicate zero a p = tt
  all_replicate (suc n) a p = (p, all_replicate n a p)

  -- the element at a place, or what stands for none
  pub all_get_d : (xs : List A) (i : ℕ) (d : A) → All P xs → P d → P (get_or xs i d)
  all_get_d [] i d ps p = p
  all_get_d (x ∷ xs) zero d ps p = ps.0
  all_get_d (x ∷ xs) (suc i) d ps p = all_get_d xs i d ps.1 p

-- what follows for one element follows for each
pub all_then : {A : Type 0} (P Q : A → Type 0) → ((a : A) → P a → Q a) → (xs : List A) → All P xs → All Q xs
all_then P Q f [] ps = tt
all_then P Q f (x ∷ xs) ps = (f x ps.0, all_then P Q f xs ps.1)

-- a fold keeps what each of its steps keeps
pub fold_keeps : {A B : Type 0} (P : B → Type 0) (Q : A → Type 0) (f : B → A → B) → ((b : B) (a : A) → Q a → P b → P (f b a))
    → (b : B) (xs : List A) → All Q xs → P b → P (foldl f b xs)
fold_keeps P Q f one b [] qs p = p
fold_keeps P Q f one b (x ∷ xs) qs p = fold_keeps P Q f one (f b x) xs qs.1 (one b x qs.0 p)

module _ {A : Type 0} (p : A → Bool) where
  -- nothing is left where the test holds of none
  pub filter_none : (xs : List A) → All (λ x. p x ≡ false) xs → filter p xs ≡ []
  unfolding filter
  filter_none [] ps = refl
  filter_none (x ∷ xs) ps = rw ps.0 (filter_none xs ps.1)

module _ {A : Type 0} (key : A → ℕ) where
  -- an element with a new key makes a list longer by one, one with a key that is there does not
  pub insert_length : (a : A) (xs : List A) → (has_key key (key a) xs ≡ true → length (insert key a xs) ≡ length xs) × (has_key key (key a) xs ≡ false → length (insert key a xs) ≡ length xs + 1)
  unfolding insert has_key
  insert_length a [] = (λ e. absurd (let y : ◌≡◌ {A = ℕ} 0 1 = ap (λ (b : Bool). cond b 1 0) e in omega arith), λ e. refl)
  insert_length a (x ∷ xs) = go (ltb (key x) (key a)) (eqb (key x) (key a)) (insert_length a xs)
    where
      go : (b c : Bool)
          → (has_key key (key a) xs ≡ true → length (insert key a xs) ≡ length xs) × (has_key key (key a) xs ≡ false → length (insert key a xs) ≡ length xs + 1)
          → (cond b (has_key key (key a) xs) c ≡ true → length (cond b (x ∷ insert key a xs) (cond c (a ∷ xs) (a ∷ x ∷ xs))) ≡ suc (length xs))
          × (cond b (has_key key (key a) xs) c ≡ false → length (cond b (x ∷ insert key a xs) (cond c (a ∷ xs) (a ∷ x ∷ xs))) ≡ suc (length xs) + 1)
      go true c ih = (λ e. ap suc (ih.0 e), λ e. omega (arith, ih.1 e))
      go false true ih = (λ e. refl, λ e. absurd (let y : ◌≡◌ {A = ℕ} 1 0 = ap (λ (b : Bool). cond b 1 0) e in omega arith))
      go false false ih = (λ e. absurd (let y : ◌≡◌ {A = ℕ} 0 1 = ap (λ (b : Bool). cond b 1 0) e in omega arith), λ e. omega arith)

  -- a list within its limit stays so
  pub within_length : (limit : ℕ) (a : A) (xs : List A) → length xs ≤ limit → length (insert_within key limit a xs) ≤ limit
  unfolding insert_within
  within_length limit a xs h = go (has_key key (key a) xs) refl (ltb (length xs) limit) refl
    where
      go : (b : Bool) → has_key key (key a) xs ≡ b → (c : Bool) → ltb (length xs) limit ≡ c → length (cond b (insert key a xs) (cond c (insert key a xs) xs)) ≤ limit
      go true e c f = omega (arith, (insert_length a xs).0 e)
      go false e true f = omega (arith, (insert_length a xs).1 e, ltb-true (length xs) limit f)
      go false e false f = h

  -- a sorted list is sorted from any lower bound on
  pub ascends_lower : (low high : ℕ) (xs : List A) → low ≤ high → AscendsFrom key high xs → AscendsFrom key low xs
  ascends_lower low high [] h s = tt
  ascends_lower low high (x ∷ xs) h s = let l = s.0 in (omega arith, s.1)

  -- and stays sorted with some elements left out
  pub ascends_filter : (p : A → Bool) (low : ℕ) (xs : List A) → AscendsFrom key low xs → AscendsFrom key low (filter p xs)
  unfolding filter
  ascends_filter p low [] s = tt
  ascends_filter p low (x ∷ xs) s = go (p x) (ascends_filter p (key x + 1) xs s.1)
    where
      go : (b : Bool) → AscendsFrom key (key x + 1) (filter p xs) → AscendsFrom key low (cond b (x ∷ filter p xs) (filter p xs))
      go true r = (s.0, r)
      go false r = let l = s.0 in ascends_lower low (key x + 1) (filter p xs) (omega arith) r
