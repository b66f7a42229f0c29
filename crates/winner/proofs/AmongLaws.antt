-- What is one of a list, what holds of each of a list, how many numbers can be of one, and the lowest of some numbers.
-- Assumes nothing.
use Prim.Native.Nat.{ℕ, zero, suc, ◌≤◌, ◌<◌, min}
use mathlib.Core.Path.{◌≡◌, refl, sym, ap, subst, ◌∙◌}
use mathlib.Core.List.{List, [], ◌∷◌, ◌++◌, map}
use mathlib.Core.Bool.{Bool, true, false, cond}
use mathlib.Core.Logic.{◌⊎◌, inl, inr, ⊎_elim}
use native.Mathlib.Omega.{arith}
use lib.Dec.{ltb, eqb}
use lib.ListN.{length, take, get_or}
use borrow.Author.Tests.{ltb-true, ltb-false, eqb-true, eqb-false}
use Rattle.lists.specs.Lists.{filter}
use Rattle.lists.proofs.ListLaws.{false_true}
use Rattle.bincode.specs.Stands.{All}
use Rattle.winner.specs.Support.{least_with}
use Rattle.winner.specs.BoardTerms.{Among, Unrepeated, Lowest}

module _ {A : Type 0} (P : A → Type 0) where
  -- what holds of each holds of one of them
  pub all_one : (xs : List A) → All P xs → (x : A) → Among x xs → P x
  all_one [] ps x m = absurd m
  all_one (y ∷ ys) ps x m = ⊎_elim (λ (e : x ≡ y). subst P (sym e) ps.0) (λ (n : Among x ys). all_one ys ps.1 x n) m

  -- what holds of each of two parts holds of each
  pub all_both : (xs ys : List A) → All P xs → All P ys → All P (xs ++ ys)
  all_both [] ys ps qs = qs
  all_both (x ∷ xs) ys ps qs = (ps.0, all_both xs ys ps.1 qs)

  -- what holds of each holds of each of a second part
  pub all_behind : (xs ys : List A) → All P (xs ++ ys) → All P ys
  all_behind [] ys ps = ps
  all_behind (x ∷ xs) ys ps = all_behind xs ys ps.1

  -- what holds of each holds of those of which a test holds
  pub all_filter : (p : A → Bool) (xs : List A) → All P xs → All P (filter p xs)
  unfolding filter
  all_filter p [] a = tt
  all_filter p (x ∷ xs) a = go (p x) (all_filter p xs a.1)
    where
      go : (b : Bool) → All P (filter p xs) → All P (cond b (x ∷ filter p xs) (filter p xs))
      go true r = (a.0, r)
      go false r = r

-- what follows for one element follows for each
pub all_follows : {A : Type 0} (P Q : A → Type 0) → ((a : A) → P a → Q a) → (xs : List A) → All P xs → All Q xs
all_follows P Q f [] ps = tt
all_follows P Q f (x ∷ xs) ps = (f x ps.0, all_follows P Q f xs ps.1)

-- the element at a place is among the first
pub among_place : {A : Type 0} (xs : List A) (k i : ℕ) (z : A) → k < i → k < length xs → Among (get_or xs k z) (take i xs)
among_place [] k i z h l = absurd (let y : ⊥ = omega arith in y)
among_place (x ∷ xs) k zero z h l = absurd (let y : ⊥ = omega arith in y)
among_place (x ∷ xs) zero (suc i) z h l = inl refl
among_place (x ∷ xs) (suc k) (suc i) z h l = inr (among_place xs k i z (omega arith) (omega arith))

module _ {A B : Type 0} (f : A → B) where
  -- what one of a list stands for is among what the list stands for
  pub among_map : (x : A) (xs : List A) → Among x xs → Among (f x) (map f xs)
  among_map x [] m = absurd m
  among_map x (y ∷ ys) m = ⊎_elim (λ (e : x ≡ y). inl (rw e)) (λ (n : Among x ys). inr (among_map x ys n)) m

  -- what holds of what each element stands for holds of each of what the list stands for
  pub all_map : (P : B → Type 0) (xs : List A) → All (λ (x : A). P (f x)) xs → All P (map f xs)
  all_map P [] ps = tt
  all_map P (x ∷ xs) ps = (ps.0, all_map P xs ps.1)

module _ {A : Type 0} (p : A → Bool) where
  -- those of which a test holds: one of them is one of all, and the test holds of it
  pub filter_among : (x : A) (xs : List A) → Among x (filter p xs) → Among x xs × (p x ≡ true)
  unfolding filter
  filter_among x [] m = absurd m
  filter_among x (y ∷ ys) m = go (p y) refl m (filter_among x ys)
    where
      go : (b : Bool) → p y ≡ b → Among x (cond b (y ∷ filter p ys) (filter p ys)) → (Among x (filter p ys) → Among x ys × (p x ≡ true)) → ((x ≡ y) ⊎ Among x ys) × (p x ≡ true)
      go true t m ih = ⊎_elim (λ (e : x ≡ y). (inl e, ap p e ∙ t)) (λ (n : Among x (filter p ys)). let r = ih n in (inr r.0, r.1)) m
      go false t m ih = let r = ih m in (inr r.0, r.1)

  pub among_filter : (x : A) (xs : List A) → Among x xs → p x ≡ true → Among x (filter p xs)
  unfolding filter
  among_filter x [] m t = absurd m
  among_filter x (y ∷ ys) m t = go (p y) refl m (λ n. among_filter x ys n t)
    where
      go : (b : Bool) → p y ≡ b → (x ≡ y) ⊎ Among x ys → (Among x ys → Among x (filter p ys)) → Among x (cond b (y ∷ filter p ys) (filter p ys))
      go true u m ih = ⊎_elim (λ (e : x ≡ y). inl e) (λ (n : Among x ys). inr (ih n)) m
      go false u m ih = ⊎_elim (λ (e : x ≡ y). absurd (false_true (sym u ∙ ap p (sym e) ∙ t))) ih m

-- the lower of two numbers is one of them
min_one : (n m : ℕ) → (min n m ≡ n) ⊎ (min n m ≡ m)
min_one n m = go (ltb n m) refl
  where
    go : (b : Bool) → ltb n m ≡ b → (min n m ≡ n) ⊎ (min n m ≡ m)
    go true t = let l = ltb-true n m t in inl (omega arith)
    go false t = let l = ltb-false n m t in inr (omega arith)

-- the lowest found is one of the numbers, and none is lower
pub least_with_lem : (n : ℕ) (ns : List ℕ) → Lowest (least_with n ns) (n ∷ ns)
least_with_lem n [] = (inl refl, (omega arith, tt))
least_with_lem n (m ∷ ms) =
    let l = least_with_lem (min n m) ms in
    let k : least_with (min n m) ms ≤ min n m = l.1.0 in
    (one (least_with (min n m) ms) l.0, (omega arith, (omega arith, l.1.1)))
  where
    one : (z : ℕ) → (z ≡ min n m) ⊎ Among z ms → (z ≡ n) ⊎ ((z ≡ m) ⊎ Among z ms)
    one z (inl e) = ⊎_elim (λ (f : min n m ≡ n). inl (e ∙ f)) (λ (f : min n m ≡ m). inr (inl (e ∙ f))) (min_one n m)
    one z (inr i) = inr (inr i)

-- two lowest of the same numbers are equal
pub lowest_one : (n m : ℕ) (ns : List ℕ) → Lowest n ns → Lowest m ns → n ≡ m
lowest_one n m ns l k =
    let a = all_one (λ (z : ℕ). n ≤ z) ns l.1 m k.0 in
    let b = all_one (λ (z : ℕ). m ≤ z) ns k.1 n l.0 in
    omega arith

-- a list without the first n
without : ℕ → List ℕ → List ℕ
without n [] = []
without n (m ∷ ms) = cond (eqb m n) ms (m ∷ without n ms)

without_shorter : (n : ℕ) (ms : List ℕ) → Among n ms → length ms ≡ suc (length (without n ms))
unfolding without
without_shorter n [] a = absurd a
without_shorter n (m ∷ ms) a = go (eqb m n) refl a (without_shorter n ms)
  where
    go : (b : Bool) → eqb m n ≡ b → (n ≡ m) ⊎ Among n ms → (Among n ms → length ms ≡ suc (length (without n ms))) → suc (length ms) ≡ suc (length (cond b ms (m ∷ without n ms)))
    go true e a ih = refl
    go false e a ih = ap suc (ih (⊎_elim (λ (q : n ≡ m). absurd (eqb-false m n e (sym q))) (λ (k : Among n ms). k) a))

-- another number stays
without_keeps : (n k : ℕ) (ms : List ℕ) → (k ≡ n → ⊥) → Among k ms → Among k (without n ms)
unfolding without
without_keeps n k [] other a = a
without_keeps n k (m ∷ ms) other a = go (eqb m n) refl a (without_keeps n k ms other)
  where
    go : (b : Bool) → eqb m n ≡ b → (k ≡ m) ⊎ Among k ms → (Among k ms → Among k (without n ms)) → Among k (cond b ms (m ∷ without n ms))
    go true e a ih = ⊎_elim (λ (q : k ≡ m). absurd (other (q ∙ eqb-true m n e))) (λ (r : Among k ms). r) a
    go false e a ih = ⊎_elim (λ (q : k ≡ m). inl q) (λ (r : Among k ms). inr (ih r)) a

-- numbers that do not stand twice, each of them one of a list, are no more than the list has
pub few_among : (ns ms : List ℕ) → Unrepeated ns → All (λ (n : ℕ). Among n ms) ns → length ns ≤ length ms
few_among [] ms u a = omega arith
few_among (n ∷ ns) ms u a = omega (arith, without_shorter n ms a.0, few_among ns (without n ms) u.1 (rest ns u.0 a.1))
  where
    rest : (ks : List ℕ) → (Among n ks → ⊥) → All (λ (k : ℕ). Among k ms) ks → All (λ (k : ℕ). Among k (without n ms)) ks
    rest [] none a = tt
    rest (k ∷ ks) none a = (without_keeps n k ms (λ (q : k ≡ n). none (inl (sym q))) a.0, rest ks (λ m. none (inr m)) a.1)
