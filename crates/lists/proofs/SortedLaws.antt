-- Laws of lists that are sorted by a key and held in an array with a count.
-- Assumes nothing.
use Prim.Native.Nat.{ℕ, suc, ◌≤◌, ◌<◌}
use mathlib.Core.Path.{◌≡◌, refl, sym, ap, ◌∙◌}
use mathlib.Core.List.{List, [], ◌∷◌, ◌++◌, map}
use mathlib.Core.Bool.{Bool, true, false, cond}
use native.Mathlib.Omega.{arith}
use lib.Dec.{ltb, eqb}
use lib.ListN.{length, take, drop, get_or, set, length-take, length-map}
use lib.Seq.{get_or-take, take-set-lt}
use borrow.Author.Tests.{lt-ltb, le-ltb, ltb-true, eq-eqb, ne_eqb, eqb-true}
use Rattle.lists.specs.Lists.{found, map_found, lookup, below, insert, has_key, insert_within, takes_place}
use Rattle.lists.proofs.ListLaws.{false_true}

module _ {A : Type 0} (key : A → ℕ) where
  pub below_le : (k : ℕ) (xs : List A) → below key k xs ≤ length xs
  unfolding below
  below_le k [] = omega arith
  below_le k (x ∷ xs) = go (ltb (key x) k) (below_le k xs)
    where
      go : (b : Bool) → below key k xs ≤ length xs → cond b (suc (below key k xs)) 0 ≤ suc (length xs)
      go true h = omega arith
      go false h = omega arith

  -- the element at the place has the key, or it has another, or there is none
  pub at_same : (a z : A) (xs : List A) → below key (key a) xs < length xs → key (get_or xs (below key (key a) xs) z) ≡ key a
      → (has_key key (key a) xs ≡ true) × (insert key a xs ≡ set xs (below key (key a) xs) a)
  unfolding below insert has_key
  at_same a z [] l e = absurd (let y : ⊥ = omega arith in y)
  at_same a z (x ∷ xs) l e = go (ltb (key x) (key a)) l e (at_same a z xs)
    where
      go : (b : Bool) → cond b (suc (below key (key a) xs)) 0 < suc (length xs)
          → key (get_or (x ∷ xs) (cond b (suc (below key (key a) xs)) 0) z) ≡ key a
          → (below key (key a) xs < length xs → key (get_or xs (below key (key a) xs) z) ≡ key a → (has_key key (key a) xs ≡ true) × (insert key a xs ≡ set xs (below key (key a) xs) a))
          → (cond b (has_key key (key a) xs) (eqb (key x) (key a)) ≡ true)
          × (cond b (x ∷ insert key a xs) (cond (eqb (key x) (key a)) (a ∷ xs) (a ∷ x ∷ xs)) ≡ set (x ∷ xs) (cond b (suc (below key (key a) xs)) 0) a)
      go true l e ih = let r = ih (omega arith) e in (r.0, ap (λ (ys : List A). x ∷ ys) r.1)
      go false l e ih = (eq-eqb (key x) (key a) e, rw (eq-eqb (key x) (key a) e))

  pub at_other : (a z : A) (xs : List A) → (below key (key a) xs < length xs → key (get_or xs (below key (key a) xs) z) ≡ key a → ⊥)
      → (has_key key (key a) xs ≡ false) × (insert key a xs ≡ take (below key (key a) xs) xs ++ (a ∷ drop (below key (key a) xs) xs))
  unfolding below insert has_key
  at_other a z [] n = (refl, refl)
  at_other a z (x ∷ xs) n = go (ltb (key x) (key a)) n (at_other a z xs)
    where
      go : (b : Bool)
          → (cond b (suc (below key (key a) xs)) 0 < suc (length xs) → key (get_or (x ∷ xs) (cond b (suc (below key (key a) xs)) 0) z) ≡ key a → ⊥)
          → ((below key (key a) xs < length xs → key (get_or xs (below key (key a) xs) z) ≡ key a → ⊥)
          → (has_key key (key a) xs ≡ false) × (insert key a xs ≡ take (below key (key a) xs) xs ++ (a ∷ drop (below key (key a) xs) xs)))
          → (cond b (has_key key (key a) xs) (eqb (key x) (key a)) ≡ false)
          × (cond b (x ∷ insert key a xs) (cond (eqb (key x) (key a)) (a ∷ xs) (a ∷ x ∷ xs))
          ≡ take (cond b (suc (below key (key a) xs)) 0) (x ∷ xs) ++ (a ∷ drop (cond b (suc (below key (key a) xs)) 0) (x ∷ xs)))
      go true n ih = let r = ih (λ l e. n (omega arith) e) in (r.0, ap (λ (ys : List A). x ∷ ys) r.1)
      go false n ih =
          let e = ne_eqb (key x) (key a) (λ e. n (omega arith) e) in
          (e, rw e)

  -- what the bounded insertion comes to in each case
  module _ (limit : ℕ) (a : A) (xs : List A) where
    pub within_same : has_key key (key a) xs ≡ true → insert_within key limit a xs ≡ insert key a xs
    unfolding insert_within
    within_same e = rw e

    pub within_new : has_key key (key a) xs ≡ false → length xs < limit → insert_within key limit a xs ≡ insert key a xs
    unfolding insert_within
    within_new e h = rw (e, lt-ltb (length xs) limit h)

    -- it gets a place, or it does not
    pub within_taken : takes_place key limit (key a) xs ≡ true → insert_within key limit a xs ≡ insert key a xs
    unfolding takes_place insert_within
    within_taken = go (has_key key (key a) xs) (ltb (length xs) limit)
      where
        go : (p q : Bool) → cond p true q ≡ true → cond p (insert key a xs) (cond q (insert key a xs) xs) ≡ insert key a xs
        go true q e = refl
        go false true e = refl
        go false false e = absurd (false_true e)

    pub within_left : takes_place key limit (key a) xs ≡ false → insert_within key limit a xs ≡ xs
    unfolding takes_place insert_within
    within_left = go (has_key key (key a) xs) (ltb (length xs) limit)
      where
        go : (p q : Bool) → cond p true q ≡ false → cond p (insert key a xs) (cond q (insert key a xs) xs) ≡ xs
        go true q e = absurd (false_true (sym e))
        go false true e = absurd (false_true (sym e))
        go false false e = refl

    pub within_full : has_key key (key a) xs ≡ false → limit ≤ length xs → insert_within key limit a xs ≡ xs
    unfolding insert_within
    within_full e h = rw (e, le-ltb (length xs) limit h)

-- the same of what the elements stand for, where that has the key
module _ {A B : Type 0} (f : A → B) (key : B → ℕ) where
  abbrev pub key_of : A → ℕ
  key_of x = key (f x)

  pub map_has_key : (k : ℕ) (xs : List A) → has_key key_of k xs ≡ has_key key k (map f xs)
  unfolding has_key
  map_has_key k [] = refl
  map_has_key k (x ∷ xs) = rw (map_has_key k xs)

  pub map_insert : (a : A) (xs : List A) → map f (insert key_of a xs) ≡ insert key (f a) (map f xs)
  unfolding insert
  map_insert a [] = refl
  map_insert a (x ∷ xs) = go (ltb (key (f x)) (key (f a))) (eqb (key (f x)) (key (f a))) (map_insert a xs)
    where
      go : (p q : Bool) → map f (insert key_of a xs) ≡ insert key (f a) (map f xs)
          → map f (cond p (x ∷ insert key_of a xs) (cond q (a ∷ xs) (a ∷ x ∷ xs))) ≡ cond p (f x ∷ insert key (f a) (map f xs)) (cond q (f a ∷ map f xs) (f a ∷ f x ∷ map f xs))
      go true q e = ap (λ (ys : List B). f x ∷ ys) e
      go false true e = refl
      go false false e = refl

  pub map_insert_within : (limit : ℕ) (a : A) (xs : List A) → map f (insert_within key_of limit a xs) ≡ insert_within key limit (f a) (map f xs)
  unfolding insert_within
  map_insert_within limit a xs = rw (map_has_key (key (f a)) xs, length-map xs f) (go (has_key key (key (f a)) (map f xs)) (ltb (length xs) limit))
    where
      go : (p q : Bool) → map f (cond p (insert key_of a xs) (cond q (insert key_of a xs) xs)) ≡ cond p (insert key (f a) (map f xs)) (cond q (insert key (f a) (map f xs)) (map f xs))
      go true q = map_insert a xs
      go false true = map_insert a xs
      go false false = refl

  pub map_lookup : (xs : List A) (k : ℕ) → map_found f (lookup key_of xs k) ≡ lookup key (map f xs) k
  unfolding lookup
  map_lookup [] k = refl
  map_lookup (x ∷ xs) k = go (eqb (key (f x)) k) (map_lookup xs k)
    where
      go : (b : Bool) → map_found f (lookup key_of xs k) ≡ lookup key (map f xs) k → map_found f (cond b (found x) (lookup key_of xs k)) ≡ cond b (found (f x)) (lookup key (map f xs) k)
      go true e = refl
      go false e = e

-- an element put into those of an array below a count, where p is the place of its key
module _ {A : Type 0} (key : A → ℕ) (a : A) (xs : List A) (p : ℕ) where
  -- none has the key, and the element belongs at the place
  abbrev pub NewAt : Type 0
  NewAt = (has_key key (key a) xs ≡ false) × (insert key a xs ≡ take p xs ++ (a ∷ drop p xs))

module _ {A : Type 0} (key : A → ℕ) (a : A) (xs : List A) (n p : ℕ) where
  module _ (e : p ≡ below key (key a) (take n xs)) where
    pub new_last : length (take n xs) ≤ p → NewAt key a (take n xs) p
    new_last l = rw e (at_other key a a (take n xs) (λ k _. let y : ⊥ = omega arith in y))

    module _ (z : A) (l : p < length (take n xs)) where
      stands : get_or (take n xs) p z ≡ get_or xs p z
      stands = get_or-take n xs p z (omega (arith, length-take n xs))

      pub new_between : (key (get_or xs p z) ≡ key a → ⊥) → NewAt key a (take n xs) p
      new_between h = rw e (at_other key a z (take n xs) (λ _ g. h (rw (← stands, e) g)))

      -- the element at the place has the key: it is found, and the new one is stored in its place
      module _ (h : key (get_or xs p z) ≡ key a) where
        same_at : (has_key key (key a) (take n xs) ≡ true) × (insert key a (take n xs) ≡ set (take n xs) (below key (key a) (take n xs)) a)
        same_at = let g : key (get_or (take n xs) p z) ≡ key a = rw stands h in at_same key a z (take n xs) (rw e at l) (rw e at g)

        pub held_same : (limit : ℕ) → take n (set xs p a) ≡ insert_within key limit a (take n xs)
        held_same limit =
            let i : take n (set xs p a) ≡ set (take n xs) p a = take-set-lt n xs p a (omega (arith, length-take n xs)) in
            i ∙ rw e (sym same_at.1) ∙ sym (within_same key limit a (take n xs) same_at.0)

  module _ (s : NewAt key a (take n xs) p) (limit : ℕ) where
    pub held_new : length (take n xs) < limit → take p (take n xs) ++ (a ∷ drop p (take n xs)) ≡ insert_within key limit a (take n xs)
    held_new l = sym (within_new key limit a (take n xs) s.0 l ∙ s.1)

    pub held_full : limit ≤ length (take n xs) → take n xs ≡ insert_within key limit a (take n xs)
    held_full l = sym (within_full key limit a (take n xs) s.0 l)

-- what an insertion does to a list, sorted or not
module _ {A : Type 0} (key : A → ℕ) where
  -- the element is found by its key
  pub insert_lookup : (a : A) (xs : List A) → lookup key (insert key a xs) (key a) ≡ found a
  unfolding insert lookup
  insert_lookup a [] = rw (eq-eqb (key a) (key a) refl)
  insert_lookup a (x ∷ xs) = go (ltb (key x) (key a)) refl (eqb (key x) (key a)) (insert_lookup a xs)
    where
      go : (p : Bool) → ltb (key x) (key a) ≡ p → (q : Bool) → lookup key (insert key a xs) (key a) ≡ found a
          → lookup key (cond p (x ∷ insert key a xs) (cond q (a ∷ xs) (a ∷ x ∷ xs))) (key a) ≡ found a
      go true e q ih = let l : key x < key a = ltb-true (key x) (key a) e in rw (ne_eqb (key x) (key a) (λ f. omega arith)) ih
      go false e true ih = rw (eq-eqb (key a) (key a) refl)
      go false e false ih = rw (eq-eqb (key a) (key a) refl)

  -- what is found by another key stays
  pub insert_other : (a : A) (xs : List A) (k : ℕ) → (key a ≡ k → ⊥) → lookup key (insert key a xs) k ≡ lookup key xs k
  unfolding insert lookup
  insert_other a [] k n = rw (ne_eqb (key a) k n)
  insert_other a (x ∷ xs) k n = go (ltb (key x) (key a)) (eqb (key x) (key a)) refl (insert_other a xs k n)
    where
      go : (p q : Bool) → eqb (key x) (key a) ≡ q → lookup key (insert key a xs) k ≡ lookup key xs k
          → lookup key (cond p (x ∷ insert key a xs) (cond q (a ∷ xs) (a ∷ x ∷ xs))) k ≡ cond (eqb (key x) k) (found x) (lookup key xs k)
      go true q e ih = ap (cond (eqb (key x) k) (found x)) ih
      go false true e ih = let f : key x ≡ key a = eqb-true (key x) (key a) e in rw (ne_eqb (key a) k n, f, ne_eqb (key a) k n)
      go false false e ih = rw (ne_eqb (key a) k n)

  -- the same where there is room for a limit only
  pub within_other : (limit : ℕ) (a : A) (xs : List A) (k : ℕ) → (key a ≡ k → ⊥) → lookup key (insert_within key limit a xs) k ≡ lookup key xs k
  unfolding insert_within
  within_other limit a xs k n = go (has_key key (key a) xs) (ltb (length xs) limit)
    where
      go : (p q : Bool) → lookup key (cond p (insert key a xs) (cond q (insert key a xs) xs)) k ≡ lookup key xs k
      go true q = insert_other a xs k n
      go false true = insert_other a xs k n
      go false false = refl
