-- Laws of a run of items, for every kind of item. A loop keeps `items n st at ≡ after done (items (n - i) st' at')`.
-- Assumes nothing.
use Prim.Native.Nat.{ℕ, zero, suc, ◌+◌, ◌-◌, ◌≤◌, ◌<◌}
use mathlib.Core.Path.{◌≡◌, refl, sym, ap, ◌∙◌}
use mathlib.Core.List.{List, [], ◌∷◌, ◌++◌, append_assoc, append-nil}
use native.Mathlib.Omega.{arith}
use native.Mathlib.Nat.{sub-zero}
use lib.ListN.{length}
use borrow.Author.Tests.{le-ltb, ltb-false}
use mathlib.Core.Bool.{Bool, true, false, cond}
use lib.Dec.{ltb}
use Rattle.std.specs.declared.result.Result.{Result}
use Rattle.std.specs.declared.result.Result.TheVariants.{Ok, Err}
use Rattle.bincode.specs.Read.{Read, value, refuse, bind}
use Rattle.bincode.specs.Numbers.{Edition, fixed, read_num}
use Rattle.bincode.specs.Items.{after, read_count, items, counted, plain, stay, many, foldl}
use Rattle.bincode.proofs.NumberLaws.{read_refused}
use Rattle.bincode.specs.Rows.{row_number, row}
use Rattle.bincode.specs.Answer.{answer}
use Rattle.bincode.specs.declared.Refusal.{Refusal}
use Rattle.bincode.proofs.ReadLaws.{clash, cross, answer_ok, bind_value, cond_value}

module _ {A : Type 0} where
  after_nil : (x : Read (List A)) → after [] x ≡ x
  after_nil (value xs c) = refl
  after_nil (refuse k) = refl

  after_after : (xs ys : List A) (x : Read (List A)) → after xs (after ys x) ≡ after (xs ++ ys) x
  after_after xs ys (value zs c) = ap (λ (l : List A). value l c) (sym (append_assoc xs ys zs))
  after_after xs ys (refuse k) = refl

-- a count that was read is a number of eight bytes, and not over its limit
module _ (e : Edition) (s : List ℕ) (limit at : ℕ) where
  pub count_read : {t : Result (ℕ × ℕ) Refusal} → t ≡ answer (λ (x : ℕ). x) (read_count e s limit at)
      → {n c : ℕ} → t ≡ Ok (n, c) → (e.read 8 s at ≡ value n c) × (n ≤ limit)
  unfolding read_count
  count_read q {n} {c} p =
      let a = answer_ok (λ (x : ℕ). x) (bind (e.read 8 s at) λ n c. cond (ltb limit n) (refuse 3) (value n c)) n c (sym q ∙ p) in
      let b = bind_value (e.read 8 s at) (λ n c. cond (ltb limit n) (refuse 3) (value n c)) (a.1) in
      let d = cond_value (value b.0 b.1) (ltb limit b.0) 3 b.3 in
      let g : b.0 ≡ n = cc in
      let f : b.1 ≡ c = cc in
      (b.2 ∙ (λ t. value (g t) (f t)), rw g at (ltb-false limit b.0 d.0))

-- one that was refused: what goes by it is refused by the same number
module _ {A : Type 0} (limit k : ℕ) (f : ℕ → ℕ → Read A) (r : Refusal) (named : row_number (row k) ≡ k) where
  refused_alike : (x : Read ℕ) → ((n : ℕ) → x ≡ refuse n → row_number (row n) ≡ n)
      → answer (λ (y : ℕ). y) (bind x λ n c. cond (ltb limit n) (refuse k) (value n c)) ≡ Err r
      → bind x (λ n c. cond (ltb limit n) (refuse k) (f n c)) ≡ refuse (row_number r)
  refused_alike (refuse n) m p = let e : row n ≡ r = cc in ap refuse (sym (m n refl) ∙ ap row_number e)
  refused_alike (value n c) m p = by_test (ltb limit n) p
    where
      by_test : (b : Bool) → answer (λ (y : ℕ). y) (cond b (refuse k) (value n c)) ≡ Err r → cond b (refuse k) (f n c) ≡ refuse (row_number r)
      by_test true p = let e : row k ≡ r = cc in ap refuse (sym named ∙ ap row_number e)
      by_test false p = absurd (cross p)

cut_number : {x : Read ℕ} (n : ℕ) → x ≡ refuse n → x ≡ refuse 2 → 2 ≡ n
cut_number n p q = cc

module _ {S A : Type 0} (rd : S → ℕ → Read A) (next : S → A → S) where
  -- before the first turn
  pub items_start : (n : ℕ) (st : S) (at : ℕ) → items rd next n st at ≡ after [] (items rd next (n - 0) st at)
  items_start n st at = rw (sub-zero, after_nil)

  -- a turn that reads an item
  pub items_turn : (done : List A) (n i : ℕ) (st : S) (at : ℕ) (a : A) (c : ℕ) → i < n → rd st at ≡ value a c
      → after done (items rd next (n - i) st at) ≡ after (done ++ (a ∷ [])) (items rd next (n - (i + 1)) (next st a) c)
  unfolding items
  items_turn done n i st at a c h r =
      let e : n - i ≡ suc (n - (i + 1)) = omega arith in
      rw (e, r) (after_after done (a ∷ []) (items rd next (n - (i + 1)) (next st a) c))

  -- a turn that refuses
  pub items_refused : (done : List A) (n i : ℕ) (st : S) (at k : ℕ) → i < n → rd st at ≡ refuse k
      → after done (items rd next (n - i) st at) ≡ refuse k
  unfolding items
  items_refused done n i st at k h r =
      let e : n - i ≡ suc (n - (i + 1)) = omega arith in
      rw (e, r)

  -- after the last turn
  pub items_end : (done : List A) (n i : ℕ) (st : S) (at : ℕ) → n ≤ i → after done (items rd next (n - i) st at) ≡ value done at
  unfolding items
  items_end done n i st at h =
      let e : n - i ≡ 0 = omega arith in
      rw (e, append-nil)

  -- an accepted run of one item more is an item and an accepted run
  pub uncons : (n : ℕ) (st : S) (at : ℕ) (xs : List A) (c : ℕ) → items rd next (suc n) st at ≡ value xs c
      → (a : A) × (d : ℕ) × (ys : List A) × (rd st at ≡ value a d) × (items rd next n (next st a) d ≡ value ys c) × (xs ≡ a ∷ ys)
  unfolding items
  uncons n st at xs c = go (rd st at) refl
    where
      more : (a : A) (d : ℕ) → rd st at ≡ value a d → (x : Read (List A)) → items rd next n (next st a) d ≡ x → after (a ∷ []) x ≡ value xs c
          → (a : A) × (d : ℕ) × (ys : List A) × (rd st at ≡ value a d) × (items rd next n (next st a) d ≡ value ys c) × (xs ≡ a ∷ ys)
      more a d r (value ys e) q p = (a, d, ys, r, q ∙ ap (λ (k : ℕ). value ys k) (cc), cc)
      more a d r (refuse k) q p = absurd (clash (refuse k) (p) refl)

      go : (x : Read A) → rd st at ≡ x → bind x (λ a d. after (a ∷ []) (items rd next n (next st a) d)) ≡ value xs c
          → (a : A) × (d : ℕ) × (ys : List A) × (rd st at ≡ value a d) × (items rd next n (next st a) d ≡ value ys c) × (xs ≡ a ∷ ys)
      go (value a d) r p = more a d r (items rd next n (next st a) d) refl p
      go (refuse k) r p = absurd (clash (refuse k) p refl)

  -- as many items as were asked for
  pub length_items : (n : ℕ) (st : S) (at : ℕ) (xs : List A) (c : ℕ) → items rd next n st at ≡ value xs c → length xs ≡ n
  unfolding items
  length_items zero st at xs c p = let e : xs ≡ [] = cc in ap length e
  length_items (suc n) st at xs c p =
      let u = uncons n st at xs c p in
      ap length u.5 ∙ ap suc (length_items n (next st u.0) u.1 u.2 c u.4)

  -- a counted run goes by its count
  pub counted_start : (e : Edition) (s : List ℕ) (limit : ℕ) (st : S) (at n c : ℕ) → e.read 8 s at ≡ value n c → n ≤ limit
      → counted rd next e s limit st at ≡ after [] (items rd next (n - 0) st c)
  unfolding counted
  counted_start e s limit st at n c r h = rw (r, le-ltb limit n h) (items_start n st c)

  module _ (s : List ℕ) (limit : ℕ) (st : S) (at : ℕ) where
    -- where the count is refused, the run is, by the same number; of the fixed widths
    pub counted_refused : {t : Result (ℕ × ℕ) Refusal} → t ≡ answer (λ (x : ℕ). x) (read_count fixed s limit at) → {r : Refusal} → t ≡ Err r
        → counted rd next fixed s limit st at ≡ refuse (row_number r)
    unfolding counted read_count
    counted_refused q {r} p =
        refused_alike limit 3 (λ n c. items rd next n st c) r refl (read_num 8 s at)
        (λ n e. let m : 2 ≡ n = cut_number n e (read_refused 8 s at n e) in ap (λ (k : ℕ). row_number (row k)) (sym m) ∙ m) (sym q ∙ p)

module _ {A B : Type 0} (f : B → A → B) where
  -- one item more at the end
  pub foldl_more : (b : B) (xs : List A) (a : A) → foldl f b (xs ++ (a ∷ [])) ≡ f (foldl f b xs) a
  foldl_more b [] a = refl
  foldl_more b (x ∷ xs) a = foldl_more (f b x) xs a

  -- a fold over two runs is the one after the other
  pub foldl_append : (b : B) (xs ys : List A) → foldl f b (xs ++ ys) ≡ foldl f (foldl f b xs) ys
  foldl_append b [] ys = refl
  foldl_append b (x ∷ xs) ys = foldl_append (f b x) xs ys

-- the same with no state between the items
module _ {A : Type 0} (rd : ℕ → Read A) where
  pub many_start : (n at : ℕ) → many rd n at ≡ after [] (many rd (n - 0) at)
  many_start n at = items_start (plain rd) stay n tt at

  pub many_turn : (done : List A) (n i at : ℕ) (a : A) (c : ℕ) → i < n → rd at ≡ value a c
      → after done (many rd (n - i) at) ≡ after (done ++ (a ∷ [])) (many rd (n - (i + 1)) c)
  many_turn done n i at a c = items_turn (plain rd) stay done n i tt at a c

  pub many_refused : (done : List A) (n i at k : ℕ) → i < n → rd at ≡ refuse k → after done (many rd (n - i) at) ≡ refuse k
  many_refused done n i at k = items_refused (plain rd) stay done n i tt at k

  pub many_end : (done : List A) (n i at : ℕ) → n ≤ i → after done (many rd (n - i) at) ≡ value done at
  many_end done n i at = items_end (plain rd) stay done n i tt at
