-- Which cause refuses a run of items, with and without its count; and what an id that does not ascend is to a reader that keeps the least id.
-- Assumes nothing.
use Prim.Native.Nat.{ℕ, zero, suc, ◌+◌, ◌≤◌, ◌<◌}
use mathlib.Core.Path.{◌≡◌, refl, ap, ◌∙◌, subst}
use mathlib.Core.List.{List, [], ◌∷◌, ◌++◌}
use mathlib.Core.Logic.{◌↔◌, ◌⊎◌, inl, inr}
use native.Mathlib.Omega.{arith}
use native.Mathlib.Nat.{add-zero, add_assoc}
use lib.Dec.{ltb}
use lib.ListN.{length, length-append}
use borrow.Author.Tests.{ltb-true, ltb-false}
use Rattle.bincode.specs.Read.{Read, value, refuse, bind}
use Rattle.bincode.specs.Numbers.{Edition}
use Rattle.bincode.specs.Items.{after, items, counted, plain, stay, foldl}
use Rattle.bincode.specs.Stands.{Bytes, Stands, concat_map, Each, All}
use Rattle.bincode.specs.Codes.{Codes, NumberCodes}
use Rattle.bincode.specs.Causes.{Cause, count_over, cause_number, Wrong, NumberWrong, NotAbove, Run, stops, Counted, Causes, NumberCauses}
use Rattle.bincode.proofs.ReadLaws.{clash}
use Rattle.bincode.proofs.CodeLaws.{eight}
use Rattle.bincode.proofs.StandLaws.{stands_left, stands_right, stands_both}
use Rattle.bincode.proofs.CauseLaws.{field, tested}

-- a run of items stops at the first that is refused
module _ {S A : Type 0} (s : List ℕ) (rd : S → ℕ → Read A) (next : S → A → S) (enc : A → List ℕ) (Ok : S → A → Type 0)
    (one : (st : S) → Codes s (rd st) enc (Ok st)) where
  -- the items before it stand there, and it is refused behind them
  abbrev Stopped : ℕ → S → ℕ → ℕ → Type 0
  Stopped n st at k =
      (xs : List A) × (length xs < n) × Each next Ok st xs × Stands s at (concat_map enc xs) × (rd (foldl next st xs) (at + length (concat_map enc xs)) ≡ refuse k)

  items_stop : Bytes s → (n : ℕ) (st : S) (at k : ℕ) → items rd next n st at ≡ refuse k → Stopped n st at k
  unfolding items
  items_stop b zero st at k p = absurd (clash (value [] at) refl p)
  items_stop b (suc n) st at k p = go (λ a d. items_stop b n (next st a) d k) (rd st at) refl p
    where
      rest : (a : A) (x : Read (List A)) → after (a ∷ []) x ≡ refuse k → x ≡ refuse k
      rest a (value ys d) q = absurd (clash (value (a ∷ ys) d) refl q)
      rest a (refuse m) q = q

      more : (a : A) (d : ℕ) → Stands s at (enc a) × (d ≡ at + length (enc a)) × Ok st a → Stopped n (next st a) d k → Stopped (suc n) st at k
      more a d u r =
          let e : d + length (concat_map enc r.0) ≡ at + length (enc a ++ concat_map enc r.0) = simp length-append (omega (arith, u.1)) in (
            a ∷ r.0,
            omega (arith, r.1),
            (u.2, r.2),
            stands_both s at (enc a) (concat_map enc r.0) u.0 (rw u.1 at r.3),
            subst (λ (i : ℕ). rd (foldl next (next st a) r.0) i ≡ refuse k) e r.4,
          )

      go : ((a : A) (d : ℕ) → items rd next n (next st a) d ≡ refuse k → Stopped n (next st a) d k)
          → (x : Read A) → rd st at ≡ x → bind x (λ a c. after (a ∷ []) (items rd next n (next st a) c)) ≡ refuse k → Stopped (suc n) st at k
      go ih (value a d) e q = more a d ((one st).stands b at a d e) (ih a d (rest a (items rd next n (next st a) d) q))
      go ih (refuse m) e q = let i : m ≡ k = cc in ([], omega arith, tt, refl, rw add-zero (e ∙ ap refuse i))

  stop_items : (xs : List A) (n : ℕ) (st : S) (at k : ℕ) → length xs < n → Each next Ok st xs → Stands s at (concat_map enc xs)
      → rd (foldl next st xs) (at + length (concat_map enc xs)) ≡ refuse k → items rd next n st at ≡ refuse k
  unfolding items
  stop_items xs zero st at k l h p r = absurd (let z : ⊥ = omega arith in z)
  stop_items [] (suc n) st at k l h p r = rw (rw add-zero at r)
  stop_items (x ∷ xs) (suc n) st at k l h p r =
      let q : rd (foldl next (next st x) xs) (at + length (enc x) + length (concat_map enc xs)) ≡ refuse k = rw (length-append, ← add_assoc) at r in
      rw (
        (one st).reads at x (stands_left s at (enc x) (concat_map enc xs) p) h.0,
        stop_items xs n (next st x) (at + length (enc x)) k (omega arith) h.1 (stands_right s at (enc x) (concat_map enc xs) p) q,
      )

  module _ (st : S) (item : List A → Wrong) (each : (xs : List A) → Each next Ok st xs → Causes s (rd (foldl next st xs)) (item xs)) where
    -- n items
    pub items_causes : (n : ℕ) → Causes s (items rd next n st) (Run s enc (Each next Ok st) item n)
    items_causes n at =
        record {
          cause = λ b k p.
              let u = items_stop b n st at k p in
              let r = (each u.0 u.2 (at + length (concat_map enc u.0))).cause b k u.4 in
              (r.0, stops u.0 u.1 u.2 u.3 r.1, r.2);
          refuses = refusal;
        }
      where
        refusal : (c : Cause) → Run s enc (Each next Ok st) item n at c → items rd next n st at ≡ refuse (cause_number c)
        refusal c (stops xs l h p w) = stop_items xs n st at (cause_number c) l h p ((each xs h (at + length (concat_map enc xs))).refuses c w)

    -- a count and as many items; what is over its size is said by Over
    pub counted_causes : (e : Edition) (v : NumberWrong) → NumberCodes e s → NumberCauses e v s → (limit : ℕ) (Over : ℕ → Type 0) → ((n : ℕ) → (limit < n) ↔ Over n)
        → (why : Cause) → cause_number why ≡ cause_number count_over → Causes s (counted rd next e s limit st) (Counted e v s enc Over why (Each next Ok st) item)
    unfolding counted
    counted_causes e v codes num limit Over same why q =
        field (codes 8 eight) (num 8 eight) λ n.
        tested (ltb limit n) why 3 q (λ t. (same n).0 (ltb-true limit n t)) (λ t o. let l = ltb-false limit n t in let m = (same n).1 o in omega arith) (λ t.
        items_causes n)

-- the same for items that do not depend on those before them
module _ {A : Type 0} (s : List ℕ) (rd : ℕ → Read A) (enc : A → List ℕ) (Ok : A → Type 0) (one : Codes s rd enc Ok) where
  pub plain_causes : (item : Wrong) → Causes s rd item → (e : Edition) (v : NumberWrong) → NumberCodes e s → NumberCauses e v s
      → (limit : ℕ) (Over : ℕ → Type 0) → ((n : ℕ) → (limit < n) ↔ Over n) → (why : Cause) → cause_number why ≡ cause_number count_over
      → Causes s (counted (plain rd) stay e s limit tt) (Counted e v s enc Over why (All Ok) (λ xs. item))
  plain_causes item each = counted_causes s (plain rd) stay enc (λ u. Ok) (λ u. one) tt (λ xs. item) (λ xs h. each)

-- A reader that keeps the least id that may follow. An id is below it exactly where one before is as high or higher.
module _ {S A : Type 0} (next : S → A → S) (Ok : S → A → Type 0) (id_of : A → ℕ) (low : S → ℕ)
    (follows : (st : S) (x : A) → low (next st x) ≡ id_of x + 1) (ascends : (st : S) (x : A) → Ok st x → low st ≤ id_of x) where
  low_rises : (xs : List A) (st : S) → Each next Ok st xs → low st ≤ low (foldl next st xs)
  low_rises [] st h = omega arith
  low_rises (x ∷ xs) st h = omega (arith, ascends st x h.0, follows st x, low_rises xs (next st x) h.1)

  passed_low : (xs : List A) (st : S) (id : ℕ) → Each next Ok st xs → NotAbove id_of xs id → id < low (foldl next st xs)
  passed_low [] st id h n = absurd n
  passed_low (x ∷ xs) st id h (inl l) = omega (arith, l, follows st x, low_rises xs (next st x) h.1)
  passed_low (x ∷ xs) st id h (inr n) = passed_low xs (next st x) id h.1 n

  low_passed : (xs : List A) (st : S) (id : ℕ) → id < low (foldl next st xs) → (id < low st) ⊎ NotAbove id_of xs id
  low_passed [] st id l = inl l
  low_passed (x ∷ xs) st id l = go (low_passed xs (next st x) id l)
    where
      go : (id < low (next st x)) ⊎ NotAbove id_of xs id → (id < low st) ⊎ ((id ≤ id_of x) ⊎ NotAbove id_of xs id)
      go (inl m) = inr (inl (omega (arith, m, follows st x)))
      go (inr n) = inr (inr n)

  pub not_above : (st : S) → low st ≡ 0 → (xs : List A) → Each next Ok st xs → (id : ℕ) → (id < low (foldl next st xs)) ↔ NotAbove id_of xs id
  not_above st q xs h id = (λ l. go (low_passed xs st id l), passed_low xs st id h)
    where
      go : (id < low st) ⊎ NotAbove id_of xs id → NotAbove id_of xs id
      go (inl m) = absurd (let z : ⊥ = omega arith in z)
      go (inr n) = n
