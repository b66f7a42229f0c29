-- The items of an accepted run stand behind its count. A loop that reads them again and handles them one by one comes to the fold over the run.
-- Assumes nothing.
use Prim.Native.Nat.{ℕ, suc, ◌+◌, ◌-◌, ◌≤◌, ◌<◌}
use mathlib.Core.Path.{◌≡◌, refl, sym, ap, ◌∙◌}
use mathlib.Core.List.{List, []}
use native.Mathlib.Omega.{arith}
use native.Mathlib.Nat.{sub-zero}
use lib.Dec.{ltb}
use lib.ListN.{length}
use Rattle.bincode.specs.Read.{Read, value, refuse}
use Rattle.bincode.specs.Numbers.{read_num, fixed}
use Rattle.bincode.specs.Items.{items, counted, plain, stay, many, foldl}
use Rattle.std.specs.declared.result.Result.{Result}
use Rattle.std.specs.declared.result.Result.TheVariants.{Err}
use Rattle.bincode.specs.Answer.{answer}
use Rattle.bincode.specs.declared.Refusal.{Refusal}
use Rattle.bincode.proofs.NumberLaws.{read_value}
use Rattle.bincode.proofs.ReadLaws.{clash, same_next, same_value, answer_err, bind_value, cond_value}
use Rattle.bincode.proofs.ItemLaws.{uncons, length_items}

-- a counted run that was read is a count, and as many items behind it
module _ {S A : Type 0} (rd : S → ℕ → Read A) (next : S → A → S) (s : List ℕ) (limit : ℕ) (st : S) (at : ℕ) (xs : List A) (c : ℕ) where
  pub counted_count : counted rd next fixed s limit st at ≡ value xs c → (n : ℕ) × (d : ℕ) × (read_num 8 s at ≡ value n d) × (items rd next n st d ≡ value xs c)
  unfolding counted
  counted_count e =
      let p = bind_value (read_num 8 s at) _ e in
      (p.0, p.1, p.2, (cond_value (items rd next p.0 st p.1) (ltb limit p.0) 3 p.3).1)

  -- the items stand eight bytes behind the run's start, within the bytes
  pub counted_items : counted rd next fixed s limit st at ≡ value xs c → (items rd next (length xs) st (at + 8) ≡ value xs c) × (at + 8 ≤ length s)
  counted_items e =
      let p = counted_count e in
      let v = read_value 8 s at p.0 p.1 p.2 in
      let l : length xs ≡ p.0 = length_items rd next p.0 st p.1 xs c p.3 in
      ((λ t. items rd next (l t) st (sym v.2 t)) ∙ p.3, v.0)

module _ {S A B : Type 0} (rd : S → ℕ → Read A) (next : S → A → S) (f : B → A → B) where
  module _ (n : ℕ) (st₀ : S) (at₀ : ℕ) (b₀ : B) where
    -- after i of n items: where the whole run is read as xs, the rest is read as a list whose fold from here is the fold over xs
    pub record Rereading (i : ℕ) (st : S) (at : ℕ) (b : B) : Type 0 where
      pub rest : (xs : List A) (c : ℕ) → items rd next n st₀ at₀ ≡ value xs c → (ys : List A) × (items rd next (n - i) st at ≡ value ys c) × (foldl f b ys ≡ foldl f b₀ xs)

  -- before the first turn
  pub reread_start : (n : ℕ) (st : S) (at : ℕ) (b : B) (st' : S) → st' ≡ st → Rereading n st at b 0 st' at b
  reread_start n st at b st' q = record { rest = λ xs c e. (xs, rw (q, sub-zero) e, refl) }

  -- the item that is read again is the first of the rest
  first_again : (n : ℕ) (st : S) (at : ℕ) (b : B) (xs : List A) (c : ℕ) → items rd next (suc n) st at ≡ value xs c → (a : A) (d : ℕ) → rd st at ≡ value a d
      → (ys : List A) × (items rd next n (next st a) d ≡ value ys c) × (foldl f (f b a) ys ≡ foldl f b xs)
  first_again n st at b xs c e a d r =
      let u = uncons rd next n st at xs c e in
      let p : u.0 ≡ a = same_value (rd st at) u.3 r in
      let q : u.1 ≡ d = same_next (rd st at) u.3 r in
      (u.2, (λ t. items rd next n (next st (sym p t)) (sym q t)) ∙ u.4, (λ t. foldl f (f b (sym p t)) u.2) ∙ ap (foldl f b) (sym u.5))

  module _ (n : ℕ) (st₀ : S) (at₀ : ℕ) (b₀ : B) (i : ℕ) (st : S) (at : ℕ) (b : B) (w : Rereading n st₀ at₀ b₀ i st at b) where
    -- a turn that reads an item and handles it
    pub reread_more : i < n → (a : A) (d : ℕ) → rd st at ≡ value a d → (st' : S) → st' ≡ next st a → (b' : B) → b' ≡ f b a
        → Rereading n st₀ at₀ b₀ (i + 1) st' d b'
    reread_more h a d r st' o b' g =
        let k : n - i ≡ suc (n - (i + 1)) = omega arith in
        record {
          rest = λ xs c e.
              let p = w.rest xs c e in
              let q = first_again (n - (i + 1)) st at b p.0 c (rw k at p.1) a d r in
              (q.0, (λ j. items rd next (n - (i + 1)) (o j) d) ∙ q.1, ap (λ (y : B). foldl f y q.0) g ∙ q.2 ∙ p.2);
        }

    -- no item of an accepted run is refused
    pub reread_refused : i < n → (k : ℕ) → rd st at ≡ refuse k → (xs : List A) (c : ℕ) → items rd next n st₀ at₀ ≡ value xs c → ⊥
    reread_refused h k r xs c e =
        let m : n - i ≡ suc (n - (i + 1)) = omega arith in
        let p = w.rest xs c e in
        let u = uncons rd next (n - (i + 1)) st at p.0 c (rw m at p.1) in
        clash (rd st at) u.3 r

    -- after the last turn
    pub reread_end : n ≤ i → (xs : List A) (c : ℕ) → items rd next n st₀ at₀ ≡ value xs c → b ≡ foldl f b₀ xs
    unfolding items
    reread_end h xs c e =
        let p = w.rest xs c e in
        let m : n - i ≡ 0 = omega arith in
        let q : value [] at ≡ value p.0 c = rw m at p.1 in
        let y : [] ≡ p.0 = cc in
        ap (foldl f b) y ∙ p.2

-- the same for items with no state between them, by the answers that code gives
module _ {A B : Type 0} (rd : ℕ → Read A) (f : B → A → B) (n at₀ : ℕ) (b₀ : B) where
  abbrev pub Handling : ℕ → ℕ → B → Type 0
  Handling i at b = Rereading (plain rd) stay f n tt at₀ b₀ i tt at b

  module _ (i at : ℕ) (b : B) (w : Handling i at b) (h : i < n) {H : Type 0} (held : A → H) (t : Result (H × ℕ) Refusal) (e : t ≡ answer held (rd at)) where
    pub handle_refused : (r : Refusal) → t ≡ Err r → (xs : List A) (c : ℕ) → many rd n at₀ ≡ value xs c → ⊥
    handle_refused r p = let u = answer_err held (rd at) r (sym e ∙ p) in reread_refused (plain rd) stay f n tt at₀ b₀ i tt at b w h u.0 u.1
