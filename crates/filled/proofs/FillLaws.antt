-- A lent list that is filled place by place.
-- Assumes nothing.
use Prim.Native.Nat.{ℕ, suc, ◌+◌, ◌≤◌, ◌<◌}
use mathlib.Core.Path.{◌≡◌, refl, sym, ap, ◌∙◌}
use mathlib.Core.List.{List, [], ◌∷◌, ◌++◌, map, map-append, append_assoc}
use mathlib.Core.Bool.{Bool, true, false}
use native.Mathlib.Omega.{arith}
use native.Mathlib.Numerals.{add-one}
use lib.Dec.{ltb}
use lib.ListN.{length, take, drop, get_or, set, length-append, length-take, length-drop, length-map, drop_of_length-le}
use lib.Seq.{drop-cons, set_at, set_out, take_all, take-append-le, take-nil, take-suc, length-take-le}
use borrow.Author.Tests.{ltb-true, ltb-false}
use Rattle.filled.specs.Filled.{filled}

module _ {B : Type 0} where
  -- a list that is filled keeps its length
  pub length_filled : (xs old : List B) → length (filled xs old) ≡ length old
  unfolding filled
  length_filled xs old = simp (length-append, length-take, length-drop) (omega arith)

  -- filled with nothing, it is as it was
  pub filled_none : (old : List B) → filled [] old ≡ old
  unfolding filled
  filled_none old = rw (take-nil {A = B} (length old))

  -- one more, and there is a place for it: it stands at the next place
  pub filled_more : (xs old : List B) (i : ℕ) (x : B) → length xs ≡ i → i < length old → set (filled xs old) i x ≡ filled (xs ++ (x ∷ [])) old
  unfolding filled
  filled_more xs old i x e h =
      let l : length (xs ++ (x ∷ [])) ≡ i + 1 = length-append xs (x ∷ []) ∙ ap (λ (k : ℕ). k + 1) e in
      rw (
        take_all (length old) xs (omega arith),
        take_all (length old) (xs ++ (x ∷ [])) (omega arith),
        e,
        l,
        drop-cons old i x h,
        set_at xs (get_or old i x) (drop (suc i) old) x i e,
        add-one i,
        append_assoc,
      )

  -- one more, and no place is left: nothing changes
  pub filled_full : (xs old : List B) (x : B) → length old ≤ length xs → filled xs old ≡ filled (xs ++ (x ∷ [])) old
  unfolding filled
  filled_full xs old x h =
      let l : length (xs ++ (x ∷ [])) ≡ length xs + 1 = length-append xs (x ∷ []) in
      rw
      (take-append-le (length old) xs (x ∷ []) h, drop_of_length-le old h, drop_of_length-le {A = B} old {i = length (xs ++ (x ∷ []))} (omega arith))

  -- one more, stored at the next place, whether there is one or not
  pub filled_next : (xs old : List B) (i : ℕ) (x : B) → length xs ≡ i → set (filled xs old) i x ≡ filled (xs ++ (x ∷ [])) old
  filled_next xs old i x e = go (ltb i (length old)) refl
    where
      go : (b : Bool) → ltb i (length old) ≡ b → set (filled xs old) i x ≡ filled (xs ++ (x ∷ [])) old
      go true t = filled_more xs old i x e (ltb-true i (length old) t)
      go false t =
          let k = ltb-false i (length old) t in
          set_out (filled xs old) i x (omega (arith, length_filled xs old, k)) ∙ filled_full xs old x (omega (arith, e, k))

  -- with room for all of them, the list begins with them, and is as it was behind them
  pub filled_room : (xs old : List B) → length xs ≤ length old → filled xs old ≡ xs ++ drop (length xs) old
  unfolding filled
  filled_room xs old h = rw (take_all (length old) xs h)

-- the loop that stores what h says of each of some items, whether there is a place for it or not
module _ {A B : Type 0} (h : A → B) (items : List A) (old : List B) where
  abbrev pub FilledTo : ℕ → List B → Type 0
  FilledTo n list = list ≡ filled (map h (take n items)) old

  -- at the start nothing is filled
  pub fill_start : FilledTo 0 old
  fill_start = sym (filled_none old)

  -- a turn
  pub fill_turn : (n : ℕ) (list after : List B) (x : A) (y : B) → FilledTo n list → n < length items → x ≡ get_or items n x → y ≡ h x → after ≡ set list n y → FilledTo (n + 1) after
  fill_turn n list after x y e k i s q =
      let next : map h (take (n + 1) items) ≡ map h (take n items) ++ (h x ∷ []) =
      rw (add-one n, take-suc items n x k, sym i) (map-append h (take n items) (x ∷ [])) in
      rw (next, q, s, e) (filled_next (map h (take n items)) old n (h x) (length-map (take n items) h ∙ length-take-le n items (omega arith)))

  -- at the end all are stored
  pub fill_end : (n : ℕ) (list : List B) → FilledTo n list → length items ≤ n → list ≡ filled (map h items) old
  fill_end n list e k = rw (take_all n items k) at e

-- a list with a limit, and one element more
module _ {A : Type 0} (limit : ℕ) (xs : List A) (n : ℕ) (size : length xs ≡ n) (a : A) where
  -- it has a place below the limit
  module _ (h : n < limit) where
    pub capped_more : take limit (xs ++ (a ∷ [])) ≡ xs ++ (a ∷ [])
    capped_more = take_all limit (xs ++ (a ∷ [])) (omega (arith, length-append xs (a ∷ []), size))

  -- at the limit it is left out
  module _ (b : n ≤ limit) (h : limit ≤ n) where
    pub capped_same : take limit (xs ++ (a ∷ [])) ≡ xs
    capped_same = take-append-le limit xs (a ∷ []) (omega (arith, size)) ∙ take_all limit xs (omega (arith, size))
