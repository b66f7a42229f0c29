-- A batch that was read, and its index: each contribution is read where the index says that it stands.
-- Assumes nothing.
use Prim.Native.Nat.{ℕ, zero, suc, ◌+◌, ◌^◌, ◌<◌}
use mathlib.Core.Path.{◌≡◌, refl, sym, ap, ◌∙◌, subst}
use mathlib.Core.List.{List, [], ◌∷◌}
use native.Mathlib.Omega.{arith}
use native.Mathlib.Numerals.{add-one}
use lib.ListN.{length, take, drop, get_or, length-drop, length-take}
use lib.Seq.{drop-cons, get_or-take}
use Rattle.bincode.specs.Read.{value}
use Rattle.bincode.specs.Items.{items}
use Rattle.bincode.specs.Sizes.{Sizes, base}
use Rattle.bincode.specs.Stands.{Bytes}
use Rattle.bincode.proofs.NumberLaws.{read_value}
use Rattle.bincode.proofs.ItemLaws.{uncons}
use Rattle.internal_contrib.specs.declared.Budget.{Budget}
use Rattle.internal_contrib.specs.declared.Contrib.{Contrib}
use Rattle.internal_contrib.specs.InternalContrib.{ContribOf, read_contrib, read_batch, spending}
use Rattle.internal_contrib.specs.Index.{placed_from, no_contrib, contribs_in, index_held, Kept, EachKept}
use Rattle.internal_contrib.specs.declared.BatchIndex.{BatchIndex}
use Rattle.lists.proofs.ListLaws.{take_padded}
use Rattle.internal_contrib.proofs.ContribCodes.{contrib_codes}
use Rattle.internal_contrib.proofs.PartLaws.{batch_count}

module _ (z : Sizes) (nodes-fit : z.nodes < 256 ^ 8) (rows_fit : z.rows < 256 ^ 8) (user-fits : z.user < 256 ^ 8) (s : List ℕ) (bytes : Bytes s) where
  -- contributions that are read one behind the other
  items_kept : (n : ℕ) (b : Budget) (at : ℕ) (cs : List ContribOf) (c : ℕ)
      → items (read_contrib z s) spending n b at ≡ value cs c → EachKept z s (placed_from at cs) cs
  unfolding items placed_from
  items_kept zero b at cs c e = let q : [] ≡ cs = cc in subst (λ (xs : List ContribOf). EachKept z s (placed_from at xs) xs) q tt
  items_kept (suc n) b at cs c e =
      let u = uncons (read_contrib z s) spending n b at cs c e in
      let k = ((contrib_codes z nodes-fit rows_fit user-fits s b).stands bytes at u.0 u.1 u.3).1 in
      let r = subst (λ (d : ℕ). EachKept z s (placed_from d u.2) u.2) k (items_kept n (spending b u.0) u.1 u.2 c u.4) in
      subst (λ (xs : List ContribOf). EachKept z s (placed_from at xs) xs) (sym u.5) (record { budget = b; at = at; next = u.1; read = u.3; kept = refl }, r)

  -- those of a batch, behind its count
  pub batch_kept : (cs : List ContribOf) (c : ℕ) → read_batch z s ≡ value cs c → EachKept z s (placed_from 8 cs) cs
  batch_kept cs c e =
      let p = batch_count z s cs c e in
      let d = (read_value 8 s 0 p.0 p.1 p.2).2 in
      subst (λ (at : ℕ). EachKept z s (placed_from at cs) cs) d (items_kept p.0 _ p.1 cs c p.3)

-- a turn of a loop over the index: the contribution that the next one stands for is the next of the batch
module _ (z : Sizes) (s : List ℕ) where
  pub kept_more : (ks : List Contrib) (cs : List ContribOf) → EachKept z s ks cs → (i : ℕ) (k : Contrib) → drop i ks ≡ k ∷ drop (i + 1) ks
      → (x : ContribOf) × Kept z s k x × (drop i cs ≡ x ∷ drop (i + 1) cs)
  kept_more [] [] h i k e = absurd (let y : ⊥ = omega (arith, ap length e, length-drop {A = Contrib} i []) in y)
  kept_more [] (x ∷ cs) h i k e = absurd h
  kept_more (j ∷ ks) [] h i k e = absurd h
  kept_more (j ∷ ks) (x ∷ cs) h zero k e = let q : j ≡ k = cc in (x, subst (λ (y : Contrib). Kept z s y x) q h.0, refl)
  kept_more (j ∷ ks) (x ∷ cs) h (suc i) k e =
      let f : suc i + 1 ≡ suc (i + 1) = omega arith in
      let r = kept_more ks cs h.1 i k (e ∙ ap (λ (d : ℕ). k ∷ drop d (j ∷ ks)) f) in
      (r.0, r.1, r.2 ∙ ap (λ (d : ℕ). r.0 ∷ drop d (x ∷ cs)) (sym f))

  -- the same by the array that holds the index
  pub kept_next : (array : List Contrib) (count : ℕ) (cs : List ContribOf) → EachKept z s (take count array) cs → (i : ℕ) → i < length (take count array)
      → (x : ContribOf) × Kept z s (get_or array i no_contrib) x × (drop i cs ≡ x ∷ drop (i + 1) cs)
  kept_next array count cs h i l =
      let k : i < count = omega (arith, length-take count array) in
      let e : drop i (take count array) ≡ get_or array i no_contrib ∷ drop (i + 1) (take count array)
      = drop-cons (take count array) i no_contrib l ∙ (λ j. get_or-take count array i no_contrib k j ∷ drop (sym (add-one i) j) (take count array)) in
      kept_more (take count array) cs h i (get_or array i no_contrib) e

  -- as many contributions as places
  pub kept_length : (ks : List Contrib) (cs : List ContribOf) → EachKept z s ks cs → length cs ≡ length ks
  kept_length [] [] h = refl
  kept_length [] (x ∷ cs) h = absurd h
  kept_length (k ∷ ks) [] h = absurd h
  kept_length (k ∷ ks) (x ∷ cs) h = ap suc (kept_length ks cs h.1)

  -- the struct that holds places of contributions stands for just these
  pub held_index : (x : BatchIndex) (cs : List ContribOf)
      → x ≡ index_held (placed_from 8 cs) → EachKept z s (placed_from 8 cs) cs → EachKept z s (contribs_in x) cs
  held_index x cs e h =
      subst (λ (ks : List Contrib). EachKept z s ks cs) (sym (ap contribs_in e ∙ take_padded base.nodes no_contrib (placed_from 8 cs))) h
