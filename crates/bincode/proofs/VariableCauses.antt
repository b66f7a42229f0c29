-- What refuses a number of the variable widths (02, CR 5): the causes that `Garbled` names, each with its number, and nothing else. So row 16, exactly.
-- Assumes nothing.
use Prim.Native.Nat.{ℕ, ◌+◌, ◌^◌, ◌≤◌, ◌<◌}
use mathlib.Core.Path.{◌≡◌, refl, ap, ◌∙◌, subst}
use mathlib.Core.List.{List}
use mathlib.Core.Bool.{cond}
use mathlib.Core.Logic.{◌↔◌, ◌⊎◌, inl, inr, ⊎_elim}
use native.Mathlib.Omega.{arith}
use lib.Dec.{leb, ltb}
use lib.ListN.{length, get_or, take, drop}
use borrow.Author.Tests.{lt-ltb, le-ltb, le-leb, lt-leb}
use Rattle.std.proofs.lemmas.Bool.{cases_lt, cond_both}
use Rattle.bincode.specs.Read.{Read, value, refuse}
use Rattle.bincode.specs.Numbers.{le, read_variable, variable}
use Rattle.bincode.specs.Stands.{Bytes}
use Rattle.bincode.specs.Causes.{Cause, cut, no_marker, longer, too_large, cause_number, Announces, Garbled, no_byte, beyond, broken, overlong, wide, Caused, NumberCauses}
use Rattle.bincode.proofs.NumberLaws.{read_cut, read_whole}
use Rattle.bincode.proofs.ReadLaws.{clash}
use Rattle.bincode.proofs.VariableLaws.{announces, first_byte, no_first, small_first, large_first, marked_first}

-- no byte is above 255
last_two : (m : ℕ) → m < 256 → 254 ≤ m → (m ≡ 254) ⊎ (m ≡ 255)
last_two m b h = ⊎_elim (λ l. inl (omega arith)) (λ l. inr (omega arith)) (cases_lt m 255)

module _ (w : ℕ) (s : List ℕ) (at : ℕ) where
  -- the number behind a first byte that announces n
  abbrev number : ℕ → ℕ
  number n = le (take n (drop (at + 1) s))

  -- what a reading comes to there
  module _ {n low : ℕ} (a : Announces (get_or s at 0) n low) where
    too_few : at < length s → length s < at + 1 + n → read_variable w s at ≡ refuse 2
    too_few l h = marked_first w s at a (at + 1) (first_byte s at l) ∙ rw (read_cut n s (at + 1) h)

    module _ (all : at + 1 + n ≤ length s) where
      with_all : read_variable w s at ≡ cond (ltb (number n) low) (refuse 16) (cond (leb (256 ^ w) (number n)) (refuse 16) (value (number n) (at + 1 + n)))
      with_all = marked_first w s at a (at + 1) (first_byte s at (omega arith)) ∙ rw (read_whole n s (at + 1) all)

      below_least : number n < low → read_variable w s at ≡ refuse 16
      below_least h = with_all ∙ rw (lt-ltb (number n) low h)

      over_field : 256 ^ w ≤ number n → read_variable w s at ≡ refuse 16
      over_field h = with_all ∙ rw (le-leb (256 ^ w) (number n) h) (cond_both (ltb (number n) low) _ _ (λ (x : Read ℕ). x ≡ refuse 16) (λ e. refl) (λ e. refl))

      accepted : low ≤ number n → number n < 256 ^ w → read_variable w s at ≡ value (number n) (at + 1 + n)
      accepted l h = with_all ∙ rw (le-ltb (number n) low l, lt-leb (256 ^ w) (number n) h)

  -- each cause refuses
  refuses : (c : Cause) → Garbled s w at c → read_variable w s at ≡ refuse (cause_number c)
  refuses c (no_byte l e) = rw e (no_first w s at l)
  refuses c (beyond l (inl q) e) = rw e (large_first w s at _ (at + 1) (first_byte s at l) (omega arith))
  refuses c (beyond l (inr q) e) = rw e (large_first w s at _ (at + 1) (first_byte s at l) (omega arith))
  refuses c (broken n low l a h e) = rw e (too_few a l h)
  refuses c (overlong n low a all h e) = rw e (below_least a all h)
  refuses c (wide n low a all h e) = rw e (over_field a all h)

  -- and each refusal has its cause
  module _ (b : Bytes s) (k : ℕ) (p : read_variable w s at ≡ refuse k) where
    abbrev Found : Type 0
    Found = (c : Cause) × Garbled s w at c × (cause_number c ≡ k)

    found : (c : Cause) → Garbled s w at c → Found
    found c g = let r = refuses c g in (c, g, cc)

    by_number : {n low : ℕ} → at < length s → Announces (get_or s at 0) n low → Found
    by_number {n} {low} l a =
        ⊎_elim (λ h. found cut (broken n low l a h refl)) (λ all.
        ⊎_elim (λ h. found longer (overlong n low a all h refl)) (λ m.
        ⊎_elim (λ h. absurd (clash _ (accepted a all m h) p)) (λ h. found too_large (wide n low a all h refl))
        (cases_lt (number n) (256 ^ w)))
        (cases_lt (number n) low))
        (cases_lt (length s) (at + 1 + n))

    by_first : Found
    by_first =
        ⊎_elim (λ l.
        ⊎_elim (λ h. absurd (clash _ (small_first w s at _ (at + 1) (first_byte s at l) h) p)) (λ g.
        ⊎_elim (λ h. by_number l (announces (get_or s at 0) g h)) (λ h. found no_marker (beyond l (last_two (get_or s at 0) (b at) h) refl))
        (cases_lt (get_or s at 0) 254))
        (cases_lt (get_or s at 0) 251))
        (λ l. found cut (no_byte l refl))
        (cases_lt at (length s))

  -- so a reading at a place is refused just by what is wrong there
  pub garbled : Caused s (read_variable w s at) (Garbled s w at)
  garbled = record { cause = by_first; refuses = refuses }

-- the same at every width
pub variable_causes : (s : List ℕ) → NumberCauses variable Garbled s
variable_causes s w h = garbled w s

-- Rows 16 and 2, exactly, and no other.
module _ (s : List ℕ) (b : Bytes s) (w at : ℕ) where
  abbrev Sixteen : Type 0
  Sixteen = Garbled s w at no_marker ⊎ (Garbled s w at longer ⊎ Garbled s w at too_large)

  abbrev One_row : ℕ → Type 0
  One_row n = (Garbled s w at cut × (n ≡ 2)) ⊎ (Sixteen × (n ≡ 16))

  as_cut_or : (c : Cause) → Garbled s w at c → One_row (cause_number c)
  as_cut_or c (no_byte l e) = inl (no_byte l refl, ap cause_number e)
  as_cut_or c (beyond l q e) = inr (inl (beyond l q refl), ap cause_number e)
  as_cut_or c (broken n low l a h e) = inl (broken n low l a h refl, ap cause_number e)
  as_cut_or c (overlong n low a all h e) = inr (inr (inl (overlong n low a all h refl)), ap cause_number e)
  as_cut_or c (wide n low a all h e) = inr (inr (inr (wide n low a all h refl)), ap cause_number e)

  one_row : (n : ℕ) → read_variable w s at ≡ refuse n → One_row n
  one_row n p = let f = (garbled w s at).cause b n p in subst One_row f.2 (as_cut_or f.0 f.1)

  -- 16 where the marker is 254 or 255, or all bytes are there and the number is longer than it need be, or too large for its field
  pub row_sixteen : (read_variable w s at ≡ refuse 16) ↔ (Garbled s w at no_marker ⊎ (Garbled s w at longer ⊎ Garbled s w at too_large))
  row_sixteen = (
    λ p. ⊎_elim (λ r. absurd (let z : ⊥ = omega (arith, r.1) in z)) (λ r. r.0) (one_row 16 p),
    ⊎_elim ((garbled w s at).refuses no_marker) (⊎_elim ((garbled w s at).refuses longer) ((garbled w s at).refuses too_large)),
  )

  -- 2 where bytes are missing
  pub row_two : (read_variable w s at ≡ refuse 2) ↔ Garbled s w at cut
  row_two = (λ p. ⊎_elim (λ r. r.0) (λ r. absurd (let z : ⊥ = omega (arith, r.1) in z)) (one_row 2 p), (garbled w s at).refuses cut)

  -- and by no other row
  pub no_other_row : (n : ℕ) → read_variable w s at ≡ refuse n → (n ≡ 2) ⊎ (n ≡ 16)
  no_other_row n p = ⊎_elim (λ r. inl r.1) (λ r. inr r.1) (one_row n p)
