-- Laws of the numbers' bytes, over the width.
-- Assumes nothing.
use Prim.Native.Nat.{ℕ, zero, suc, ◌+◌, ◌*◌, ◌/◌, ◌%◌, ◌^◌, ◌≤◌, ◌<◌}
use mathlib.Core.Path.{◌≡◌, refl, sym, ap, subst}
use mathlib.Core.List.{List, [], ◌∷◌}
use mathlib.Core.Bool.{Bool, true, false, cond}
use native.Mathlib.Omega.{arith}
use native.Mathlib.Nat.{pow-suc, pow-le-pow_right, div-lt_iff_lt-mul}
use lib.Dec.{lit<, leb}
use lib.ListN.{length, take, drop, length-take}
use lib.Seq.{get_or-drop}
use borrow.Author.Tests.{le-leb, lt-leb, leb-true}
use Rattle.bincode.specs.Read.{value, refuse}
use Rattle.bincode.specs.Numbers.{le, bytes_of, read_num}
use Rattle.bincode.specs.Stands.{Bytes}

-- the number that bytes stand for has no more digits than they are
le_lt : (l : List ℕ) → Bytes l → le l < 256 ^ length l
unfolding le
le_lt [] h = lit< tt
le_lt (b ∷ bs) h = omega (arith, h 0, le_lt bs (λ i. h (suc i)), pow-suc 256 (length bs))

pub bytes_part : (s : List ℕ) (w at : ℕ) → Bytes s → Bytes (take w (drop at s))
bytes_part s w at h i = go w (drop at s) (λ j. subst (λ (x : ℕ). x < 256) (sym (get_or-drop at s j 0)) (h (at + j))) i
  where
    go : (w : ℕ) (l : List ℕ) → Bytes l → Bytes (take w l)
    go zero l b i = lit< tt
    go (suc w) [] b i = lit< tt
    go (suc w) (x ∷ l) b zero = b 0
    go (suc w) (x ∷ l) b (suc i) = go w l (λ j. b (suc j)) i

-- at most v bytes stand for a number below 256 ^ v
pub part_below : (s : List ℕ) (w at v : ℕ) → Bytes s → w ≤ v → le (take w (drop at s)) < 256 ^ v
part_below s w at v h k =
    let a : le (take w (drop at s)) < 256 ^ length (take w (drop at s)) = le_lt (take w (drop at s)) (bytes_part s w at h) in
    let b : 256 ^ length (take w (drop at s)) ≤ 256 ^ v = pow-le-pow_right (lit< tt) (simp (length-take) (omega arith)) in
    omega arith

-- a reading goes by one test
pub read_cut : (w : ℕ) (s : List ℕ) (at : ℕ) → length s < at + w → read_num w s at ≡ refuse 2
unfolding read_num
read_cut w s at h = rw (lt-leb (at + w) (length s) h)

pub read_whole : (w : ℕ) (s : List ℕ) (at : ℕ) → at + w ≤ length s → read_num w s at ≡ value (le (take w (drop at s))) (at + w)
unfolding read_num
read_whole w s at h = rw (le-leb (at + w) (length s) h)

-- what an accepted reading says
pub read_value : (w : ℕ) (s : List ℕ) (at x c : ℕ) → read_num w s at ≡ value x c
    → (at + w ≤ length s) × (x ≡ le (take w (drop at s))) × (c ≡ at + w)
unfolding read_num
read_value w s at x c = go (leb (at + w) (length s)) refl
  where
    go : (b : Bool) → leb (at + w) (length s) ≡ b → cond b (value (le (take w (drop at s))) (at + w)) (refuse 2) ≡ value x c
        → (at + w ≤ length s) × (x ≡ le (take w (drop at s))) × (c ≡ at + w)
    go true e p = (leb-true _ _ e, cc, cc)
    go false e p = let z : ◌≡◌ {A = ℕ} 0 1 = cc in omega arith

-- the one refusal of a number
pub read_refused : (w : ℕ) (s : List ℕ) (at n : ℕ) → read_num w s at ≡ refuse n → read_num w s at ≡ refuse 2
unfolding read_num
read_refused w s at n = go (leb (at + w) (length s))
  where
    go : (b : Bool) → cond b (value (le (take w (drop at s))) (at + w)) (refuse 2) ≡ refuse n → cond b (value (le (take w (drop at s))) (at + w)) (refuse 2) ≡ refuse 2
    go true p = let z : ◌≡◌ {A = ℕ} 0 1 = cc in absurd (let y : ⊥ = omega arith in y)
    go false p = refl

pub length_bytes_of : (w x : ℕ) → length (bytes_of w x) ≡ w
unfolding bytes_of
length_bytes_of zero x = refl
length_bytes_of (suc w) x = ap suc (length_bytes_of w (x / 256))

pub bytes_bytes_of : (w x : ℕ) → Bytes (bytes_of w x)
unfolding bytes_of
bytes_bytes_of zero x i = lit< tt
bytes_bytes_of (suc w) x zero = omega arith
bytes_bytes_of (suc w) x (suc i) = bytes_bytes_of w (x / 256) i

pub le_bytes_of : (w x : ℕ) → x < 256 ^ w → le (bytes_of w x) ≡ x
unfolding le bytes_of
le_bytes_of zero x h = omega arith
le_bytes_of (suc w) x h = rw (le_bytes_of w (x / 256) ((div-lt_iff_lt-mul (lit< tt)).1 (rw pow-suc at h))) (omega arith)

pub bytes_of_le : (l : List ℕ) → Bytes l → bytes_of (length l) (le l) ≡ l
unfolding le bytes_of
bytes_of_le [] h = refl
bytes_of_le (b ∷ bs) h =
    let h0 = h 0 in
    let e : (b + 256 * le bs) % 256 ≡ b = omega arith in
    let f : (b + 256 * le bs) / 256 ≡ le bs = omega arith in
    rw (e, f, bytes_of_le bs (λ i. h (suc i)))
