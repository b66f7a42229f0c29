-- The bytes that the library's `to_le_bytes` gives, and the number that its `from_le_bytes` makes of them, are those of the definitions.
-- Assumes nothing.
use Prim.Native.Nat.{ℕ, zero, suc, ◌/◌, ◌%◌, ◌^◌}
use mathlib.Core.Path.{◌≡◌, refl, sym, ap, ◌∙◌}
use mathlib.Core.List.{List, [], ◌∷◌}
use native.Mathlib.Omega.{arith}
use native.Mathlib.Nat.{pow-suc, div-one, div-div-eq-div-mul}
use lib.ListN.{length}
use Rattle.std.specs.Int.{w16, w32, w64, bytes_low_first, to_le_bytes, from_le_bytes}
use Rattle.bincode.specs.Numbers.{le, bytes_of}

low_first : (k i n m : ℕ) → m ≡ n / 256 ^ i → bytes_low_first i k n ≡ bytes_of k m
unfolding bytes_of
low_first zero i n m e = refl
low_first (suc k) zero n m e =
    let d : m ≡ n = e ∙ div-one n in
    rw d (ap (λ (l : List ℕ). n % 256 ∷ l) (low_first k 1 n (n / 256) refl))
low_first (suc k) (suc i) n m e =
    let d : m / 256 ≡ n / 256 ^ suc (suc i) = ap (λ (x : ℕ). x / 256) e ∙ div-div-eq-div-mul n (256 ^ suc i) 256 ∙ ap (λ (x : ℕ). n / x) (sym (pow-suc 256 (suc i))) in
    rw (← e) (ap (λ (l : List ℕ). m % 256 ∷ l) (low_first k (suc (suc i)) n (m / 256) d))

pub to_le2 : (n : ℕ) → to_le_bytes w16 n ≡ bytes_of 2 n
to_le2 n = low_first 2 0 n n (sym (div-one n))

pub to_le4 : (n : ℕ) → to_le_bytes w32 n ≡ bytes_of 4 n
to_le4 n = low_first 4 0 n n (sym (div-one n))

pub to_le8 : (n : ℕ) → to_le_bytes w64 n ≡ bytes_of 8 n
to_le8 n = low_first 8 0 n n (sym (div-one n))

pub from_le2 : (l : List ℕ) → length l ≡ 2 → from_le_bytes w16 l ≡ le l
unfolding le
from_le2 (a ∷ b ∷ []) h = omega arith
from_le2 [] h = absurd (let y : ⊥ = omega arith in y)
from_le2 (a ∷ []) h = absurd (let y : ⊥ = omega arith in y)
from_le2 (a ∷ b ∷ x ∷ l) h = absurd (let y : ⊥ = omega arith in y)

pub from_le4 : (l : List ℕ) → length l ≡ 4 → from_le_bytes w32 l ≡ le l
unfolding le
from_le4 (a ∷ b ∷ c ∷ d ∷ []) h = omega arith
from_le4 [] h = absurd (let y : ⊥ = omega arith in y)
from_le4 (a ∷ []) h = absurd (let y : ⊥ = omega arith in y)
from_le4 (a ∷ b ∷ []) h = absurd (let y : ⊥ = omega arith in y)
from_le4 (a ∷ b ∷ c ∷ []) h = absurd (let y : ⊥ = omega arith in y)
from_le4 (a ∷ b ∷ c ∷ d ∷ x ∷ l) h = absurd (let y : ⊥ = omega arith in y)

pub from_le8 : (l : List ℕ) → length l ≡ 8 → from_le_bytes w64 l ≡ le l
unfolding le
from_le8 (a ∷ b ∷ c ∷ d ∷ p ∷ q ∷ r ∷ s ∷ []) h = omega arith
from_le8 [] h = absurd (let y : ⊥ = omega arith in y)
from_le8 (a ∷ []) h = absurd (let y : ⊥ = omega arith in y)
from_le8 (a ∷ b ∷ []) h = absurd (let y : ⊥ = omega arith in y)
from_le8 (a ∷ b ∷ c ∷ []) h = absurd (let y : ⊥ = omega arith in y)
from_le8 (a ∷ b ∷ c ∷ d ∷ []) h = absurd (let y : ⊥ = omega arith in y)
from_le8 (a ∷ b ∷ c ∷ d ∷ p ∷ []) h = absurd (let y : ⊥ = omega arith in y)
from_le8 (a ∷ b ∷ c ∷ d ∷ p ∷ q ∷ []) h = absurd (let y : ⊥ = omega arith in y)
from_le8 (a ∷ b ∷ c ∷ d ∷ p ∷ q ∷ r ∷ []) h = absurd (let y : ⊥ = omega arith in y)
from_le8 (a ∷ b ∷ c ∷ d ∷ p ∷ q ∷ r ∷ s ∷ x ∷ l) h = absurd (let y : ⊥ = omega arith in y)
