-- 02, CR 5: the bytes of a number of the variable widths, byte for byte: below 251 one; else 251, 252 or 253 and then two, four or eight, the least significant first.
-- Assumes nothing.
use Prim.Native.Nat.{ℕ, ◌%◌, ◌^◌, ◌-◌, ◌<◌}
use mathlib.Core.Path.{◌≡◌, refl}
use mathlib.Core.List.{[], ◌∷◌}
use native.Mathlib.Omega.{arith}
use borrow.Author.Tests.{lt-ltb}
use Rattle.bincode.specs.Numbers.{bytes_of, variable_bytes}

pub one_byte : (x : ℕ) → x < 251 → variable_bytes x ≡ x ∷ []
unfolding variable_bytes bytes_of
one_byte x h = let e : x % 256 ≡ x = omega arith in rw (lt-ltb x 251 h, e)

-- the first that need more, and the last that do not
pub at_the_edges : (variable_bytes 250 ≡ 250 ∷ [])
    × (variable_bytes 251 ≡ 251 ∷ 251 ∷ 0 ∷ [])
    × (variable_bytes (2 ^ 16 - 1) ≡ 251 ∷ 255 ∷ 255 ∷ [])
    × (variable_bytes (2 ^ 16) ≡ 252 ∷ 0 ∷ 0 ∷ 1 ∷ 0 ∷ [])
    × (variable_bytes (2 ^ 32 - 1) ≡ 252 ∷ 255 ∷ 255 ∷ 255 ∷ 255 ∷ [])
    × (variable_bytes (2 ^ 32) ≡ 253 ∷ 0 ∷ 0 ∷ 0 ∷ 0 ∷ 1 ∷ 0 ∷ 0 ∷ 0 ∷ [])
    × (variable_bytes (2 ^ 64 - 1) ≡ 253 ∷ 255 ∷ 255 ∷ 255 ∷ 255 ∷ 255 ∷ 255 ∷ 255 ∷ 255 ∷ [])
unfolding variable_bytes bytes_of
at_the_edges = (refl, refl, refl, refl, refl, refl, refl)
