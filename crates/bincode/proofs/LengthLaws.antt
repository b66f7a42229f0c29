-- How many bytes the numbers of an edition take at most: a tag, a count up to a limit, any number of four bytes and any of eight.
-- Assumes nothing.
use Prim.Native.Nat.{ℕ, ◌^◌, ◌≤◌, ◌<◌}
use native.Mathlib.Omega.{arith}
use lib.ListN.{length}
use Rattle.bincode.specs.Numbers.{Edition, fixed, variable}
use Rattle.bincode.proofs.NumberLaws.{length_bytes_of}
use Rattle.bincode.proofs.VariableLaws.{variable_one, variable_four, variable_eight}

pub record Lengths (e : Edition) (limit tag count four eight : ℕ) : Type 0 where
  pub narrow_tag : tag ≤ count
  pub narrow_four : four ≤ eight
  pub tag_by : (x : ℕ) → x < 4 → length (e.bytes 4 x) ≤ tag
  pub count_by : (x : ℕ) → x ≤ limit → length (e.bytes 8 x) ≤ count
  pub four_by : (x : ℕ) → x < 256 ^ 4 → length (e.bytes 4 x) ≤ four
  pub eight_by : (x : ℕ) → x < 256 ^ 8 → length (e.bytes 8 x) ≤ eight

pub fixed_lengths : (limit : ℕ) → Lengths fixed limit 4 8 4 8
fixed_lengths limit =
    record {
      narrow_tag = omega arith;
      narrow_four = omega arith;
      tag_by = λ x h. omega (arith, length_bytes_of 4 x);
      count_by = λ x h. omega (arith, length_bytes_of 8 x);
      four_by = λ x h. omega (arith, length_bytes_of 4 x);
      eight_by = λ x h. omega (arith, length_bytes_of 8 x);
    }

-- in the variable widths a count takes one byte up to 250
pub variable_lengths : (limit : ℕ) → limit < 251 → Lengths variable limit 1 1 5 9
variable_lengths limit small =
    record {
      narrow_tag = omega arith;
      narrow_four = omega arith;
      tag_by = λ x h. omega (arith, variable_one x (omega (arith, h)));
      count_by = λ x h. omega (arith, variable_one x (omega (arith, h, small)));
      four_by = variable_four;
      eight_by = λ x h. variable_eight x;
    }
