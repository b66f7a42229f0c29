-- Laws of handles: their length in bytes, equality of handles, and what the writer's loop starts with.
-- Assumes nothing.
use Prim.Native.Nat.{ℕ, ◌+◌, ◌*◌, ◌≤◌}
use mathlib.Core.Path.{◌≡◌, refl}
use mathlib.Core.List.{List, [], ◌∷◌}
use mathlib.Core.Bool.{true}
use native.Mathlib.Omega.{arith}
use lib.Dec.{eqb}
use lib.ListN.{length, length-append}
use borrow.Author.Tests.{eq-eqb, eqb-true}
use Rattle.lists.proofs.EqLaws.{pointwise_list}
use Rattle.lists.proofs.ListLaws.{eq_list_true, eq_list_refl}
use Rattle.bincode.specs.Numbers.{bytes_of, fixed}
use Rattle.bincode.specs.Stands.{concat_map}
use Rattle.bincode.proofs.NumberLaws.{length_bytes_of}
use Rattle.bincode.specs.Writing.{written, written_to}
use Rattle.bincode.proofs.WriteLaws.{Putting, put_counted}
use Rattle.sync_key_gen.specs.declared.Handles.{Handles}
use Rattle.sync_key_gen.specs.contracts.HandlesPartialEq.TheImpl.{eq-value}
use Rattle.sync_key_gen.specs.SyncKeyGen.{handles_of, same_handles, handles_bytes}

length_values : (xs : List ℕ) → length (concat_map (bytes_of 8) xs) ≡ 8 * length xs
length_values [] = refl
length_values (x ∷ xs) = simp (length-append, length_bytes_of, length_values xs) (omega arith)

pub length_handles : (xs : List ℕ) → length (handles_bytes xs) ≡ 8 + 8 * length xs
unfolding handles_bytes
length_handles xs = simp (length-append, length_bytes_of, length_values)

-- equality of handles is equality
pub handles_true : (xs ys : List ℕ) → same_handles xs ys ≡ true → xs ≡ ys
handles_true = eq_list_true eqb eqb-true

pub handles_refl : (xs : List ℕ) → same_handles xs xs ≡ true
handles_refl = eq_list_refl eqb (λ x. eq-eqb x x refl)

-- `==` of handles is what the definitions call the same
pub handles_eq : (a b : Handles) → (eq-value).it a b ≡ same_handles (handles_of a) (handles_of b)
handles_eq a b = pointwise_list eqb (handles_of a) (handles_of b)

-- handles whose count is written: what the loop over them keeps holds before the first turn
module _ (h : Handles) (n : ℕ) (e : n ≡ length (handles_of h)) (buf : List ℕ) (at : ℕ) where
  pub put_handles : at + length (handles_bytes (handles_of h)) ≤ length buf
      → Putting (bytes_of 8) (handles_of h) (written buf at (handles_bytes (handles_of h))) (written_to buf at (handles_bytes (handles_of h))) 0
      (written buf at (bytes_of 8 n)) (written_to buf at (bytes_of 8 n))
  unfolding handles_bytes
  put_handles room =
      let p = put_counted fixed (bytes_of 8) (handles_of h) buf at n e room in
      record { fits = p.0; content = p.1; stop = p.2 }
