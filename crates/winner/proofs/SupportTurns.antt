-- Turns of a loop that counts the voters of a choice.
-- Assumes nothing.
use Prim.Native.Nat.{ℕ, ◌+◌, ◌<◌}
use mathlib.Core.Path.{◌≡◌}
use mathlib.Core.List.{List, [], ◌∷◌}
use mathlib.Core.Bool.{Bool, true, false, cond}
use native.Mathlib.Omega.{arith}
use native.Mathlib.Numerals.{add-one}
use lib.ListN.{length, take, get_or}
use lib.Seq.{take-suc}
use Rattle.winner.specs.Support.{support}
use Rattle.winner.proofs.SupportLaws.{support_append}

module _ {A : Type 0} (eq : A → A → Bool) (xs : List A) where
  -- one more choice is counted
  module _ (x z : A) (j : ℕ) (l : j < length xs) where
    one_more : support eq x (take (j + 1) xs) ≡ support eq x (take j xs) + cond (eq (get_or xs j z) x) 1 0
    unfolding support
    one_more = rw (add-one, take-suc xs j z l, support_append eq x (take j xs) (get_or xs j z ∷ [])) (omega arith)

    pub count_yes : eq (get_or xs j z) x ≡ true → support eq x (take (j + 1) xs) ≡ support eq x (take j xs) + 1
    count_yes e = rw e at one_more

    pub count_no : eq (get_or xs j z) x ≡ false → support eq x (take (j + 1) xs) ≡ support eq x (take j xs)
    count_no e = omega (arith, rw e at one_more)
