-- 01's rule, of before 02, CR 8: "Voters are taken in ascending order and counting stops at the first voter whose change passes f." It is kept for the laws that hold the present rule to it.
use Rattle.std.specs.Prelude.{ℕ, List, [], ◌∷◌, ◌++◌, Bool, cond, ltb}
use Rattle.lists.specs.Lists.{Found, found, nothing}
use Rattle.winner.specs.Support.{support}

-- over any kind of choice with an equality test
module _ {A : Type 0} (eq : A → A → Bool) where
  -- the choices that are still to be counted, behind those that were
  unfoldable pub past_after : ℕ → List A → List A → Found A
  past_after f seen [] = nothing
  past_after f seen (x ∷ xs) = cond (ltb f (support eq x (seen ++ (x ∷ [])))) (found x) (past_after f (seen ++ (x ∷ [])) xs)

  -- the choices of the voters, by ascending voter
  unfoldable pub first_past : ℕ → List A → Found A
  first_past f xs = past_after f [] xs
