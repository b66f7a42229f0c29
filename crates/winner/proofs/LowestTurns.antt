-- Turns of a loop that looks for the lowest voter of a choice, and of one that goes over the choices.
-- Assumes nothing.
use Prim.Native.Nat.{ℕ, suc, ◌+◌, ◌≤◌, ◌<◌, min}
use mathlib.Core.Path.{◌≡◌, refl, ap, ◌∙◌}
use mathlib.Core.List.{List, [], ◌∷◌, ◌++◌, append-nil}
use mathlib.Core.Bool.{Bool, true, false, cond}
use native.Mathlib.Omega.{arith}
use native.Mathlib.Numerals.{add-one}
use lib.Dec.{eqb}
use lib.ListN.{length, take, drop, get_or}
use lib.Seq.{take-suc, drop-cons, split_at}
use Rattle.lists.proofs.ListLaws.{rest_none}
use Rattle.winner.specs.Support.{support, Cast, choices, least_with, supporters, lowest}
use Rattle.winner.specs.Board.{first_choices}
use Rattle.winner.proofs.SupporterLaws.{supporters_append, next_supporter}

-- one number more
pub least_more : (n : ℕ) (ns : List ℕ) (m : ℕ) → least_with n (ns ++ (m ∷ [])) ≡ min (least_with n ns) m
least_more n [] m = refl
least_more n (k ∷ ns) m = least_more (min n k) ns m

module _ {A : Type 0} (eq : A → A → Bool) where
  -- a choice that nobody has, has no voters
  pub none_supports : (x : A) (vs : List (Cast A)) → support eq x (choices vs) ≡ 0 → supporters eq x vs ≡ []
  unfolding support supporters
  none_supports x [] e = refl
  none_supports x (v ∷ vs) e = go (eq v.choice x) e (none_supports x vs)
    where
      go : (b : Bool) → cond b 1 0 + support eq x (choices vs) ≡ 0 → (support eq x (choices vs) ≡ 0 → supporters eq x vs ≡ []) → cond b (v.voter ∷ supporters eq x vs) (supporters eq x vs) ≡ []
      go true e ih = absurd (omega arith)
      go false e ih = ih (omega arith)

  -- one vote more: a voter of the choice may be the lowest, another changes nothing
  module _ (cs : List (Cast A)) (x : A) (own : ℕ) (z : Cast A) (j : ℕ) (l : j < length cs) where
    pub lowest_yes : eq (get_or cs j z).choice x ≡ true → least_with own (supporters eq x (take (j + 1) cs)) ≡ min (least_with own (supporters eq x (take j cs))) (get_or cs j z).voter
    lowest_yes e = ap (least_with own) (rw e at (next_supporter eq x cs j l z)) ∙ least_more own (supporters eq x (take j cs)) (get_or cs j z).voter

    pub lowest_no : eq (get_or cs j z).choice x ≡ false → least_with own (supporters eq x (take (j + 1) cs)) ≡ least_with own (supporters eq x (take j cs))
    lowest_no e = ap (least_with own) ((rw e at (next_supporter eq x cs j l z)) ∙ append-nil (supporters eq x (take j cs)))

  -- where nobody before the vote at a place has its choice, its voter is the first to be compared
  pub lowest_own : (cs : List (Cast A)) (x : A) (z : Cast A) (i : ℕ) → i < length cs → eq (get_or cs i z).choice x ≡ true → support eq x (choices (take i cs)) ≡ 0
      → least_with (get_or cs i z).voter (supporters eq x cs) ≡ lowest eq x cs
  unfolding lowest supporters
  lowest_own cs x z i l e n =
      let own = get_or cs i z in
      let rest = supporters eq x (drop (suc i) cs) in
      let all : supporters eq x cs ≡ own.voter ∷ rest
      = ap (supporters eq x) (split_at cs i z l) ∙ supporters_append eq x (take i cs) (own ∷ drop (suc i) cs) ∙ rw (none_supports x (take i cs) n, e) in
      let same : min own.voter own.voter ≡ own.voter = omega arith in
      rw all (ap (λ (n : ℕ). least_with n rest) same)

  -- the choice at a place: nobody before has it, and it is next, or somebody has
  module _ (xs : List A) (x : A) (i : ℕ) (z : A) (e : x ≡ get_or xs i z) (l : i < length xs) where
    next_choice : first_choices eq (take i xs) (drop i xs)
        ≡ cond (eqb (support eq x (take i xs)) 0) (x ∷ first_choices eq (take (i + 1) xs) (drop (i + 1) xs)) (first_choices eq (take (i + 1) xs) (drop (i + 1) xs))
    unfolding first_choices
    next_choice = rw (e, add-one, drop-cons xs i z l, take-suc xs i z l)

    pub choice_first : eqb (support eq x (take i xs)) 0 ≡ true → first_choices eq (take i xs) (drop i xs) ≡ x ∷ first_choices eq (take (i + 1) xs) (drop (i + 1) xs)
    choice_first h = rw h at next_choice

    pub choice_again : eqb (support eq x (take i xs)) 0 ≡ false → first_choices eq (take i xs) (drop i xs) ≡ first_choices eq (take (i + 1) xs) (drop (i + 1) xs)
    choice_again h = rw h at next_choice

  pub choices_end : (xs : List A) (i : ℕ) → length xs ≤ i → first_choices eq (take i xs) (drop i xs) ≡ []
  unfolding first_choices
  choices_end xs i h = rw (rest_none xs i h)
