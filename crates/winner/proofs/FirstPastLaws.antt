-- 02, CR 8: "Whether anybody wins is unaltered". The present rule is held to document 01's, which is kept as a definition: nobody wins by the one exactly where nobody does by the other, and
-- where at most one choice passes f both name the same.
-- Assumes nothing.
use Prim.Native.Nat.{ℕ, ◌+◌, ◌≤◌, ◌<◌}
use mathlib.Core.Path.{◌≡◌, refl, sym, ap, subst, ◌∙◌}
use mathlib.Core.List.{List, [], ◌∷◌, ◌++◌, append_assoc, append-nil}
use mathlib.Core.Bool.{Bool, true, false, cond}
use mathlib.Core.Logic.{◌↔◌}
use native.Mathlib.Omega.{arith}
use lib.Dec.{ltb, eqb}
use lib.ListN.{length, take, get_or, length-append}
use lib.Seq.{append_snoc, take-append-add, get_or-append_seam}
use borrow.Author.Tests.{ltb-true, ltb-false, lt-ltb, le-ltb, eqb-true, eqb-false}
use Rattle.lists.specs.Lists.{Found, found, nothing}
use Rattle.lists.proofs.ListLaws.{found_same, not_found}
use Rattle.winner.specs.Support.{Cast, choices, support}
use Rattle.winner.specs.Winner.{winner}
use Rattle.winner.specs.FirstPast.{past_after, first_past}
use Rattle.winner.proofs.SupportLaws.{support_append}
use Rattle.winner.proofs.WinnerLaws.{winner_supported, winner_none}

module _ {A : Type 0} (eq : A → A → Bool) (f : ℕ) where
  after_supported : (seen xs : List A) (x : A) → past_after eq f seen xs ≡ found x → f < support eq x (seen ++ xs)
  unfolding past_after
  after_supported seen [] x e = absurd (not_found e)
  after_supported seen (y ∷ xs) x e = go (ltb f (support eq y (seen ++ (y ∷ [])))) refl e (after_supported (seen ++ (y ∷ [])) xs x)
    where
      whole : seen ++ (y ∷ xs) ≡ seen ++ (y ∷ []) ++ xs
      whole = sym (append_assoc seen (y ∷ []) xs)

      go : (b : Bool) → ltb f (support eq y (seen ++ (y ∷ []))) ≡ b → cond b (found y) (past_after eq f (seen ++ (y ∷ [])) xs) ≡ found x
          → (past_after eq f (seen ++ (y ∷ [])) xs ≡ found x → f < support eq x (seen ++ (y ∷ []) ++ xs)) → f < support eq x (seen ++ (y ∷ xs))
      go true t e ih =
          let l = ltb-true f (support eq y (seen ++ (y ∷ []))) t in
          subst (λ (z : A). f < support eq z (seen ++ (y ∷ xs))) (found_same e) (rw (whole, support_append eq y (seen ++ (y ∷ [])) xs) (omega arith))
      go false t e ih = rw whole (ih e)

  -- the first past f has more than f supporters
  pub past_supported : (xs : List A) (x : A) → first_past eq f xs ≡ found x → f < support eq x xs
  unfolding first_past
  past_supported xs x e = after_supported [] xs x e

  -- where equality is equality, none is exactly where no choice passes f
  module _ (eq-true : (x y : A) → eq x y ≡ true → x ≡ y) where
    after_none : (seen xs : List A) → ((x : A) → support eq x seen ≤ f) → past_after eq f seen xs ≡ nothing → (x : A) → support eq x (seen ++ xs) ≤ f
    unfolding past_after support
    after_none seen [] h e x = rw (append-nil seen) (h x)
    after_none seen (y ∷ xs) h e x = go (ltb f (support eq y (seen ++ (y ∷ [])))) refl e (after_none (seen ++ (y ∷ [])) xs)
      where
        one : (z : A) → support eq y (seen ++ (y ∷ [])) ≤ f → support eq z (seen ++ (y ∷ [])) ≤ f
        one z l = pick (eq y z) refl
          where
            pick : (b : Bool) → eq y z ≡ b → support eq z (seen ++ (y ∷ [])) ≤ f
            pick true t = subst (λ (w : A). support eq w (seen ++ (y ∷ [])) ≤ f) (eq-true y z t) l
            pick false t = let k = h z in rw (support_append eq z seen (y ∷ []), t) (omega arith)

        go : (b : Bool) → ltb f (support eq y (seen ++ (y ∷ []))) ≡ b → cond b (found y) (past_after eq f (seen ++ (y ∷ [])) xs) ≡ nothing
            → (((z : A) → support eq z (seen ++ (y ∷ [])) ≤ f) → past_after eq f (seen ++ (y ∷ [])) xs ≡ nothing → (z : A) → support eq z (seen ++ (y ∷ []) ++ xs) ≤ f)
            → support eq x (seen ++ (y ∷ xs)) ≤ f
        go true t e ih = absurd (not_found (sym e))
        go false t e ih =
            rw (sym (append_assoc seen (y ∷ []) xs)) (ih (λ z. one z (ltb-false f (support eq y (seen ++ (y ∷ []))) t)) e x)

    pub past_none : (xs : List A) → (first_past eq f xs ≡ nothing) ↔ ((x : A) → support eq x xs ≤ f)
    unfolding first_past support
    past_none xs = (λ e x. after_none [] xs (λ z. start z) e x, λ h. case (past_after eq f [] xs) refl h)
      where
        start : (z : A) → support eq z [] ≤ f
        start z = omega arith

        case : (r : Found A) → past_after eq f [] xs ≡ r → ((x : A) → support eq x xs ≤ f) → r ≡ nothing
        case (found x) e h = absurd (let l = after_supported [] xs x e in let k = h x in let w : ⊥ = omega arith in w)
        case nothing e h = refl

    -- nobody wins by the present rule exactly where nobody does by 01's: of any votes
    pub same_nobody : (vs : List (Cast A)) → (winner eq f vs ≡ nothing) ↔ (first_past eq f (choices vs) ≡ nothing)
    same_nobody vs = (
      λ e. (past_none (choices vs)).1 ((winner_none eq f vs eq-true).0 e),
      λ e. (winner_none eq f vs eq-true).1 ((past_none (choices vs)).0 e),
    )

    -- where at most one choice passes f both name the same
    pub same_alone : (vs : List (Cast A)) → ((x y : A) → f < support eq x (choices vs) → f < support eq y (choices vs) → x ≡ y) → winner eq f vs ≡ first_past eq f (choices vs)
    same_alone vs one = go (winner eq f vs) refl (first_past eq f (choices vs)) refl
      where
        go : (r : Found A) → winner eq f vs ≡ r → (q : Found A) → first_past eq f (choices vs) ≡ q → r ≡ q
        go (found x) e (found y) g = ap found (one x y (winner_supported eq f vs x e) (past_supported (choices vs) y g))
        go (found x) e nothing g = sym e ∙ (same_nobody vs).1 g
        go nothing e (found y) g = sym ((same_nobody vs).0 e) ∙ g
        go nothing e nothing g = refl

-- "counting stops at the first voter whose change passes f": at place i, whose choice passes f among those up to it, where at no earlier place did that place's choice
module _ {A : Type 0} (eq : A → A → Bool) (f : ℕ) (z : A) where
  -- how many of the choices up to place i are for the one at it
  abbrev up_to : List A → ℕ → ℕ
  up_to xs i = support eq (get_or xs i z) (take (i + 1) xs)

  -- at the place behind those that were counted
  at_next : (seen : List A) (x : A) (xs : List A) → up_to (seen ++ (x ∷ xs)) (length seen) ≡ support eq x (seen ++ (x ∷ []))
  at_next seen x xs = rw (get_or-append_seam seen x xs z, take-append-add seen (x ∷ xs) 1)

  after_stops : (seen xs : List A) (i : ℕ) → length seen ≤ i → i < length (seen ++ xs) → f < up_to (seen ++ xs) i → ((j : ℕ) → length seen ≤ j → j < i → up_to (seen ++ xs) j ≤ f)
      → past_after eq f seen xs ≡ found (get_or (seen ++ xs) i z)
  unfolding past_after
  after_stops seen [] i l h p n = absurd (let k : i < length seen = rw (append-nil seen) at h in let y : ⊥ = omega arith in y)
  after_stops seen (x ∷ xs) i l h p n = go (eqb i (length seen)) refl (after_stops (seen ++ (x ∷ [])) xs i)
    where
      go : (b : Bool) → eqb i (length seen) ≡ b
          → (length (seen ++ (x ∷ [])) ≤ i → i < length (seen ++ (x ∷ []) ++ xs) → f < up_to (seen ++ (x ∷ []) ++ xs) i
          → ((j : ℕ) → length (seen ++ (x ∷ [])) ≤ j → j < i → up_to (seen ++ (x ∷ []) ++ xs) j ≤ f) → past_after eq f (seen ++ (x ∷ [])) xs ≡ found (get_or (seen ++ (x ∷ []) ++ xs) i z))
          → cond (ltb f (support eq x (seen ++ (x ∷ [])))) (found x) (past_after eq f (seen ++ (x ∷ [])) xs) ≡ found (get_or (seen ++ (x ∷ xs)) i z)
      go true e ih =
          let q : i ≡ length seen = eqb-true i (length seen) e in
          let k : f < support eq x (seen ++ (x ∷ [])) = rw (q, at_next seen x xs) at p in
          rw (lt-ltb f (support eq x (seen ++ (x ∷ []))) k) (ap found (sym (ap (λ (m : ℕ). get_or (seen ++ (x ∷ xs)) m z) q ∙ get_or-append_seam seen x xs z)))
      go false e ih =
          let k = eqb-false i (length seen) e in
          let m = length-append seen (x ∷ []) in
          let le : support eq x (seen ++ (x ∷ [])) ≤ f = rw (at_next seen x xs) at (n (length seen) (omega arith) (omega arith)) in
          rw (le-ltb f (support eq x (seen ++ (x ∷ []))) le)
          (rw (append_snoc seen x xs) at (ih (omega arith) (rw (append_snoc seen x xs) h) (rw (append_snoc seen x xs) p) (λ j a b. rw (append_snoc seen x xs) (n j (omega arith) b))))

  pub past_stops : (xs : List A) (i : ℕ) → i < length xs → f < up_to xs i → ((j : ℕ) → j < i → up_to xs j ≤ f) → first_past eq f xs ≡ found (get_or xs i z)
  unfolding first_past
  past_stops xs i h p n = after_stops [] xs i (omega arith) h p (λ j a b. n j b)
