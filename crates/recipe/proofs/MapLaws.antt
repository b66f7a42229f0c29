-- Laws of an array that a closure makes of another, element by element.
-- Assumes nothing.
use Prim.Native.Nat.{ℕ, zero, suc, ◌+◌, ◌<◌}
use mathlib.Core.Path.{◌≡◌, refl, sym, ap, ◌∙◌, subst}
use mathlib.Core.List.{List, [], ◌∷◌, map}
use native.Mathlib.Omega.{arith}
use native.Mathlib.Nat.{add-zero, zero-add}
use denote.Param.Members.{Mut}
use lib.ListN.{length, get_or}
use Rattle.std.specs.Fn.{Called}
use Rattle.std.specs.Array.{MapsFrom, IsMapOf}

module _ {A B : Type 0} (h : A → B) where
  -- equal place by place to a map is equal to it
  pointwise : (xs : List A) (ys : List B) → length ys ≡ length xs → ((k : ℕ) (d : A) (e : B) → k < length xs → get_or ys k e ≡ h (get_or xs k d)) → ys ≡ map h xs
  pointwise [] [] l p = refl
  pointwise [] (y ∷ ys) l p = absurd (let z : ⊥ = omega (arith, l) in z)
  pointwise (x ∷ xs) [] l p = absurd (let z : ⊥ = omega (arith, l) in z)
  pointwise (x ∷ xs) (y ∷ ys) l p =
      let first : y ≡ h x = p 0 x y (omega arith) in
      let others : ys ≡ map h xs = pointwise xs ys (omega (arith, l)) (λ k d e b. p (suc k) d e (omega (arith, b))) in
      rw (first, others) refl

  -- calls of a closure that stays as it is, and gives h of each element, give the map
  module _ {F : Type 0} (g : Mut F (A × Unit {0}) B) (f : F) (gives : (x : A) (y : B) (q : F) → Called g f (x, tt) y q → (q ≡ f) × (y ≡ h x)) where
    maps_at : (n i : ℕ) (xs : List A) (ys : List B) (p : F) → p ≡ f → MapsFrom g p xs ys i n → (k : ℕ) → k < n → (d : A) (e : B) → get_or ys (i + k) e ≡ h (get_or xs (i + k) d)
    maps_at zero i xs ys p s m k b d e = absurd (let z : ⊥ = omega (arith, b) in z)
    maps_at (suc n) i xs ys p s (q, x, y, ex, ey, c, m) zero b d e =
        let v = gives x y q (subst (λ (r : F). Called g r (x, tt) y q) s c) in
        rw add-zero (ey.1 e ∙ v.1 ∙ sym (ap h (ex.1 d)))
    maps_at (suc n) i xs ys p s (q, x, y, ex, ey, c, m) (suc k) b d e =
        let v = gives x y q (subst (λ (r : F). Called g r (x, tt) y q) s c) in
        let w : i + suc k ≡ i + 1 + k = omega arith in
        rw w (maps_at n (i + 1) xs ys q v.0 m k (omega (arith, b)) d e)

    pub mapped : (xs : List A) (ys : List B) (n : ℕ) → length xs ≡ n → IsMapOf g f xs ys n → ys ≡ map h xs
    mapped xs ys n l m = pointwise xs ys (m.long ∙ sym l) (λ k d e b. rw (zero-add k) at (maps_at n 0 xs ys f refl m.each k (omega (arith, l, b)) d e))
