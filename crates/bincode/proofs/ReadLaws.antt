-- What an answer says of the answers that it was made of.
-- Assumes nothing.
use Prim.Native.Nat.{ℕ, ◌≤◌, ◌<◌}
use mathlib.Core.Path.{◌≡◌, refl, sym, ap}
use mathlib.Core.List.{List}
use mathlib.Core.Bool.{Bool, true, false, cond, ◌||◌}
use native.Mathlib.Omega.{arith}
use lib.ListN.{length}
use borrow.Author.Tests.{lt-ltb, le-ltb}
use Rattle.std.specs.declared.result.Result.{Result}
use Rattle.std.specs.declared.result.Result.TheVariants.{Ok, Err}
use Rattle.bincode.specs.Read.{Read, value, refuse, bind, map_read, whole}
use Rattle.bincode.specs.Outcome.{Outcome, done, refused}
use Rattle.bincode.specs.Rows.{row}
use Rattle.bincode.specs.Answer.{answer, step_of}
use Rattle.bincode.specs.declared.Refusal.{Refusal}

module _ {A : Type 0} (x : Read A) where
  -- not both a value and a refusal
  pub clash : {a : A} {c k : ℕ} → x ≡ value a c → x ≡ refuse k → ⊥
  clash p q = let z : ◌≡◌ {A = ℕ} 0 1 = cc in omega arith

  pub same_next : {a b : A} {c d : ℕ} → x ≡ value a c → x ≡ value b d → c ≡ d
  same_next p q = cc

  pub same_value : {a b : A} {c d : ℕ} → x ≡ value a c → x ≡ value b d → a ≡ b
  same_value p q = cc

  -- a test that refuses was passed
  pub cond_value : (b : Bool) (k : ℕ) {a : A} {c : ℕ} → cond b (refuse k) x ≡ value a c → (b ≡ false) × (x ≡ value a c)
  cond_value true k p = let z : ◌≡◌ {A = ℕ} 0 1 = cc in absurd (let y : ⊥ = omega arith in y)
  cond_value false k p = (refl, p)

module _ {A B : Type 0} where
  pub bind_value : (x : Read A) (f : A → ℕ → Read B) {b : B} {c : ℕ} → bind x f ≡ value b c
      → (a : A) × (d : ℕ) × (x ≡ value a d) × (f a d ≡ value b c)
  bind_value (value a d) f p = (a, d, refl, p)
  bind_value (refuse k) f p = absurd (clash (refuse k) p refl)

-- not both accepted and refused
module _ {A E : Type 0} where
  pub cross : {a : A} {e : E} → ◌≡◌ {A = Result A E} (Ok a) (Err e) → ⊥
  cross p = let z : ◌≡◌ {A = ℕ} 0 1 = cc in omega arith

  pub crossed : {a : A} {e : E} → ◌≡◌ {A = Result A E} (Err e) (Ok a) → ⊥
  crossed p = let z : ◌≡◌ {A = ℕ} 0 1 = cc in omega arith

module _ {A : Type 0} where
  pub done_refused : {a : A} {n : ℕ} → ◌≡◌ {A = Outcome A} (refused n) (done a) → ⊥
  done_refused p = let z : ◌≡◌ {A = ℕ} 0 1 = cc in omega arith

pub or_false : (a b : Bool) → (a || b) ≡ false → (a ≡ false) × (b ≡ false)
or_false true b p = (p, cc)
or_false false b p = (refl, p)

-- what an answer seen through f says of the answer
module _ {A B : Type 0} (f : A → B) where
  pub map_refused : (x : Read A) {n : ℕ} → map_read f x ≡ refuse n → x ≡ refuse n
  map_refused (value a d) p = absurd (clash (value (f a) d) refl p)
  map_refused (refuse k) {n} p = let e : k ≡ n = cc in ap refuse e

-- what an answer that code gave tells of the reading that it came from
module _ {A B : Type 0} (held : A → B) where
  pub answer_ok : (x : Read A) (b : B) (c : ℕ) → answer held x ≡ Ok (b, c) → (a : A) × (x ≡ value a c) × (b ≡ held a)
  answer_ok (value a d) b c p = let q : (held a, d) ≡ (b, c) = cc in (a, ap (λ (k : ℕ). value a k) (ap (λ (y : B × ℕ). y.1) q), sym (ap (λ (y : B × ℕ). y.0) q))
  answer_ok (refuse n) b c p = absurd (crossed p)

  pub answer_err : (x : Read A) (r : Refusal) → answer held x ≡ Err r → (n : ℕ) × (x ≡ refuse n) × (r ≡ row n)
  answer_err (value a d) r p = absurd (cross p)
  answer_err (refuse n) r p = (n, refl, cc)

  -- a refusal is passed on as it is
  module _ {C D : Type 0} (held' : C → D) where
    pub err_passed : (x : Read A) (f : A → ℕ → Read C) (r : Refusal) → answer held x ≡ Err r → answer held' (bind x f) ≡ Err r
    err_passed (value a d) f r p = absurd (cross p)
    err_passed (refuse n) f r p = cc

-- what a position behind a value that was passed over tells
module _ {A : Type 0} where
  pub step_ok : (x : Read A) (c : ℕ) → step_of x ≡ Ok c → (a : A) × (x ≡ value a c)
  step_ok (value a d) c p = (a, let e : d ≡ c = cc in ap (λ (k : ℕ). value a k) e)
  step_ok (refuse n) c p = absurd (crossed p)

  pub step_err : (x : Read A) (r : Refusal) → step_of x ≡ Err r → (n : ℕ) × (x ≡ refuse n) × (r ≡ row n)
  step_err (value a d) r p = absurd (cross p)
  step_err (refuse n) r p = (n, refl, cc)

-- reading a whole input goes by the reading and one test
module _ {A : Type 0} (rd : ℕ → Read A) (s : List ℕ) where
  pub whole_refused : (n : ℕ) → rd 0 ≡ refuse n → whole rd s ≡ refuse n
  unfolding whole
  whole_refused n r = rw r

  pub whole_left : (a : A) (c : ℕ) → rd 0 ≡ value a c → c < length s → whole rd s ≡ refuse 2
  unfolding whole
  whole_left a c r h = rw (r, lt-ltb c (length s) h)

  pub whole_read : (a : A) (c : ℕ) → rd 0 ≡ value a c → length s ≤ c → whole rd s ≡ value a c
  unfolding whole
  whole_read a c r h = rw (r, le-ltb c (length s) h)
