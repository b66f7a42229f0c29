-- What the answers that code gives tell of the readings that they came from: of a number, of a whole input; and where a `?` leaves.
-- Assumes nothing.
use Prim.Native.Nat.{ℕ}
use mathlib.Core.Path.{◌≡◌, refl, sym, ap, ◌∙◌}
use mathlib.Core.Bool.{Bool, true, false, cond}
use mathlib.Core.List.{List}
use lib.Dec.{ltb}
use lib.ListN.{length}
use Rattle.std.specs.Prelude.{IsErrAnd}
use Rattle.std.specs.declared.result.Result.{Result}
use Rattle.std.specs.declared.result.Result.TheVariants.{Ok, Err}
use Rattle.bincode.specs.Read.{Read, value, refuse, bind, whole}
use Rattle.bincode.specs.Numbers.{read_num}
use Rattle.bincode.specs.Rows.{row}
use Rattle.bincode.specs.Answer.{answer_as_read, answer, step_of, all_read}
use Rattle.bincode.specs.declared.Refusal.{Refusal}
use Rattle.bincode.specs.declared.Refusal.TheVariants.{Malformed}
use Rattle.bincode.proofs.NumberLaws.{read_refused}
use Rattle.bincode.proofs.RowLaws.{row_named}
use Rattle.bincode.proofs.ReadLaws.{answer_err, step_err}

-- a number that was read, and one that was not
module _ (w : ℕ) (s : List ℕ) (at : ℕ) {t : Result (ℕ × ℕ) Refusal} (e : answer_as_read (λ (x : ℕ). x) t ≡ read_num w s at) where
  pub num_read : {x c : ℕ} → t ≡ Ok (x, c) → read_num w s at ≡ value x c
  num_read p = sym e ∙ ap (answer_as_read (λ (x : ℕ). x)) p

  pub num_cut : {r : Refusal} → t ≡ Err r → read_num w s at ≡ refuse 2
  num_cut p = read_refused w s at _ (sym e ∙ ap (answer_as_read (λ (x : ℕ). x)) p)

-- what is seen of an answer tells the answer
pub seen_answer : (t : Result (ℕ × ℕ) Refusal) (x : Read ℕ) → answer_as_read (λ (y : ℕ). y) t ≡ x → t ≡ answer (λ (y : ℕ). y) x
seen_answer (Ok (a, c)) x e = ap (answer (λ (y : ℕ). y)) e
seen_answer (Err r) x e = ap Err (sym (row_named r)) ∙ ap (answer (λ (y : ℕ). y)) e

-- what the exit of a `?` returns: the refusal that it met
pub passed_on : {A : Type 0} (r : Result A Refusal) (e : Refusal) → IsErrAnd r (λ (y : Refusal). y ≡ e) → r ≡ Err e
passed_on (Ok a) e h = absurd h
passed_on (Err y) e h = ap Err h

-- and what it tells of the reading: its number
module _ {A B C : Type 0} (held : A → B) where
  pub answer_exit : (x : Read A) (e : Refusal) → answer held x ≡ Err e → (r : Result C Refusal) → IsErrAnd r (λ (y : Refusal). y ≡ e) → (n : ℕ) × (x ≡ refuse n) × (r ≡ Err (row n))
  answer_exit x e p r h = let u = answer_err held x e p in (u.0, u.1, passed_on r e h ∙ ap Err u.2)

module _ {A C : Type 0} where
  pub step_exit : (x : Read A) (e : Refusal) → step_of x ≡ Err e → (r : Result C Refusal) → IsErrAnd r (λ (y : Refusal). y ≡ e) → (n : ℕ) × (x ≡ refuse n) × (r ≡ Err (row n))
  step_exit x e p r h = let u = step_err x e p in (u.0, u.1, passed_on r e h ∙ ap Err u.2)

-- a reading that must take the whole input is the reading of a whole input
module _ {A B : Type 0} (held : A → B) (s : List ℕ) where
  ended : (x : Read A) → all_read s (answer held x) ≡ answer held (bind x λ a c. cond (ltb c (length s)) (refuse 2) (value a c))
  ended (value a c) = by_test (ltb c (length s))
    where
      by_test : (b : Bool) → cond b (Err Malformed) (Ok (held a, c)) ≡ answer held (cond b (refuse 2) (value a c))
      by_test true = refl
      by_test false = refl
  ended (refuse n) = refl

  pub all_read_whole : (rd : ℕ → Read A) → all_read s (answer held (rd 0)) ≡ answer held (whole rd s)
  unfolding whole
  all_read_whole rd = ended (rd 0)
