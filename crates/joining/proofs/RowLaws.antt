-- The refusal of a reading that is passed on has the number that the reading has: a reading is refused for a cause, and each cause's number is in the table.
-- Assumes nothing.
use Prim.Native.Nat.{ℕ}
use mathlib.Core.Path.{◌≡◌, sym, ap, ◌∙◌}
use mathlib.Core.List.{List}
use Rattle.std.specs.Result.{IsErrAnd}
use Rattle.std.specs.declared.result.Result.{Result}
use Rattle.std.specs.declared.result.Result.TheVariants.{Ok, Err}
use Rattle.bincode.specs.Answer.{answer, outcome_as_said}
use Rattle.bincode.specs.Causes.{Cause, Caused}
use Rattle.bincode.specs.Outcome.{Outcome, refused}
use Rattle.bincode.specs.Read.{Read, refuse}
use Rattle.bincode.specs.Rows.{row_number}
use Rattle.bincode.specs.Stands.{Bytes}
use Rattle.bincode.specs.declared.Refusal.{Refusal}
use Rattle.bincode.proofs.ReadLaws.{answer_err}
use Rattle.bincode.proofs.RowLaws.{caused_row}

module _ {A B : Type 0} (s : List ℕ) (x : Read A) {W : Cause → Type 0} (k : Caused s x W) (b : Bytes s) (held : A → B)
    (t : Result (B × ℕ) Refusal) (e : t ≡ answer held x) where
  pub refused_by : (r : Refusal) → t ≡ Err r → x ≡ refuse (row_number r)
  refused_by r p =
      let u = answer_err held x r (sym e ∙ p) in
      u.1 ∙ ap refuse (sym (ap row_number u.2 ∙ caused_row s x W k b u.0 u.1))

  -- and a `?` that passes it on answers with that number
  module _ {C D : Type 0} (f : C → D) where
    pub exit_said : (q : Refusal) → t ≡ Err q → (r : Result C Refusal) → IsErrAnd r (λ (y : Refusal). y ≡ q)
        → (n : ℕ) × (x ≡ refuse n) × (outcome_as_said f r ≡ refused n)
    exit_said q p (Ok a) h = absurd h
    exit_said q p (Err y) h = (row_number q, refused_by q p, ap (λ (r : Refusal). refused (row_number r)) h)

-- a `?` that passes on the refusal of another call
module _ {A B C D : Type 0} (f : A → B) (g : C → D) where
  pub exit_outcome : (t : Result A Refusal) (o : Outcome B) → outcome_as_said f t ≡ o → (q : Refusal) → t ≡ Err q
      → (r : Result C Refusal) → IsErrAnd r (λ (y : Refusal). y ≡ q)
      → (n : ℕ) × (o ≡ refused n) × (outcome_as_said g r ≡ refused n)
  exit_outcome t o e q p (Ok a) h = absurd h
  exit_outcome t o e q p (Err y) h = (row_number q, sym e ∙ ap (outcome_as_said f) p, ap (λ (r : Refusal). refused (row_number r)) h)
