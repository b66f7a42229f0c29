-- A joining with lent lists of due items, by what the checks said of its plan.
-- Assumes nothing.
use Prim.Native.Nat.{ℕ}
use mathlib.Core.Path.{◌≡◌, sym, ap, ◌∙◌}
use mathlib.Core.List.{List, []}
use Rattle.std.specs.Result.{IsErrAnd}
use Rattle.std.specs.declared.result.Result.{Result}
use Rattle.std.specs.declared.result.Result.TheVariants.{Ok, Err}
use Rattle.bincode.specs.Answer.{outcome_as_said}
use Rattle.bincode.specs.Outcome.{Outcome, done, refused}
use Rattle.bincode.specs.Rows.{row_number}
use Rattle.bincode.specs.Sizes.{Sizes}
use Rattle.bincode.specs.declared.Refusal.{Refusal}
use Rattle.filled.specs.Numbers.{DueIn, due_places}
use Rattle.filled.proofs.DueLaws.{due_none, due_same}
use Rattle.join_plan.specs.declared.JoinPlan.{JoinPlan}
use Rattle.join_plan.specs.JoinPlan.{plan_of}
use Rattle.joining.specs.Starting.{join_checked}
use Rattle.dynamic_honey_badger.specs.declared.JoinStarted.{JoinStarted}
use Rattle.dynamic_honey_badger.specs.State.{Joined, joined_with, joined_from, joined, JoinAnswer, numbered, join_answer, join_answer_of, join_due, JoinedLent}

module _ (z : Sizes) (id key d : ℕ) (plan kinds indices eras : List ℕ) (places : d ≡ due_places kinds indices eras) (t : Result JoinPlan Refusal)
    (checked : outcome_as_said plan_of t ≡ join_checked z d id key plan) where
  abbrev All : Outcome Joined
  All = joined z (due_places kinds indices eras) id key plan

  -- the checks decide
  decided : (x : Result JoinPlan Refusal) → t ≡ x → All ≡ joined_from z id key (outcome_as_said plan_of x)
  unfolding joined
  decided x e =
      sym (ap (joined_from z id key) checked ∙ ap (λ (k : ℕ). joined z k id key plan) places) ∙ ap (λ (y : Result JoinPlan Refusal). joined_from z id key (outcome_as_said plan_of y)) e

  -- a plan that is accepted: what the node answers and writes is what joining with it comes to
  module _ (p : JoinPlan) (accepted : t ≡ Ok p) where
    pub joined_lent : (r : JoinStarted) (kinds' indices' eras' : List ℕ)
        → join_answer_of r ≡ numbered (joined_with z id key (plan_of p))
        → DueIn (joined_with z id key (plan_of p)).due kinds kinds' indices indices' eras eras' → JoinedLent z id key plan (Ok r) kinds kinds' indices indices' eras eras'
    joined_lent r kinds' indices' eras' e w =
        let all : All ≡ done (joined_with z id key (plan_of p)) = decided (Ok p) accepted in (
          ap {B = Outcome JoinAnswer} done e ∙ ap join_answer (sym all),
          due_same kinds kinds' indices indices' eras eras' (joined_with z id key (plan_of p)).due (join_due All) (ap join_due (sym all)) w,
        )

  -- one that is refused: the number, and nothing is written
  pub refused_lent : (n : Refusal) → t ≡ Err n → (r : Result JoinStarted Refusal) → IsErrAnd r (λ (y : Refusal). y ≡ n) → JoinedLent z id key plan r kinds kinds indices indices eras eras
  refused_lent n e (Ok a) h = absurd h
  refused_lent n e (Err y) h =
      let all : All ≡ refused (row_number n) = decided (Err n) e in (
        ap {B = Outcome JoinAnswer} (λ (k : Refusal). refused (row_number k)) h ∙ ap join_answer (sym all),
        due_same kinds kinds indices indices eras eras [] (join_due All) (ap join_due (sym all)) (due_none kinds indices eras),
      )
