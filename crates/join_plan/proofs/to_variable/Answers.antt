use Prim.Native.Nat.{ℕ}
use mathlib.Core.Path.{sym, ap, ◌∙◌}
use Rattle.bincode.specs.Answer.{outcome_as_said}
use Rattle.bincode.specs.Numbers.{fixed, variable}
use Rattle.bincode.specs.Sizes.{base}
use Rattle.bincode.specs.Causes.{Short}
use Rattle.bincode.proofs.AnswerLaws.{answer_exit}
use Rattle.bincode.proofs.ReadLaws.{answer_ok}
use Rattle.bincode.proofs.CodeLaws.{fixed_codes}
use Rattle.bincode.proofs.CauseLaws.{fixed_causes}
use Rattle.join_plan.specs.JoinPlan.{plan_held}
use Rattle.join_plan.proofs.PlanLengths.{variable_plan_length}
use Rattle.join_plan.proofs.ConvertLaws.{refused_told, written_told}
use Rattle.join_plan.proofs.to_variable.Goals as goal

pub returns-in_err-p : goal.returns-in_err-p
returns-in_err-p c =
    let a = c.args in
    let p = answer_exit plan_held _ _ (sym c.read_whole.ensures ∙ c.in_err-p.was) _ c.from_residual.ensures.1 in
    let t = refused_told fixed variable Short fixed_codes fixed_causes (base.variable_plan) variable_plan_length a.plan.now a.buf.now (λ i. (c.type_inv.plan i).fits) c.if-buf-lt-VARINT_BYTES.false p.0 p.1 in
    (t.0, ap (outcome_as_said (λ (x : ℕ). x)) p.2 ∙ t.1)

pub returns : goal.returns
returns c =
    let a = c.args in
    let p = answer_ok plan_held _ _ _ (sym c.read_whole.ensures ∙ c.in_ok-p.was) in
    let t = written_told fixed variable Short fixed_codes fixed_causes (base.variable_plan) variable_plan_length a.plan.now a.buf.now (λ i. (c.type_inv.plan i).fits) c.if-buf-lt-VARINT_BYTES.false p.0 _ p.1 in
    rw (c.write.ensures.0, c.write.ensures.1, p.2) t
