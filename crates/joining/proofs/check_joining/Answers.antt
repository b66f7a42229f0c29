use mathlib.Core.Path.{sym, ◌∙◌}
use lib.Dec.{lit<}
use Rattle.bincode.specs.Causes.{Short}
use Rattle.bincode.specs.Numbers.{fixed}
use Rattle.bincode.specs.Sizes.{base}
use Rattle.bincode.proofs.CauseLaws.{fixed_causes, whole_causes}
use Rattle.bincode.proofs.CodeLaws.{fixed_codes}
use Rattle.join_plan.specs.JoinPlan.{plan_of, plan_held}
use Rattle.join_plan.proofs.PlanCauses.{plan_causes}
use Rattle.join_plan.proofs.PlanCodes.{plan_codes}
use Rattle.joining.proofs.RowLaws.{exit_said}
use Rattle.joining.proofs.StartLaws.{join_refused}
use Rattle.joining.proofs.check_joining.Goals as goal

pub returns-in_err-read : goal.returns-in_err-read
returns-in_err-read c =
    let s = c.args.plan.now in
    let causes = whole_causes (plan_codes fixed base (lit< tt) s (fixed_codes s)) (plan_causes fixed Short s (fixed_codes s) (fixed_causes s) base (lit< tt)) in
    let p = exit_said s _ causes (λ i. (c.type_inv.plan i).fits) plan_held _ c.read_whole.ensures plan_of _ c.in_err-read.was _ c.from_residual.ensures.1 in
    p.2 ∙ sym (join_refused base _ _ _ s c.if-due_places-lt-LIMIT.false _ p.1)
