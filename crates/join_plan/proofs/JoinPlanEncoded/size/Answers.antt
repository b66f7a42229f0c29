use Rattle.join_plan.specs.JoinPlan.{plan_of}
use Rattle.join_plan.proofs.PlanLaws.{fields_bytes}
use Rattle.join_plan.proofs.JoinPlanEncoded.size.Goals as goal

pub returns : goal.returns
returns g c = rw (← fields_bytes g.E.IntEncoding.edition (plan_of c.args.self.now)) c.size.ensures
