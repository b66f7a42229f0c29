pub mod JoinPlan
pub mod PlanCauses
