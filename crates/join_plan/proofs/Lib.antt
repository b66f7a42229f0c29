pub mod PlanLaws
pub mod PlanCodes
pub mod PlanCauses
pub mod PlanLengths
pub mod ConvertLaws
pub mod PageConversionLaws
pub mod ThereAndBack
pub mod PlanRefusals
