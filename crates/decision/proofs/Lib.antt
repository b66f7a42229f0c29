pub mod DecisionLaws
pub mod PageLaws
pub mod CarriedLaws
