pub mod Reference
pub mod Winner
pub mod Terms
pub mod Step
