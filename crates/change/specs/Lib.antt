pub mod Change
pub mod ChangeCauses
