pub mod Refusals
pub mod Process
pub mod Opening
