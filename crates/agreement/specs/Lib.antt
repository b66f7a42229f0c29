pub mod Shared
pub mod Calls
pub mod Claim
pub mod Hypotheses
pub mod Formed
pub mod Accepted
pub mod Witness
pub mod NumberFirst
