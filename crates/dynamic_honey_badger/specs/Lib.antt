pub mod State
pub mod OwnVotes
pub mod Received
pub mod Parts
pub mod Asked
