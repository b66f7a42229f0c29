pub mod Board
pub mod Turns
