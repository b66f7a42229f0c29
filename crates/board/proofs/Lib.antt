pub mod BoardTurns
pub mod HandedLaws
