pub mod BatchLaws
pub mod PageLaws
pub mod VerdictLaws
pub mod KeepLaws
pub mod VoteOutcomes
