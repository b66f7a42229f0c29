pub mod KeyGenState
pub mod LentCounts
