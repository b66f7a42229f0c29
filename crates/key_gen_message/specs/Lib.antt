pub mod KeyGenMessage
pub mod Head
pub mod MessageCauses
