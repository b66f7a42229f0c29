pub mod PubKeyMap
pub mod MapCauses
