pub mod MapLaws
pub mod MapCodes
pub mod MapCauses
pub mod MapLengths
pub mod NodeOrder
pub mod MapRefusals
