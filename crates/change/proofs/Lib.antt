pub mod ChangeLaws
pub mod ChangeCodes
pub mod ChangeCauses
pub mod ChangeLengths
pub mod ChangeRefusals
