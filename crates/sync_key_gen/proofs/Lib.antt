pub mod KeyGenLaws
pub mod KeyGenCodes
pub mod KeyGenCauses
