pub mod Fields
pub mod MessageLaws
pub mod MessageCodes
pub mod MessageCauses
pub mod HeadLaws
