pub mod Message
pub mod ContentCauses
