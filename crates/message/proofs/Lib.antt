pub mod ContentCodes
pub mod ContentCauses
