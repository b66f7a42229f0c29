pub mod EncryptionSchedule
pub mod ScheduleCauses
