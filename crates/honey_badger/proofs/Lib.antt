pub mod ScheduleLaws
pub mod ScheduleCodes
pub mod CallLaws
pub mod CycleLaws
pub mod ScheduleCauses
pub mod ScheduleLengths
pub mod ScheduleRefusals
