pub mod SettleLaws
pub mod StoreLaws
pub mod StepLaws
pub mod DoneLaws
pub mod ToldLaws
