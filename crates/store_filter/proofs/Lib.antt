pub mod FilterLaws
pub mod BatchLaws
