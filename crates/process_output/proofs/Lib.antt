pub mod SomeLaws
pub mod OpeningLaws
pub mod PageLaws
pub mod CallLaws
pub mod CarriedLaws
