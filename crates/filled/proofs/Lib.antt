pub mod FillLaws
pub mod DueLaws
pub mod PageLaws
