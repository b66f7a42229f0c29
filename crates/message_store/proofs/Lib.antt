pub mod StoreLaws
pub mod PageLaws
