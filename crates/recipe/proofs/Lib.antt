pub mod MapLaws
pub mod RecipeLaws
pub mod PageLaws
