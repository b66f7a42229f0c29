pub mod CountLaws
pub mod LentCountLaws
pub mod PageLaws
