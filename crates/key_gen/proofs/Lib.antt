pub mod CountLaws
pub mod KeyGenLaws
pub mod PageLaws
