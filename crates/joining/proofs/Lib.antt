pub mod StartLaws
pub mod RowLaws
