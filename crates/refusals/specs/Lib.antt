pub mod Table
pub mod Causes
pub mod NeverSix
pub mod RowsOnly
