pub mod Filled
pub mod Numbers
