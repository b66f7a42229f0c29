pub mod Recipe
pub mod Places
