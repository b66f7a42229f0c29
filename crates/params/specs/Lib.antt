pub mod Params
pub mod ParamsCauses
