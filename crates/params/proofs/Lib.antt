pub mod ParamsCodes
pub mod ParamsCauses
pub mod ParamsLengths
pub mod ParamsRefusals
