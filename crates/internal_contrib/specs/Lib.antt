pub mod InternalContrib
pub mod ContribCauses
pub mod Places
pub mod Index
