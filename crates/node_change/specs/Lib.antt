pub mod NodeChange
