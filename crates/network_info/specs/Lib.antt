pub mod NetworkInfo
