pub mod FaultLog
