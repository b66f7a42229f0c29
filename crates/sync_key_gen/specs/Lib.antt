pub mod SyncKeyGen
pub mod KeyGenCauses
