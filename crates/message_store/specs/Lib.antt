pub mod MessageStore
