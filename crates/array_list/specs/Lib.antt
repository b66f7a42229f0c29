pub mod ArrayList
