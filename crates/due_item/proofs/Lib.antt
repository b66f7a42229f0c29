pub mod DueItemLaws
