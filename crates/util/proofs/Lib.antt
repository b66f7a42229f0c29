pub mod FaultyLaws
