pub mod VotesLaws
