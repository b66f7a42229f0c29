pub mod VoteLaws
pub mod VoteCodes
pub mod VoteCauses
pub mod HeadLaws
