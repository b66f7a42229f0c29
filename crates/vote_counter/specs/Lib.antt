pub mod VoteCounter
pub mod Answers
pub mod Calls
pub mod Carried
pub mod NumberFirst
pub mod MostSupport
