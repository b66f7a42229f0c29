pub mod SignedVotes
