-- Document 01's order of checks on a committed vote: number, then era, then signature. 02, CR 6 replaced it; it is kept to say in what the two orders differ, and nothing
-- else goes by it.
use Rattle.std.specs.Prelude.{ℕ, List, cond, eqb}
use Rattle.bincode.specs.Sizes.{Sizes}
use Rattle.pub_key_map.specs.declared.Node.{Node}
use Rattle.votes.specs.Votes.{SignedVoteOf}
use Rattle.fault_log.specs.declared.FaultKind.TheVariants.{InvalidCommittedVote}
use Rattle.vote_counter.specs.VoteCounter.{CounterOf, obsolete, valid_vote, VoteEffect, stored, nothing_new, fault, Added, after_committed}

-- 01, step 3: "A vote numbered at or below the voter's stored one changes nothing and makes no fault. Otherwise a wrong era or signature is `InvalidCommittedVote` on
-- the proposer. Otherwise it replaces the stored one."
unfoldable pub number_first : ℕ → List Node → List SignedVoteOf → SignedVoteOf → VoteEffect
number_first era ns vs v =
    cond (obsolete vs v) nothing_new
    (cond (eqb v.vote.era era) (cond (valid_vote ns v) stored (fault InvalidCommittedVote)) (fault InvalidCommittedVote))

-- what a counter makes of a committed vote in that order
unfoldable pub added_number_first : Sizes → CounterOf → SignedVoteOf → Added
added_number_first z c v = after_committed z c v (number_first c.era c.nodes c.committed v)
