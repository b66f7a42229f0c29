-- A signed vote without its change.
use Rattle.votes.specs.declared.VoteHead.{VoteHead}
use Rattle.votes.specs.Votes.{SignedVoteOf}

abbrev pub head_of : SignedVoteOf → VoteHead
head_of x = record { era = x.vote.era; num = x.vote.num; voter = x.voter; sig = x.sig }
