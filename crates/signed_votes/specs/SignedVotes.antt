-- Signed votes by ascending voter.
use Rattle.std.specs.Prelude.{ℕ, List, map, replicate}
use Rattle.array_list.specs.ArrayList.{items_in}
use Rattle.bincode.specs.Sizes.{base}
use Rattle.votes.specs.declared.SignedVote.{SignedVote}
use Rattle.votes.specs.Votes.{SignedVoteOf, signed_of, signed_held, no_signed}
use Rattle.signed_votes.specs.declared.SignedVotes.{SignedVotes}

-- the structs that count: those below the count, as far as the array reaches
abbrev pub held : SignedVotes → List SignedVote
held x = items_in x.votes

-- and the votes that they stand for
abbrev pub votes_of : SignedVotes → List SignedVoteOf
votes_of x = map signed_of (held x)

-- no votes
abbrev pub no_votes : SignedVotes
no_votes = record { votes = record { count = 0; items = replicate base.nodes (signed_held no_signed) } }

-- keys and numbers
abbrev pub voter_of : SignedVoteOf → ℕ
voter_of x = x.voter

abbrev pub num_of : SignedVoteOf → ℕ
num_of x = x.vote.num
