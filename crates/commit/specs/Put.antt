-- The votes of a batch that stayed, put into the counter behind the batch's loop.
use Rattle.std.specs.Prelude.{ℕ, List, Some, None}
use Rattle.std.specs.declared.option.Option.{Option}
use Rattle.bincode.specs.Read.{Read, value, refuse}
use Rattle.bincode.specs.Sizes.{Sizes}
use Rattle.votes.specs.Votes.{SignedVoteOf, read_signed_vote}
use Rattle.vote_counter.specs.VoteCounter.{CounterOf, add_committed}
use Rattle.commit.specs.declared.tally.Entry.{Entry}

-- a vote that was read is added; what cannot be read changes nothing
abbrev pub put_read : Sizes → CounterOf → Read SignedVoteOf → CounterOf
put_read z c (value v d) = (add_committed z c v).counter
put_read z c (refuse n) = c

-- the vote of an entry of this batch, where it stands; another entry changes nothing
abbrev pub put_placed : Sizes → List ℕ → CounterOf → Option ℕ → CounterOf
put_placed z s c (Some place) = put_read z c (read_signed_vote z s place)
put_placed z s c None = c

unfoldable pub put_in : Sizes → List ℕ → CounterOf → Entry → CounterOf
put_in z s c e = put_placed z s c e.place
