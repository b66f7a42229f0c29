-- What the counter's answers say.
use Rattle.std.specs.Prelude.{ℕ, ◌≡◌, List, get_or, Err}
use Rattle.bincode.specs.Answer.{outcome_as_said}
use Rattle.bincode.specs.declared.Refusal.{Refusal}
use Rattle.change.specs.Change.{ChangeOf}
use Rattle.votes.specs.Votes.{SignedVoteOf, signed_of, no_signed}
use Rattle.signed_votes.specs.SignedVotes.{votes_of}
use Rattle.voters.specs.Voters.{ids_of}
use Rattle.vote_counter.specs.VoteCounter.{VoteEffect, stored, nothing_new, fault, Added, CommittedOf, Signed, CarriedOf, counter_of}
use Rattle.vote_counter.specs.declared.VoteCounter.{VoteCounter}
use Rattle.vote_counter.specs.declared.VoteOutcome.{VoteOutcome}
use Rattle.vote_counter.specs.declared.VoteOutcome.TheVariants as vote
use Rattle.vote_counter.specs.declared.VoteAdded.{VoteAdded}
use Rattle.vote_counter.specs.declared.VoteCommitted.{VoteCommitted}
use Rattle.vote_counter.specs.declared.VoteSigned.{VoteSigned}
use Rattle.vote_counter.specs.declared.Winner.{Winner}

abbrev pub said_outcome : VoteOutcome → VoteEffect
said_outcome vote.Stored = stored
said_outcome vote.Nothing = nothing_new
said_outcome (vote.Faulty k) = fault k

abbrev pub added_of : VoteAdded → Added
added_of r = record { counter = counter_of r.counter; effect = said_outcome r.outcome }

-- what a vote left of the committed votes
abbrev pub committed_of : VoteCommitted → CommittedOf
committed_of r = record { votes = votes_of r.votes; taken = r.taken; effect = said_outcome r.outcome }

abbrev pub signed_answer : VoteSigned → Signed
signed_answer r = record { counter = counter_of r.counter; answer = outcome_as_said signed_of r.outcome }

-- a refusal hands back the very counter that was given
abbrev pub SignRefusedKeeps : VoteSigned → VoteCounter → Type 0
SignRefusedKeeps r c = (k : Refusal) → r.outcome ≡ Err k → r.counter ≡ c

-- the change that the vote at a place is for
abbrev pub choice_at : List SignedVoteOf → ℕ → ChangeOf
choice_at vs i = (get_or vs i no_signed).vote.change

-- the winner as code tells it, beside the votes among which its place is
abbrev pub carried_of : List SignedVoteOf → Winner → CarriedOf
carried_of vs w = record { change = choice_at vs w.place; voters = ids_of w.voters }
