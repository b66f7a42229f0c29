-- The law of votes: what a struct holds.
-- Assumes nothing.
use mathlib.Core.Path.{◌≡◌}
use Rattle.change.proofs.ChangeLaws.{held_change}
use Rattle.votes.specs.Votes.{SignedVoteOf, signed_of, signed_held}

-- a struct that holds what was read stands for it
pub held_vote : (v : SignedVoteOf) → signed_of (signed_held v) ≡ v
held_vote v =
    let change = held_change v.vote.change in
    λ i. record { vote = record { change = change i; era = v.vote.era; num = v.vote.num }; voter = v.voter; sig = v.sig }
