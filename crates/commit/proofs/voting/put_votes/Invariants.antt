use mathlib.Core.Path.{◌≡◌}
use lib.ListN.{drop}
use Rattle.bincode.specs.Items.{foldl}
use Rattle.bincode.specs.Sizes.{base}
use Rattle.signed_votes.specs.SignedVotes.{votes_of}
use Rattle.vote_counter.specs.VoteCounter.{counter_of}
use Rattle.vote_counter.proofs.OnceLaws.{after}
use Rattle.commit.specs.Tally.{entries_of}
use Rattle.commit.specs.Put.{put_in}
use Rattle.commit.proofs.voting.put_votes.Given as goal

abbrev pub invariant-loop-e : goal.invariant-loop-e
invariant-loop-e l =
    let a = l.fn in
    foldl (put_in base a.s) (counter_of a.counter) (entries_of a.t) ≡ foldl (put_in base a.s) (after base (counter_of a.counter) (votes_of l.votes) l.taken) (drop l.e-index l.e-items)
