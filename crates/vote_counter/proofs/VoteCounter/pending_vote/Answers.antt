use Rattle.std.proofs.Common.{rules, tests}
use mathlib.Core.Path.{◌≡◌, ap, ◌∙◌}
use mathlib.Core.Bool.{not}
use Rattle.std.specs.Prelude.{slice_get, filter}
use Rattle.std.proofs.lemmas.Iterator.{YieldsList-from_slice}
use Rattle.std.proofs.lemmas.Iterator.Consumers.{YieldsList-from_filter, nth_from_yields_List}
use Rattle.lists.specs.Lists.{option_as_found}
use Rattle.votes.specs.declared.SignedVote.{SignedVote}
use Rattle.votes.specs.Votes.{signed_of}
use Rattle.signed_votes.specs.SignedVotes.{held, votes_of}
use Rattle.vote_counter.specs.VoteCounter.{obsolete, pending_votes}
use Rattle.vote_counter.proofs.PendingTurns.{newer_at}
use Rattle.vote_counter.proofs.VoteCounter.pending_vote.Goals as goal

pub returns : goal.returns
unfolding pending_votes
returns c =
    let a = c.args.self in
    let xs = held a.pending in
    let e : c.copied.result ≡ slice_get (filter (λ (x : SignedVote). not (obsolete (votes_of a.committed) (signed_of x))) xs) c.args.place
    = c.copied.ensures ∙ nth_from_yields_List _ _ _ c.nth.ensures.ran (YieldsList-from_filter _ _ (YieldsList-from_slice xs cc) c.filter.ensures.closure (λ x b q k. search (rules, tests))) in
    ap (option_as_found signed_of) e ∙ newer_at (votes_of a.committed) xs c.args.place
