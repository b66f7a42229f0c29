use Rattle.std.proofs.Common.{rules, tests}
use mathlib.Core.Path.{◌∙◌}
use Rattle.std.proofs.lemmas.Iterator.{YieldsList-from_slice}
use Rattle.std.proofs.lemmas.Iterator.Search.{any_from_yields_List}
use Rattle.signed_votes.specs.SignedVotes.{held}
use Rattle.vote_counter.specs.VoteCounter.{counter_of, pending_votes}
use Rattle.dynamic_honey_badger.proofs.AskedLaws.{own_waits, own_among}
use Rattle.dynamic_honey_badger.proofs.DynamicHoneyBadger.has_own_vote.Goals as goal

pub returns : goal.returns
unfolding pending_votes
returns c =
    let x = c.args.self.vote_counter in
    let o = c.find_num-committed.result in
    any_from_yields_List (own_waits x.our_id o) _ _ _ c.any.ensures.ran (YieldsList-from_slice (held x.pending) cc) (λ v b q h. search (rules, tests))
    ∙ own_among x.our_id (counter_of x) o c.find_num-committed.ensures (held x.pending)
