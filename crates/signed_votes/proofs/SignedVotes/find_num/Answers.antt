use mathlib.Core.Path.{ap, ◌∙◌}
use Rattle.lists.specs.Lists.{map_found}
use Rattle.votes.specs.declared.SignedVote.{SignedVote}
use Rattle.signed_votes.proofs.VotesLaws.{held_num}
use Rattle.signed_votes.proofs.SignedVotes.find_num.Goals as goal

pub returns : goal.returns
returns c = ap (map_found (λ (x : SignedVote). x.vote.num)) c.in_ok-x.ensures ∙ held_num c.args.self.now c.args.voter
