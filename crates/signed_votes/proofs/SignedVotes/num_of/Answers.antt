use Rattle.signed_votes.proofs.SignedVotes.num_of.Goals as goal

pub returns : goal.returns
returns c = c.find_num.ensures
