use mathlib.Core.Path.{ap, ◌∙◌}
use mathlib.Core.List.{map}
use Rattle.lists.proofs.SortedLaws.{map_insert_within}
use Rattle.bincode.specs.Sizes.{base}
use Rattle.votes.specs.Votes.{signed_of}
use Rattle.signed_votes.specs.SignedVotes.{held, voter_of}
use Rattle.signed_votes.proofs.SignedVotes.put.Goals as goal

pub returns : goal.returns
returns c = ap (map signed_of) c.insert.ensures ∙ map_insert_within signed_of voter_of base.nodes c.args.x (held c.args.self)
