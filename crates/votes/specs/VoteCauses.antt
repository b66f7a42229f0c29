-- 01, rows 2 and 3 of a vote and of a signed vote, by their cause.
use Rattle.std.specs.Prelude.{ℕ, List}
use Rattle.bincode.specs.Numbers.{fixed}
use Rattle.bincode.specs.Sizes.{Sizes}
use Rattle.bincode.specs.Causes.{Wrong, Short, Field, Number}
use Rattle.change.specs.Change.{change_bytes, ChangeOk}
use Rattle.change.specs.ChangeCauses.{change_wrong}
use Rattle.votes.specs.Votes.{vote_bytes, VoteOk}

module _ (z : Sizes) (s : List ℕ) where
  -- change, era, number
  abbrev pub vote_wrong : Wrong
  vote_wrong =
      Field s (change_bytes fixed) (ChangeOk z) (change_wrong fixed Short s z) λ change.
      Number fixed Short s 8 λ era.
      Short s 8

  -- vote, voter, signature
  abbrev pub signed_wrong : Wrong
  signed_wrong =
      Field s vote_bytes (VoteOk z) vote_wrong λ vote.
      Number fixed Short s 4 λ voter.
      Short s 8
