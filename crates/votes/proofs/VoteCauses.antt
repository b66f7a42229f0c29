-- What refuses a vote and a signed vote, for every size: the causes that `vote_wrong` and `signed_wrong` name, each with its number, and nothing else.
-- Assumes nothing.
use Prim.Native.Nat.{ℕ, ◌^◌, ◌<◌}
use mathlib.Core.List.{List}
use Rattle.bincode.specs.Numbers.{fixed}
use Rattle.bincode.specs.Sizes.{Sizes}
use Rattle.bincode.specs.Causes.{Short, Causes}
use Rattle.bincode.proofs.CodeLaws.{four, eight, fixed_codes}
use Rattle.bincode.proofs.CauseLaws.{field, last, fixed_causes}
use Rattle.change.proofs.ChangeCodes.{change_codes}
use Rattle.change.proofs.ChangeCauses.{change_causes}
use Rattle.votes.specs.Votes.{read_vote, read_signed_vote}
use Rattle.votes.specs.VoteCauses.{vote_wrong, signed_wrong}
use Rattle.votes.proofs.VoteCodes.{vote_codes}

module _ (s : List ℕ) (z : Sizes) (fits : z.nodes < 256 ^ 8) where
  pub vote_causes : Causes s (read_vote z s) (vote_wrong z s)
  unfolding read_vote
  vote_causes =
      field (change_codes fixed s (fixed_codes s) z fits) (change_causes fixed Short s (fixed_codes s) (fixed_causes s) z) λ change.
      field (fixed_codes s 8 eight) (fixed_causes s 8 eight) λ era.
      last (λ num. record { change = change; era = era; num = num }) (fixed_causes s 8 eight)

  pub signed_causes : Causes s (read_signed_vote z s) (signed_wrong z s)
  unfolding read_signed_vote
  signed_causes =
      field (vote_codes s z fits) vote_causes λ vote.
      field (fixed_codes s 4 four) (fixed_causes s 4 four) λ voter.
      last (λ sig. record { vote = vote; voter = voter; sig = sig }) (fixed_causes s 8 eight)
