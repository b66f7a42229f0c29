-- Reading and writing a vote and a signed vote are inverse, for every size.
-- Assumes nothing.
use Prim.Native.Nat.{ℕ, ◌^◌, ◌<◌}
use mathlib.Core.Path.{refl}
use mathlib.Core.List.{List}
use Rattle.bincode.specs.Numbers.{fixed}
use Rattle.bincode.specs.Sizes.{Sizes}
use Rattle.bincode.specs.Codes.{Codes}
use Rattle.bincode.proofs.CodeLaws.{four, eight, fixed_codes, field, ended, restate}
use Rattle.change.proofs.ChangeCodes.{change_codes}
use Rattle.votes.specs.Votes.{read_vote, vote_bytes, VoteOk, read_signed_vote, signed_bytes, SignedVoteOk}

module _ (s : List ℕ) (z : Sizes) (fits : z.nodes < 256 ^ 8) where
  pub vote_codes : Codes s (read_vote z s) vote_bytes (VoteOk z)
  unfolding read_vote vote_bytes
  vote_codes =
      restate
      (λ v o. record { change_ok = o.1.0; era_fits = o.1.1.0; num_fits = o.1.1.1.0 })
      (λ v o. (tt, (o.change_ok, (o.era_fits, (o.num_fits, tt)))))
      (field {H = λ v. Unit {0}} (λ v. v.change) (change_codes fixed s (fixed_codes s) z fits) λ change.
      field (λ v. v.era) (fixed_codes s 8 eight) λ era.
      field (λ v. v.num) (fixed_codes s 8 eight) λ num.
      ended (record { change = change; era = era; num = num }) (((tt, refl), refl), refl)
      (λ v h. λ i. record { change = h.0.0.1 i; era = h.0.1 i; num = h.1 i }))

  pub signed_codes : Codes s (read_signed_vote z s) signed_bytes (SignedVoteOk z)
  unfolding read_signed_vote signed_bytes
  signed_codes =
      restate
      (λ x o. record { vote_ok = o.1.0; voter_fits = o.1.1.0; sig_fits = o.1.1.1.0 })
      (λ x o. (tt, (o.vote_ok, (o.voter_fits, (o.sig_fits, tt)))))
      (field {H = λ x. Unit {0}} (λ x. x.vote) vote_codes λ vote.
      field (λ x. x.voter) (fixed_codes s 4 four) λ voter.
      field (λ x. x.sig) (fixed_codes s 8 eight) λ sig.
      ended (record { vote = vote; voter = voter; sig = sig }) (((tt, refl), refl), refl)
      (λ x h. λ i. record { vote = h.0.0.1 i; voter = h.0.1 i; sig = h.1 i }))
