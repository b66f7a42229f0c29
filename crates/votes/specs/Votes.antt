-- A vote, and a signed vote: as code holds them, as they are read and written.
use Rattle.std.specs.Prelude.{ℕ, ◌^◌, ◌<◌, List, [], ◌∷◌}
use Rattle.bincode.specs.Read.{Read, value, bind}
use Rattle.bincode.specs.Numbers.{read_num, bytes_of, fixed}
use Rattle.bincode.specs.Sizes.{Sizes}
use Rattle.bincode.specs.Stands.{concat}
use Rattle.change.specs.Change.{ChangeOf, node_change, change_of, change_held, read_change, change_bytes, ChangeOk}
use Rattle.votes.specs.declared.Vote.{Vote}
use Rattle.votes.specs.declared.SignedVote.{SignedVote}

pub record VoteOf : Type 0 where
  pub change : ChangeOf
  pub era : ℕ
  pub num : ℕ

pub record SignedVoteOf : Type 0 where
  pub vote : VoteOf
  pub voter : ℕ
  pub sig : ℕ

-- change, era, number
unfoldable pub read_vote : Sizes → List ℕ → ℕ → Read VoteOf
read_vote z s at =
    bind (read_change fixed z s at) λ change a.
    bind (read_num 8 s a) λ era b.
    bind (read_num 8 s b) λ num c.
    value (record { change = change; era = era; num = num }) c

unfoldable pub vote_bytes : VoteOf → List ℕ
vote_bytes v = concat (change_bytes fixed v.change ∷ bytes_of 8 v.era ∷ bytes_of 8 v.num ∷ [])

-- vote, voter, signature
unfoldable pub read_signed_vote : Sizes → List ℕ → ℕ → Read SignedVoteOf
read_signed_vote z s at =
    bind (read_vote z s at) λ vote a.
    bind (read_num 4 s a) λ voter b.
    bind (read_num 8 s b) λ sig c.
    value (record { vote = vote; voter = voter; sig = sig }) c

unfoldable pub signed_bytes : SignedVoteOf → List ℕ
signed_bytes x = concat (vote_bytes x.vote ∷ bytes_of 4 x.voter ∷ bytes_of 8 x.sig ∷ [])

-- the values that some bytes are read as
pub record VoteOk (z : Sizes) (v : VoteOf) : Type 0 where
  pub change_ok : ChangeOk z v.change
  pub era_fits : v.era < 256 ^ 8
  pub num_fits : v.num < 256 ^ 8

pub record SignedVoteOk (z : Sizes) (x : SignedVoteOf) : Type 0 where
  pub vote_ok : VoteOk z x.vote
  pub voter_fits : x.voter < 256 ^ 4
  pub sig_fits : x.sig < 256 ^ 8

-- as code holds them
abbrev pub vote_of : Vote → VoteOf
vote_of v = record { change = change_of v.change; era = v.era; num = v.num }

abbrev pub vote_held : VoteOf → Vote
vote_held v = record { change = change_held v.change; era = v.era; num = v.num }

abbrev pub signed_of : SignedVote → SignedVoteOf
signed_of x = record { vote = vote_of x.vote; voter = x.voter; sig = x.sig }

abbrev pub signed_held : SignedVoteOf → SignedVote
signed_held x = record { vote = vote_held x.vote; voter = x.voter; sig = x.sig }

-- what a list of signed votes goes by
abbrev pub voter_in : SignedVote → ℕ
voter_in x = x.voter

-- what stands where no vote is held
abbrev pub no_vote : VoteOf
no_vote = record { change = node_change []; era = 0; num = 0 }

abbrev pub no_signed : SignedVoteOf
no_signed = record { vote = no_vote; voter = 0; sig = 0 }
