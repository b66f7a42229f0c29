-- A message of the protocol: as code holds it, as it is read and written.
use Rattle.std.specs.Prelude.{ℕ, ◌^◌, ◌<◌, List, [], ◌∷◌, cond, eqb}
use Rattle.bincode.specs.Read.{Read, value, refuse, bind}
use Rattle.bincode.specs.Numbers.{read_num, bytes_of}
use Rattle.bincode.specs.Sizes.{Sizes}
use Rattle.bincode.specs.Stands.{concat}
use Rattle.votes.specs.declared.SignedVote as votes
use Rattle.votes.specs.Votes.{SignedVoteOf, signed_of, signed_held, read_signed_vote, signed_bytes, SignedVoteOk}
use Rattle.key_gen_message.specs.declared.KeyGenMessage.{KeyGenMessage}
use Rattle.key_gen_message.specs.KeyGenMessage.{KeyGenMessageOf, message_of, message_held, read_key_gen_message, message_bytes, MessageOk}
use Rattle.message.specs.declared.Message.{Message}
use Rattle.message.specs.declared.Message.TheVariants.{KeyGen, SignedVote}

-- era, message and signature; or a signed vote
pub data MessageContent : Type 0 where
  key_gen : ℕ → KeyGenMessageOf → ℕ → MessageContent
  signed_vote : SignedVoteOf → MessageContent

-- what any value of the enum stands for
abbrev pub content_of : Message → MessageContent
content_of (KeyGen era m sig) = key_gen era (message_of m) sig
content_of (SignedVote v) = signed_vote (signed_of v)

-- the value that holds a message
abbrev pub key_gen_held : ℕ → KeyGenMessage → ℕ → Message
key_gen_held era m sig = KeyGen era m sig

abbrev pub vote_held : votes.SignedVote → Message
vote_held v = SignedVote v

abbrev pub content_held : MessageContent → Message
content_held (key_gen era m sig) = key_gen_held era (message_held m) sig
content_held (signed_vote v) = vote_held (signed_held v)

unfoldable pub read_key_gen : Sizes → List ℕ → ℕ → Read MessageContent
read_key_gen z s at =
    bind (read_num 8 s at) λ era c.
    bind (read_key_gen_message z s c) λ message d.
    bind (read_num 8 s d) λ sig f.
    value (key_gen era message sig) f

unfoldable pub read_vote : Sizes → List ℕ → ℕ → Read MessageContent
read_vote z s at = bind (read_signed_vote z s at) λ vote c. value (signed_vote vote) c

-- tags in order of declaration: 0 is `HoneyBadger`, unknown here like any other
unfoldable pub read_message : Sizes → List ℕ → ℕ → Read MessageContent
read_message z s at =
    bind (read_num 4 s at) λ tag c.
    cond (eqb tag 1) (read_key_gen z s c)
    (cond (eqb tag 2) (read_vote z s c)
    (refuse 2))

unfoldable pub content_bytes : MessageContent → List ℕ
content_bytes (key_gen era message sig) = concat (bytes_of 4 1 ∷ bytes_of 8 era ∷ message_bytes message ∷ bytes_of 8 sig ∷ [])
content_bytes (signed_vote vote) = concat (bytes_of 4 2 ∷ signed_bytes vote ∷ [])

-- the messages that some bytes are read as
abbrev pub ContentOk : Sizes → MessageContent → Type 0
ContentOk z (key_gen era message sig) = (era < 256 ^ 8) × MessageOk z message × (sig < 256 ^ 8)
ContentOk z (signed_vote vote) = SignedVoteOk z vote
