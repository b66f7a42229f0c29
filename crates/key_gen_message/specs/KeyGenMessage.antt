-- A key-generation message, and one signed: as code holds them, equality, bytes.
use Rattle.std.specs.Prelude.{ℕ, ◌^◌, ◌<◌, List, [], ◌∷◌, Bool, false, cond, ◌&&◌, eqb}
use Rattle.bincode.specs.Read.{Read, value, refuse, bind}
use Rattle.bincode.specs.Numbers.{read_num, bytes_of}
use Rattle.bincode.specs.Sizes.{Sizes}
use Rattle.bincode.specs.Stands.{concat}
use Rattle.sync_key_gen.specs.SyncKeyGen.{PartOf, AckOf, part_of, ack_of, part_held, ack_held, same_handles, handles_bytes, read_part, read_ack, no_part, PartOk, AckOk}
use Rattle.key_gen_message.specs.declared.KeyGenMessage.{KeyGenMessage}
use Rattle.key_gen_message.specs.declared.KeyGenMessage.TheVariants.{Part, Ack}
use Rattle.key_gen_message.specs.declared.SignedKeyGenMsg.{SignedKeyGenMsg}

pub data KeyGenMessageOf : Type 0 where
  part : PartOf → KeyGenMessageOf
  ack : AckOf → KeyGenMessageOf

pub record SignedKeyGenMsgOf : Type 0 where
  pub era : ℕ
  pub id : ℕ
  pub message : KeyGenMessageOf
  pub sig : ℕ

-- as code holds them
abbrev pub message_of : KeyGenMessage → KeyGenMessageOf
message_of (Part p) = part (part_of p)
message_of (Ack a) = ack (ack_of a)

abbrev pub message_held : KeyGenMessageOf → KeyGenMessage
message_held (part p) = Part (part_held p)
message_held (ack a) = Ack (ack_held a)

abbrev pub signed_of : SignedKeyGenMsg → SignedKeyGenMsgOf
signed_of x = record { era = x.era; id = x.id; message = message_of x.message; sig = x.sig }

abbrev pub signed_held : SignedKeyGenMsgOf → SignedKeyGenMsg
signed_held x = record { era = x.era; id = x.id; message = message_held x.message; sig = x.sig }

-- what stands where no message is held
abbrev pub no_message : KeyGenMessageOf
no_message = part no_part

abbrev pub no_signed : SignedKeyGenMsgOf
no_signed = record { era = 0; id = 0; message = no_message; sig = 0 }

-- equality: the same case with an equal number and equal handles
unfoldable pub same_headed : ℕ → List ℕ → ℕ → List ℕ → Bool
same_headed x xs y ys = eqb x y && same_handles xs ys

unfoldable pub same_message : KeyGenMessageOf → KeyGenMessageOf → Bool
same_message (part p) (part q) = same_headed p.commit p.rows q.commit q.rows
same_message (part p) (ack b) = false
same_message (ack a) (part q) = false
same_message (ack a) (ack b) = same_headed a.proposer a.values b.proposer b.values

unfoldable pub same_signed : SignedKeyGenMsgOf → SignedKeyGenMsgOf → Bool
same_signed x y = eqb x.era y.era && (eqb x.id y.id && (eqb x.sig y.sig && same_message x.message y.message))

-- u32 tags from 0 in order of declaration; 2 for an unknown tag
unfoldable pub read_key_gen_message : Sizes → List ℕ → ℕ → Read KeyGenMessageOf
read_key_gen_message z s at =
    bind (read_num 4 s at) λ tag c.
    cond (eqb tag 0) (bind (read_part z s c) λ p d. value (part p) d)
    (cond (eqb tag 1) (bind (read_ack z s c) λ a d. value (ack a) d)
    (refuse 2))

-- a tag, a number and handles, as a part and an ack both are
unfoldable pub tagged_bytes : ℕ → ℕ → List ℕ → List ℕ
tagged_bytes tag head xs = concat (bytes_of 4 tag ∷ bytes_of 8 head ∷ handles_bytes xs ∷ [])

unfoldable pub message_bytes : KeyGenMessageOf → List ℕ
message_bytes (part p) = tagged_bytes 0 p.commit p.rows
message_bytes (ack a) = tagged_bytes 1 a.proposer a.values

-- era, signer, message, signature
unfoldable pub read_signed_key_gen_msg : Sizes → List ℕ → ℕ → Read SignedKeyGenMsgOf
read_signed_key_gen_msg z s at =
    bind (read_num 8 s at) λ era a.
    bind (read_num 4 s a) λ id b.
    bind (read_key_gen_message z s b) λ message c.
    bind (read_num 8 s c) λ sig d.
    value (record { era = era; id = id; message = message; sig = sig }) d

unfoldable pub signed_bytes : SignedKeyGenMsgOf → List ℕ
signed_bytes x = concat (bytes_of 8 x.era ∷ bytes_of 4 x.id ∷ message_bytes x.message ∷ bytes_of 8 x.sig ∷ [])

-- the values that some bytes are read as
abbrev pub MessageOk : Sizes → KeyGenMessageOf → Type 0
MessageOk z (part p) = PartOk z p
MessageOk z (ack a) = AckOk z a

pub record SignedOk (z : Sizes) (x : SignedKeyGenMsgOf) : Type 0 where
  pub era_fits : x.era < 256 ^ 8
  pub id_fits : x.id < 256 ^ 4
  pub message_ok : MessageOk z x.message
  pub sig_fits : x.sig < 256 ^ 8
