-- What refuses a key-generation message and a signed one, for every size: the causes that `message_wrong` and `signed_wrong` name, each with its number, and nothing else.
-- Assumes nothing.
use Prim.Native.Nat.{ℕ, ◌^◌, ◌<◌}
use mathlib.Core.Path.{refl}
use mathlib.Core.List.{List}
use Rattle.bincode.specs.Sizes.{Sizes}
use Rattle.bincode.specs.Causes.{Causes}
use Rattle.bincode.proofs.CodeLaws.{four, eight, fixed_codes}
use Rattle.bincode.proofs.CauseLaws.{field, last, cases, unknown, fixed_causes}
use Rattle.sync_key_gen.proofs.KeyGenCauses.{part_causes, ack_causes}
use Rattle.key_gen_message.specs.KeyGenMessage.{part, ack, read_key_gen_message, read_signed_key_gen_msg}
use Rattle.key_gen_message.specs.MessageCauses.{message_wrong, signed_wrong}
use Rattle.key_gen_message.proofs.MessageCodes.{message_codes}

module _ (s : List ℕ) (z : Sizes) where
  pub message_causes : Causes s (read_key_gen_message z s) (message_wrong z s)
  unfolding read_key_gen_message
  message_causes =
      field (fixed_codes s 4 four) (fixed_causes s 4 four) λ tag.
      cases tag 0 (last part (part_causes s z))
      (cases tag 1 (last ack (ack_causes s z))
      (unknown 2 refl))

  pub signed_causes : z.rows < 256 ^ 8 → Causes s (read_signed_key_gen_msg z s) (signed_wrong z s)
  unfolding read_signed_key_gen_msg
  signed_causes fits =
      field (fixed_codes s 8 eight) (fixed_causes s 8 eight) λ era.
      field (fixed_codes s 4 four) (fixed_causes s 4 four) λ id.
      field (message_codes s z fits) message_causes λ message.
      last (λ sig. record { era = era; id = id; message = message; sig = sig }) (fixed_causes s 8 eight)
