-- 01, rows 2 and 3 of a key-generation message, and of a signed one, by their cause.
use Rattle.std.specs.Prelude.{ℕ, List}
use Rattle.bincode.specs.Numbers.{fixed}
use Rattle.bincode.specs.Sizes.{Sizes}
use Rattle.bincode.specs.Causes.{Wrong, Unknown, Short, Case, Field, Number}
use Rattle.sync_key_gen.specs.KeyGenCauses.{part_wrong, ack_wrong}
use Rattle.key_gen_message.specs.KeyGenMessage.{message_bytes, MessageOk}

module _ (z : Sizes) (s : List ℕ) where
  -- tag 0 and a part, tag 1 and an ack
  abbrev pub message_wrong : Wrong
  message_wrong =
      Number fixed Short s 4 λ tag.
      Case tag 0 (part_wrong z s)
      (Case tag 1 (ack_wrong z s)
      Unknown)

  -- era, signer, message, signature
  abbrev pub signed_wrong : Wrong
  signed_wrong =
      Number fixed Short s 8 λ era.
      Number fixed Short s 4 λ id.
      Field s message_bytes (MessageOk z) message_wrong λ message.
      Short s 8
