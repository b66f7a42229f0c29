-- 01, rows 2 and 3 of a message, by their cause.
use Rattle.std.specs.Prelude.{ℕ, List}
use Rattle.bincode.specs.Numbers.{fixed}
use Rattle.bincode.specs.Sizes.{Sizes}
use Rattle.bincode.specs.Causes.{Wrong, Unknown, Short, Case, Field, Number}
use Rattle.votes.specs.VoteCauses.{signed_wrong}
use Rattle.key_gen_message.specs.KeyGenMessage.{message_bytes, MessageOk}
use Rattle.key_gen_message.specs.MessageCauses.{message_wrong}

module _ (z : Sizes) (s : List ℕ) where
  -- era, message, signature
  abbrev pub key_gen_wrong : Wrong
  key_gen_wrong =
      Number fixed Short s 8 λ era.
      Field s message_bytes (MessageOk z) (message_wrong z s) λ message.
      Short s 8

  -- tag 1 and these, tag 2 and a signed vote; tag 0 is `HoneyBadger`, unknown here
  abbrev pub content_wrong : Wrong
  content_wrong =
      Number fixed Short s 4 λ tag.
      Case tag 1 key_gen_wrong
      (Case tag 2 (signed_wrong z s)
      Unknown)
