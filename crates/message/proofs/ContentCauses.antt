-- What refuses a message, for every size: the causes that `content_wrong` names, each with its number, and nothing else.
-- Assumes nothing.
use Prim.Native.Nat.{ℕ, ◌^◌, ◌<◌}
use mathlib.Core.Path.{refl}
use mathlib.Core.List.{List}
use Rattle.bincode.specs.Sizes.{Sizes}
use Rattle.bincode.specs.Causes.{Causes}
use Rattle.bincode.proofs.CodeLaws.{four, eight, fixed_codes}
use Rattle.bincode.proofs.CauseLaws.{field, last, cases, unknown, fixed_causes}
use Rattle.votes.proofs.VoteCauses.{signed_causes}
use Rattle.key_gen_message.proofs.MessageCodes.{message_codes}
use Rattle.key_gen_message.proofs.MessageCauses.{message_causes}
use Rattle.message.specs.Message.{key_gen, signed_vote, read_key_gen, read_vote, read_message}
use Rattle.message.specs.ContentCauses.{key_gen_wrong, content_wrong}

module _ (s : List ℕ) (z : Sizes) (rows_fit : z.rows < 256 ^ 8) where
  pub key_gen_causes : Causes s (read_key_gen z s) (key_gen_wrong z s)
  unfolding read_key_gen
  key_gen_causes =
      field (fixed_codes s 8 eight) (fixed_causes s 8 eight) λ era.
      field (message_codes s z rows_fit) (message_causes s z) λ message.
      last (key_gen era message) (fixed_causes s 8 eight)

  pub content_causes : z.nodes < 256 ^ 8 → Causes s (read_message z s) (content_wrong z s)
  unfolding read_message read_vote
  content_causes nodes-fit =
      field (fixed_codes s 4 four) (fixed_causes s 4 four) λ tag.
      cases tag 1 key_gen_causes
      (cases tag 2 (last signed_vote (signed_causes s z nodes-fit))
      (unknown 2 refl))
