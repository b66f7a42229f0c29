-- What refuses handles, a part and an ack, for every size: the causes that `handles_wrong`, `part_wrong` and `ack_wrong` name, each with its number, and nothing else.
-- Assumes nothing.
use Prim.Native.Nat.{ℕ, ◌<◌}
use mathlib.Core.Path.{refl}
use mathlib.Core.List.{List}
use Rattle.bincode.specs.Numbers.{read_num, bytes_of, fixed}
use Rattle.bincode.specs.Sizes.{Sizes}
use Rattle.bincode.specs.Causes.{count_over, Short, Causes}
use Rattle.bincode.proofs.CodeLaws.{eight, fixed_codes}
use Rattle.bincode.proofs.CauseLaws.{field, last, fixed_causes}
use Rattle.bincode.proofs.RunCauses.{plain_causes}
use Rattle.sync_key_gen.specs.SyncKeyGen.{read_handles, read_part, read_ack, Fits}
use Rattle.sync_key_gen.specs.KeyGenCauses.{handles_wrong, part_wrong, ack_wrong}

module _ (s : List ℕ) (z : Sizes) where
  pub handles_causes : Causes s (read_handles z s) (handles_wrong z s)
  unfolding read_handles
  handles_causes =
      plain_causes s (read_num 8 s) (bytes_of 8) Fits (fixed_codes s 8 eight) (Short s 8) (fixed_causes s 8 eight)
      fixed Short (fixed_codes s) (fixed_causes s) z.rows (λ n. z.rows < n) (λ n. (λ l. l, λ l. l)) count_over refl

  pub part_causes : Causes s (read_part z s) (part_wrong z s)
  unfolding read_part
  part_causes = field (fixed_codes s 8 eight) (fixed_causes s 8 eight) λ commit. last (λ rows. record { commit = commit; rows = rows }) handles_causes

  pub ack_causes : Causes s (read_ack z s) (ack_wrong z s)
  unfolding read_ack
  ack_causes =
      field (fixed_codes s 8 eight) (fixed_causes s 8 eight) λ proposer.
      last (λ values. record { proposer = proposer; values = values }) handles_causes
