-- Reading and writing handles, parts and acks are inverse, for every size.
-- Assumes nothing.
use Prim.Native.Nat.{ℕ, ◌^◌, ◌<◌}
use mathlib.Core.Path.{refl}
use mathlib.Core.List.{List}
use Rattle.bincode.specs.Numbers.{read_num, bytes_of, fixed}
use Rattle.bincode.specs.Sizes.{Sizes}
use Rattle.bincode.specs.Codes.{Codes}
use Rattle.bincode.proofs.CodeLaws.{eight, fixed_codes, field, ended, restate, plain_codes}
use Rattle.sync_key_gen.specs.SyncKeyGen.{read_handles, handles_bytes, read_part, part_bytes, read_ack, ack_bytes, Fits, HandlesOk, PartOk, AckOk}

module _ (s : List ℕ) (z : Sizes) (fits : z.rows < 256 ^ 8) where
  pub handles_codes : Codes s (read_handles z s) handles_bytes (HandlesOk z)
  unfolding read_handles handles_bytes
  handles_codes =
      restate (λ xs o. record { few = o.0; each = o.1 }) (λ xs o. (o.few, o.each))
      (plain_codes s (read_num 8 s) (bytes_of 8) Fits (fixed_codes s 8 eight) fixed (fixed_codes s) z.rows fits)

  pub part_codes : Codes s (read_part z s) part_bytes (PartOk z)
  unfolding read_part part_bytes
  part_codes =
      restate (λ p o. record { commit_fits = o.1.0; rows_ok = o.1.1.0 }) (λ p o. (tt, (o.commit_fits, (o.rows_ok, tt))))
      (field {H = λ p. Unit {0}} (λ p. p.commit) (fixed_codes s 8 eight) λ commit.
      field (λ p. p.rows) handles_codes λ rows.
      ended (record { commit = commit; rows = rows }) ((tt, refl), refl) (λ p h. λ i. record { commit = h.0.1 i; rows = h.1 i }))

  pub ack_codes : Codes s (read_ack z s) ack_bytes (AckOk z)
  unfolding read_ack ack_bytes
  ack_codes =
      restate (λ a o. record { proposer_fits = o.1.0; values_ok = o.1.1.0 }) (λ a o. (tt, (o.proposer_fits, (o.values_ok, tt))))
      (field {H = λ a. Unit {0}} (λ a. a.proposer) (fixed_codes s 8 eight) λ proposer.
      field (λ a. a.values) handles_codes λ values.
      ended (record { proposer = proposer; values = values }) ((tt, refl), refl) (λ a h. λ i. record { proposer = h.0.1 i; values = h.1 i }))
