-- 01, rows 2 and 3 of handles, of a part and of an ack, by their cause.
use Rattle.std.specs.Prelude.{ℕ, ◌<◌, List}
use Rattle.bincode.specs.Numbers.{bytes_of, fixed}
use Rattle.bincode.specs.Sizes.{Sizes}
use Rattle.bincode.specs.Stands.{All}
use Rattle.bincode.specs.Causes.{count_over, Wrong, Short, Number, Counted}
use Rattle.sync_key_gen.specs.SyncKeyGen.{Fits}

module _ (z : Sizes) (s : List ℕ) where
  -- rows or values: a count, which is not over its size, and as many handles
  abbrev pub handles_wrong : Wrong
  handles_wrong = Counted fixed Short s (bytes_of 8) (λ n. z.rows < n) count_over (All Fits) (λ before. Short s 8)

  -- a commitment and rows
  abbrev pub part_wrong : Wrong
  part_wrong = Number fixed Short s 8 λ commit. handles_wrong

  -- a proposer index and values
  abbrev pub ack_wrong : Wrong
  ack_wrong = Number fixed Short s 8 λ proposer. handles_wrong
