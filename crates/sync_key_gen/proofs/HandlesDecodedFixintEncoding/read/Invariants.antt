use Prim.Native.Nat.{ℕ, ◌-◌}
use mathlib.Core.Path.{◌≡◌}
use mathlib.Core.List.{List}
use lib.ListN.{length}
use Rattle.lists.specs.Lists.{padded}
use Rattle.bincode.specs.Numbers.{read_num}
use Rattle.bincode.specs.Sizes.{base}
use Rattle.bincode.specs.Items.{after, many}
use Rattle.sync_key_gen.specs.SyncKeyGen.{read_handles}
use Rattle.sync_key_gen.proofs.HandlesDecodedFixintEncoding.read.Given as goal

abbrev pub invariant-loop-value : goal.invariant-loop-value
invariant-loop-value l =
    (done : List ℕ) × (l.value-index ≡ length done) × (l.value-items ≡ padded l.count 0 done)
    × (read_handles base l.s l.at ≡ after done (many (read_num 8 l.s) (l.count - l.value-index) l.c))
