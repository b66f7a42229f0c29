use Rattle.bincode.specs.Sizes.{base}
use Rattle.internal_contrib.proofs.IndexLaws.{Indexing}
use Rattle.internal_contrib.proofs.index_batch.Given as goal

abbrev pub invariant-loop-place : goal.invariant-loop-place
invariant-loop-place l = Indexing base l.s l.count l.b l.messages l.place-items l.c l.place-index
