use mathlib.Core.Path.{refl, sym}
use Rattle.sync_key_gen.specs.SyncKeyGen.{part_of}
use Rattle.key_gen.proofs.KeyGen.handle_part.Goals as goal

pub returns : goal.returns
returns c = c.handle_part_counted-outcome.ensures (part_of c.args.part) refl (sym c.len.ensures.0)
