use mathlib.Core.Path.{refl, sym}
use Rattle.sync_key_gen.specs.SyncKeyGen.{ack_of}
use Rattle.key_gen.proofs.KeyGen.handle_ack.Goals as goal

pub returns : goal.returns
returns c = c.handle_ack_counted-outcome.ensures (ack_of c.args.ack) refl (sym c.len.ensures.0)
