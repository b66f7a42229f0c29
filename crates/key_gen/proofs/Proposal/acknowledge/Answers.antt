use Rattle.std.proofs.Common.{rules}
use Rattle.key_gen.proofs.KeyGenLaws.{acked_good, acked_other}
use Rattle.key_gen.proofs.Proposal.acknowledge.Goals as goal

pub returns-then-good : goal.returns-then-good
returns-then-good c i = rw c.if-good.true (acked_good c.args.self i c.args.j (search rules) (search rules))

pub returns-else-good : goal.returns-else-good
returns-else-good c i = rw c.if-good.false (acked_other c.args.self i c.args.j (search rules))
