use Rattle.std.proofs.Common.{rules}
use Rattle.key_gen.proofs.KeyGenLaws.{ready_held}
use Rattle.key_gen.proofs.KeyGen.is_node_ready.Goals as goal

pub returns : goal.returns
returns c = ready_held c.args.self _ _ _ _ c.node_index.ensures c.num_faulty-t.ensures (λ e. search rules) (λ i e. search rules)
