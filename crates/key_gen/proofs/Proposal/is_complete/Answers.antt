use Rattle.key_gen.proofs.KeyGenLaws.{complete_held}
use Rattle.key_gen.proofs.Proposal.is_complete.Goals as goal

pub returns : goal.returns
returns c i = complete_held c.args.threshold c.args.self i _ _ c.saturating_mul.ensures c.count_marked.ensures.0 c.count_marked.ensures.1
