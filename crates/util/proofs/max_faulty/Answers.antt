use Rattle.util.specs.MaxFaulty.{max_faulty}
use Rattle.util.proofs.max_faulty.Goals as goal

pub returns : goal.returns
unfolding max_faulty
returns c = rw c.saturating_sub.ensures
