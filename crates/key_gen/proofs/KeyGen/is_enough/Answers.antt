use Rattle.key_gen.specs.KeyGen.{enough}
use Rattle.key_gen.proofs.KeyGen.is_enough.Goals as goal

pub returns : goal.returns
unfolding enough
returns c = rw (c.num_faulty.ensures, c.count_complete.ensures.0)
