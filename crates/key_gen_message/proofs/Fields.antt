-- What tells of a reading by its fields: what was read of each, and that a number that was refused was refused by 2.
-- Assumes nothing.
use Rattle.bincode.proofs.NumberLaws.{read_refused}
use Rattle.bincode.proofs.ReadLaws.{answer_ok}

pub ruleset read = (answer_ok, read_refused)
