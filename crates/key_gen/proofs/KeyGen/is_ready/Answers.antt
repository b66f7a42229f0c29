use mathlib.Core.Path.{sym, ◌∙◌}
use Rattle.key_gen.specs.KeyGen.{ready}
use Rattle.key_gen.proofs.KeyGen.is_ready.Goals as goal

pub returns-then-is_enough : goal.returns-then-is_enough
unfolding ready
returns-then-is_enough c = rw (sym c.is_enough.ensures ∙ c.if-is_enough.true, c.len.ensures.0, c.count_complete.ensures.0)

pub returns-else-is_enough : goal.returns-else-is_enough
unfolding ready
returns-else-is_enough c = rw (sym c.is_enough.ensures ∙ c.if-is_enough.false, c.if-is_enough.false)
