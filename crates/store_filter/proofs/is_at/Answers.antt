use mathlib.Core.Path.{◌∙◌}
use Rattle.store_filter.proofs.FilterLaws.{at_place, at_other}
use Rattle.store_filter.proofs.is_at.Goals as goal

pub returns-then-x-p : goal.returns-then-x-p
returns-then-x-p c = c.is_read_at.ensures ∙ at_place c.args.s.now c.args.x.now c.args.p.now _ c.number_in.ensures c.if-x-p.true

pub returns-else-x-p : goal.returns-else-x-p
returns-else-x-p c = at_other c.args.s.now c.args.x.now c.args.p.now _ c.number_in.ensures c.if-x-p.false
