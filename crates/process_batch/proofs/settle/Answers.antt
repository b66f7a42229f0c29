use mathlib.Core.Path.{refl, sym, ◌∙◌}
use Rattle.process_batch.proofs.SettleLaws.{settled_void, settled_decided}
use Rattle.process_batch.proofs.settle.Goals as goal

pub returns-then-is_void : goal.returns-then-is_void
returns-then-is_void c =
    let a = c.args in
    (refl, settled_void a.s.now a.parts.now a.tally c.put_votes-parts.result c.elect-e.result c.put_votes-parts.ensures c.elect-e.ensures (sym c.is_void.ensures ∙ c.if-is_void.true))

pub returns : goal.returns
returns c =
    let a = c.args in
    settled_decided a.s.now a.parts.now a.tally c.put_votes-parts.result c.elect-e.result c.put_votes-parts.ensures c.elect-e.ensures (sym c.is_void.ensures ∙ c.if-is_void.false)
    a.next_era c.decide.new.parts c.decide.result c.decide.ensures
