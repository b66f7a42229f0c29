use Rattle.dynamic_honey_badger.proofs.DynamicHoneyBadger.open.Goals as goal

pub returns : goal.returns
returns c = rw (c.new.ensures, c.empty.ensures)
