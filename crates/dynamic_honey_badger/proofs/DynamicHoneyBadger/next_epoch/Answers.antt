use Rattle.dynamic_honey_badger.specs.Asked.{next_epoch}
use Rattle.dynamic_honey_badger.proofs.DynamicHoneyBadger.next_epoch.Goals as goal

pub returns : goal.returns
unfolding next_epoch
returns c = c.epoch_in.ensures
