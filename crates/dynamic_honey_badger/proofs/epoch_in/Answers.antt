use Rattle.std.proofs.Common.{rules, tests}
use mathlib.Core.Path.{ap, ◌∙◌}
use Rattle.dynamic_honey_badger.specs.Asked.{said_next}
use Rattle.dynamic_honey_badger.proofs.AskedLaws.{epoch_filtered}
use Rattle.dynamic_honey_badger.proofs.epoch_in.Goals as goal

pub returns : goal.returns
returns c = ap said_next c.ok_or.ensures.value ∙ epoch_filtered c.args.era c.args.inner _ (λ x b k. search (rules, tests)) _ _ c.checked_add-epoch.ensures c.filter.ensures
