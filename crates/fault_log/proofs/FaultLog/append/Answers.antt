use mathlib.Core.Path.{◌∙◌}
use Rattle.array_list.proofs.PushLaws.{pushed_cut}
use Rattle.array_list.specs.ArrayList.{items_in}
use Rattle.fault_log.proofs.FaultLog.append.Goals as goal

pub returns : goal.returns
returns c = c.push.ensures.0 ∙ pushed_cut 1024 c.args.fault (items_in c.args.self.now.faults) c.push.ensures.2
