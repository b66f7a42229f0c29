use mathlib.Core.Path.{◌∙◌}
use Rattle.array_list.proofs.PushLaws.{pushed_cut}
use Rattle.array_list.specs.ArrayList.{items_in}
use Rattle.due.proofs.DueList.append.Goals as goal

pub returns : goal.returns
returns c = c.push.ensures.0 ∙ pushed_cut 1025 c.args.item (items_in c.args.self.now.items) c.push.ensures.2
