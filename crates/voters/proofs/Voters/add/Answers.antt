use mathlib.Core.Path.{◌∙◌}
use Rattle.array_list.proofs.PushLaws.{pushed_cut}
use Rattle.array_list.specs.ArrayList.{items_in}
use Rattle.bincode.specs.Sizes.{base}
use Rattle.voters.proofs.Voters.add.Goals as goal

pub returns : goal.returns
returns c = c.push.ensures.0 ∙ pushed_cut base.nodes c.args.id (items_in c.args.self.now.ids) c.push.ensures.2
