use native.Mathlib.Omega.{arith}
use mathlib.Core.Path.{◌∙◌}
use lib.ListN.{length-take}
use Rattle.array_list.proofs.PushLaws.{pushed_cut}
use Rattle.bincode.specs.Sizes.{base}
use Rattle.commit.specs.Arisen.{acks_of}
use Rattle.commit.proofs.Arisen.tell.Goals as goal

pub returns-in-Owed-clause-acks : goal.returns-in-Owed-clause-acks
returns-in-Owed-clause-acks c =
    let a = c.args.self.now.acks in
    rw c.in-Owed.is (c.push.ensures.0 ∙ pushed_cut base.due c.in-Owed.i (acks_of c.args.self.now) (omega (arith, length-take a.count a.items)))
