use mathlib.Core.Path.{◌∙◌}
use Rattle.bincode.proofs.AnswerLaws.{passed_on}
use Rattle.internal_contrib.proofs.CountLaws.{pass_start, pass_more, pass_refused, pass_done}
use Rattle.internal_contrib.proofs.pass_items.Goals as goal

pub loop-init : goal.loop-init
loop-init g c = pass_start _ _ _

pub returns-in_err-c : goal.returns-in_err-c
returns-in_err-c g c =
    passed_on _ _ c.from_residual.ensures.1
    ∙ pass_refused (g.T.Item.read_at _) _ _ _ _ c.loop.invariant c.loop-test.true _ c.pass.ensures _ c.in_err-c.was

pub loop-preserved : goal.loop-preserved
loop-preserved g c = pass_more (g.T.Item.read_at _) _ _ _ _ c.loop.invariant c.loop-test.true _ c.pass.ensures _ c.in_ok-c.was

pub returns : goal.returns
returns g c = pass_done _ _ _ _ _ c.loop.invariant c.loop-test.false
