use Rattle.steps.proofs.VerdictLaws.{used_here}
use Rattle.commit.proofs.messages.verdict_used.Goals as goal

pub returns-then-i-verdicts : goal.returns-then-i-verdicts
returns-then-i-verdicts c = used_here _ _ c.if-i-verdicts.true
