use mathlib.Core.Path.{sym, ap, ◌∙◌}
use native.Mathlib.Omega.{arith}
use borrow.Author.Tests.{not-false}
use Rattle.bincode.specs.Sizes.{base}
use Rattle.batch.specs.Batch.{batch_of, found_bytes}
use Rattle.batch.proofs.ReportLaws.{report_last, report_plan}
use Rattle.batch.proofs.Batch.join_plan.Goals as goal

pub returns-then-epoch : goal.returns-then-epoch
returns-then-epoch c = report_last base _ (batch_of c.args.self) _ (omega arith) (not-false _ (sym c.is_none.ensures ∙ c.if-is_none.false)) c.if-epoch.true

pub returns : goal.returns
returns c =
    let p = report_plan base _ (batch_of c.args.self) c.args.pub_key_set (omega arith) (not-false _ (sym c.is_none.ensures ∙ c.if-is_none.false)) c.if-epoch.false in
    let w = c.in_ok-n.ensures in
    (w.0 ∙ p.0, ap found_bytes w.1 ∙ p.1)
